use Rattle.uca_check.proofs.wf5.has_shorter.Goals as goal

pub returns : goal.returns
returns g c =
    let meets = c.in-Some.ensures c.args.rows.now in
    ((λ h. meets.0 (c.has_key.ensures.0 h)), λ h. c.has_key.ensures.1 (meets.1 h))
