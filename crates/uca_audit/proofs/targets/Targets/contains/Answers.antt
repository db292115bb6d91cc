use Rattle.std.proofs.Common.{Contains, IsTrue, ◌↔◌, subst, sym, ◌∙◌}
use Rattle.uca_audit.proofs.TargetSets.{found_iff}
use Rattle.uca_audit.proofs.targets.Targets.contains.Goals as goal

pub returns : goal.returns
returns g c =
    let found = found_iff (λ k. k.items) c.args.key.now c.self.inside.keys.keys in
    subst (λ keys. IsTrue c.contains.result ↔ Contains keys c.args.key.now) c.self.view_is (
      (λ h. found.0 (sym c.contains.ensures ∙ h)),
      λ h. c.contains.ensures ∙ found.1 h,
    )
