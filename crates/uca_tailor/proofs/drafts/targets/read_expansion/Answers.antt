-- An expansion is read over the positions as over the rows.
use Rattle.std.proofs.Common.{◌≡◌, ◌++◌, [], OnOk, inr, sym, subst}
use Rattle.uca_plans.specs.Plans.{draft_expansion}
use Rattle.uca_tailor.specs.inside.Ready.{basis_in}
use Rattle.uca_tailor.proofs.drafts.targets.read_expansion.Goals as goal

pub returns-in-Some : goal.returns-in-Some
returns-in-Some g c =
    let before = c.args.elements.now.items in
    subst
    (λ expansion. OnOk c.read.result (c.read.new.elements.items
    ≡ before ++ draft_expansion (basis_in c.args.basis.now) (record { rows = c.args.rows.now; insertions = [] }) expansion))
    (sym c.in-Some.is)
    (subst (λ es. OnOk c.read.result (c.read.new.elements.items ≡ before ++ es)) (c.requires.alike c.in-Some.text (inr c.in-Some.is)) c.read.ensures)
