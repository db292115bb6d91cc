use Rattle.std.proofs.Common.{rules}
use Rattle.std.proofs.lemmas.Iterator.{IsFirst-from_position, YieldsList-from_slice}
use Rattle.uca_check.specs.WellFormed.{MeetsWF1}
use Rattle.uca_check.proofs.Firsts.{first_found, fails_tested, holds_tested}
use Rattle.uca_check.proofs.wf1.first_failing.Goals as goal

pub returns : goal.returns
returns g c =
    first_found MeetsWF1 c.args.rows.now _
    (IsFirst-from_position _ _ _ (λ row. MeetsWF1 row → ⊥) MeetsWF1 c.position.ensures.ran (YieldsList-from_slice c.args.rows.now cc)
    (λ x q k. fails_tested (MeetsWF1 x.now) (search rules)) (λ x q k. (search rules, holds_tested (MeetsWF1 x.now) (search rules))))
