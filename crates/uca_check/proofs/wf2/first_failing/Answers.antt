use Rattle.std.proofs.Common.{rules}
use Rattle.std.specs.List.{AllByRecursion}
use Rattle.std.proofs.lemmas.Iterator.{IsFirst-from_position, YieldsList-from_slice}
use Rattle.uca_weights.specs.Kinds.{IsSecondaryElement, IsTertiaryElement}
use Rattle.uca_check.specs.WellFormed.{elements_of, IsHighSecondary, IsHighTertiary}
use Rattle.uca_check.specs.Searches.{IsAllowed}
use Rattle.uca_check.proofs.Firsts.{first_found, finds_each, fails_tested, holds_tested}
use Rattle.uca_check.proofs.GreatestWeightLemmas.{allowed_iff}
use Rattle.uca_check.proofs.wf2.first_failing.Goals as goal

pub returns : goal.returns
returns g c =
    finds_each (IsAllowed c.greatest_weights-greatest.result) (λ e. (IsSecondaryElement e → IsHighSecondary (elements_of c.args.rows.now) e.secondary) × (IsTertiaryElement e → IsHighTertiary (elements_of c.args.rows.now) e.tertiary))
    (allowed_iff (elements_of c.args.rows.now) c.greatest_weights-greatest.result c.greatest_weights-greatest.ensures) c.args.rows.now _
    (first_found (λ row. AllByRecursion (IsAllowed c.greatest_weights-greatest.result) row.elements) c.args.rows.now _
    (IsFirst-from_position _ _ _ (λ row. AllByRecursion (IsAllowed c.greatest_weights-greatest.result) row.elements → ⊥) (λ row. AllByRecursion (IsAllowed c.greatest_weights-greatest.result) row.elements) c.position.ensures.ran (YieldsList-from_slice c.args.rows.now cc)
    (λ x q k. fails_tested (AllByRecursion (IsAllowed c.greatest_weights-greatest.result) x.now.elements) (search rules)) (λ x q k. (search rules, holds_tested (AllByRecursion (IsAllowed c.greatest_weights-greatest.result) x.now.elements) (search rules)))))
