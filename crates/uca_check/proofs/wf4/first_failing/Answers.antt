use Rattle.std.proofs.Common.{rules}
use Rattle.std.specs.List.{AllByRecursion}
use Rattle.std.proofs.lemmas.Iterator.{IsFirst-from_position, YieldsList-from_slice}
use Rattle.uca_check.specs.WellFormed.{elements_of, IsVariableBetween}
use Rattle.uca_check.specs.Searches.{StandsApart}
use Rattle.uca_check.proofs.Firsts.{first_found, finds_each, fails_tested, holds_tested}
use Rattle.uca_check.proofs.VariableRangeLemmas.{apart_iff}
use Rattle.uca_check.proofs.wf4.first_failing.Goals as goal

pub returns : goal.returns
returns g c =
    finds_each (StandsApart c.variable_range-range.result) (IsVariableBetween (elements_of c.args.rows.now))
    (apart_iff (elements_of c.args.rows.now) c.variable_range-range.result c.variable_range-range.ensures) c.args.rows.now _
    (first_found (λ row. AllByRecursion (StandsApart c.variable_range-range.result) row.elements) c.args.rows.now _
    (IsFirst-from_position _ _ _ (λ row. AllByRecursion (StandsApart c.variable_range-range.result) row.elements → ⊥) (λ row. AllByRecursion (StandsApart c.variable_range-range.result) row.elements) c.position.ensures.ran (YieldsList-from_slice c.args.rows.now cc)
    (λ x q k. fails_tested (AllByRecursion (StandsApart c.variable_range-range.result) x.now.elements) (search rules)) (λ x q k. (search rules, holds_tested (AllByRecursion (StandsApart c.variable_range-range.result) x.now.elements) (search rules)))))
