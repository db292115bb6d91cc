use Rattle.std.proofs.Common.{refl, arith}
use Rattle.uca_values.specs.Content.{properties_of}
use Rattle.uca_check.proofs.Faults.{meets_below_1, meets_below_next, first_failure}
use Rattle.uca_check.proofs.check_rows.Goals as goal

pub returns-in-Some-clause-ill_formed : goal.returns-in-Some-clause-ill_formed
returns-in-Some-clause-ill_formed g c =
    let class = (properties_of c.args.«data».now).class in
    let rows = c.args.rows.now in
    first_failure class rows 1 c.in-Some.at c.ill_formed.result c.ill_formed.ensures (omega arith, omega arith)
    (meets_below_1 class rows) c.in-Some.ensures

pub returns-in-Some-first_failing-clause-ill_formed : goal.returns-in-Some-first_failing-clause-ill_formed
returns-in-Some-first_failing-clause-ill_formed g c =
    let class = (properties_of c.args.«data».now).class in
    let rows = c.args.rows.now in
    first_failure class rows 2 c.in-Some-first_failing.at c.ill_formed-in-Some-first_failing.result
    c.ill_formed-in-Some-first_failing.ensures (omega arith, omega arith)
    (meets_below_next class rows 1 2 refl (meets_below_1 class rows) c.in_default.ensures) c.in-Some-first_failing.ensures

pub returns-in-Some-first_failing-2-clause-ill_formed : goal.returns-in-Some-first_failing-2-clause-ill_formed
returns-in-Some-first_failing-2-clause-ill_formed g c =
    let class = (properties_of c.args.«data».now).class in
    let rows = c.args.rows.now in
    first_failure class rows 3 c.in-Some-first_failing-2.at c.ill_formed-in-Some-first_failing-2.result
    c.ill_formed-in-Some-first_failing-2.ensures (omega arith, omega arith)
    (meets_below_next class rows 2 3 refl (meets_below_next class rows 1 2 refl (meets_below_1 class rows) c.in_default.ensures) c.in_default-first_failing.ensures) c.in-Some-first_failing-2.ensures

pub returns-in-Some-first_failing-3-clause-ill_formed : goal.returns-in-Some-first_failing-3-clause-ill_formed
returns-in-Some-first_failing-3-clause-ill_formed g c =
    let class = (properties_of c.args.«data».now).class in
    let rows = c.args.rows.now in
    first_failure class rows 4 c.in-Some-first_failing-3.at c.ill_formed-in-Some-first_failing-3.result
    c.ill_formed-in-Some-first_failing-3.ensures (omega arith, omega arith)
    (meets_below_next class rows 3 4 refl (meets_below_next class rows 2 3 refl (meets_below_next class rows 1 2 refl (meets_below_1 class rows) c.in_default.ensures) c.in_default-first_failing.ensures) c.in_default-first_failing-2.ensures) c.in-Some-first_failing-3.ensures

pub returns-in-Some-first_failing-4-clause-ill_formed : goal.returns-in-Some-first_failing-4-clause-ill_formed
returns-in-Some-first_failing-4-clause-ill_formed g c =
    let class = (properties_of c.args.«data».now).class in
    let rows = c.args.rows.now in
    first_failure class rows 5 c.in-Some-first_failing-4.at c.ill_formed-in-Some-first_failing-4.result
    c.ill_formed-in-Some-first_failing-4.ensures (omega arith, omega arith)
    (meets_below_next class rows 4 5 refl (meets_below_next class rows 3 4 refl (meets_below_next class rows 2 3 refl (meets_below_next class rows 1 2 refl (meets_below_1 class rows) c.in_default.ensures) c.in_default-first_failing.ensures) c.in_default-first_failing-2.ensures) c.in_default-first_failing-3.ensures) c.in-Some-first_failing-4.ensures
