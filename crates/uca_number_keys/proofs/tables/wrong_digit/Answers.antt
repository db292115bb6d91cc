use Rattle.std.proofs.Common.{◌≡◌, ℕ, ◌-◌, get_or, sym, ap, ◌∙◌, inl, inr, arith}
use Rattle.uca_values.specs.Content.{properties_of}
use Rattle.uca_values.specs.Ranges.{class_in}
use Rattle.uca_elements.specs.Rows.{rows_of}
use Rattle.uca_numbers.specs.Numbers.{IsDigit}
use Rattle.uca_number_keys.proofs.TableChecks.{blamed_digit, one_more_below, ordered_from}
use Rattle.uca_number_keys.proofs.tables.wrong_digit.Goals as goal

pub returns-then-weight-last : goal.returns-then-weight-last
returns-then-weight-last g c =
    let digit : IsDigit c.loop-digit.digit = record { low = c.loop-digit.auto.digit; high = omega (arith, c.loop-digit-test.true) } in
    let found = c.digit_rows-found.ensures.found c.loop-digit.digit digit in
    let weight = c.weight_of_row-weight.ensures c.loop-digit.digit found in
    let class : c.class-class.result ≡ class_in c.args.properties.now.classes c.loop-digit.digit = c.class-class.ensures ∙ ap (λ (n : ℕ). class_in c.args.properties.now.classes n) c.from.ensures in
    blamed_digit (properties_of c.args.properties.now) c.args.rows.now c.loop-digit.digit c.loop-digit.last c.weight_of_row-weight.result
    (get_or c.digit_rows-found.result (c.loop-digit.digit - 48) 0) digit found weight c.loop-digit.invariant
    (elim c.then-weight-last.either [ inl low ↦ inl low | inr other ↦ inr (λ none. other.1 (class ∙ none)) ])

pub loop-digit-preserved : goal.loop-digit-preserved
loop-digit-preserved g c =
    let digit : IsDigit c.loop-digit.digit = record { low = c.loop-digit.auto.digit; high = omega (arith, c.loop-digit-test.true) } in
    let found = c.digit_rows-found.ensures.found c.loop-digit.digit digit in
    let class : c.class-class.result ≡ class_in c.args.properties.now.classes c.loop-digit.digit = c.class-class.ensures ∙ ap (λ (n : ℕ). class_in c.args.properties.now.classes n) c.from.ensures in
    one_more_below (properties_of c.args.properties.now) (rows_of c.args.rows.now) c.loop-digit.digit c.loop-digit.last c.weight_of_row-weight.result
    c.loop-digit.auto.digit (sym class ∙ c.if-class-ne0.false) (c.weight_of_row-weight.ensures c.loop-digit.digit found) c.if-weight-last.false c.loop-digit.invariant

pub returns : goal.returns
returns g c =
    ordered_from (properties_of c.args.properties.now) (rows_of c.args.rows.now) c.loop-digit.digit c.loop-digit.last (omega (arith, c.loop-digit-test.false)) c.loop-digit.invariant
