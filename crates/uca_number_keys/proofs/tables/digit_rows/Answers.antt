use Rattle.std.proofs.Common.{◌≡◌, ◌<◌, ◌≤◌, ◌+◌, ◌-◌, length, refl, sym, ap, subst, ◌∙◌, arith}
use Rattle.std.proofs.lemmas.List.{length-set}
use Rattle.uca_number_keys.specs.inside.Checks.{no_entry}
use Rattle.uca_number_keys.proofs.TableChecks.{AreFoundFrom, one_more_row, one_more_digit, none_found}
use Rattle.uca_number_keys.proofs.tables.digit_rows.Goals as goal
use Rattle.uca_number_keys.proofs.tables.digit_rows.Goals.{in-Some, in_default}

pub loop-at-init : goal.loop-at-init
loop-at-init g c = (omega (arith, c.len-at.ensures), refl, none_found c.args.rows.now c.len-at.result (c.len-at.ensures))

pub loop-at-preserved : goal.loop-at-preserved
loop-at-preserved g c =
    let inv = c.loop-at.invariant in
    let positive = c.loop-at-test.true in
    let near : c.loop-at.at ≤ length c.args.rows.now = inv.0 in
    let within : c.loop-at.at - 1 < length c.args.rows.now = omega (arith, near, positive) in
    elim c.match-lone_digit.branch [
      | in-Some w ↦
          let at : c.loop-at.at ≡ c.loop-at.at - 1 + 1 = omega (arith, positive) in
          let ten = inv.1 in
          let both = w.in-Some.ensures in (
            omega (arith, within),
            ap length w.found-is ∙ length-set c.loop-at.found w.in-Some.digit c.loop-at.at ∙ inv.1,
            subst (AreFoundFrom c.args.rows.now (c.loop-at.at - 1)) (sym w.found-is)
                (one_more_digit c.args.rows.now (c.loop-at.at - 1) c.loop-at.at c.loop-at.found w.in-Some.digit at within inv.1 both.0
                (sym (c.key.ensures no_entry) ∙ both.1) inv.2),
          )
      | in_default w ↦
          let at : c.loop-at.at ≡ c.loop-at.at - 1 + 1 = omega (arith, positive) in (
            omega (arith, within),
            ap length w.found-is ∙ inv.1,
            subst (AreFoundFrom c.args.rows.now (c.loop-at.at - 1)) (sym w.found-is)
                (one_more_row c.args.rows.now (c.loop-at.at - 1) c.loop-at.at c.loop-at.found at within
                (λ d digit same. w.in_default.ensures d digit (c.key.ensures no_entry ∙ same)) inv.2),
          )
    ]
