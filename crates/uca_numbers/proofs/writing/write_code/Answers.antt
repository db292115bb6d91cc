use Rattle.std.proofs.Common.{◌≤◌, length, sym, subst, ◌∙◌}
use Rattle.uca_numbers.proofs.Written.{some_significant, code_written}
use Rattle.uca_numbers.proofs.writing.write_code.Goals as goal

pub overflow_sub-more : goal.overflow_sub-more
overflow_sub-more g c =
    subst (λ l. 1 ≤ length l) (sym c.significant-digits.ensures) (some_significant c.args.number.now (sym c.is_empty.ensures ∙ c.if-is_empty.false))

pub returns : goal.returns
returns g c =
    code_written _ _ _ _ _ c.args.number.now _ (sym c.is_empty.ensures ∙ c.if-is_empty.false) c.significant-digits.ensures
    c.in_ok-write_nines.ensures c.in_ok-push.ensures.items c.from.ensures c.in_ok-extend_from_slice.ensures.items
