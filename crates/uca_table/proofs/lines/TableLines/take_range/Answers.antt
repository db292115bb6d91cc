-- A range that may come there and may follow the others.
use Rattle.std.proofs.Common.{string_bytes, subst, List, ap, inl, refl, arith}
use Rattle.std.proofs.lemmas.Result.{err_from_is_err_and}
use Rattle.uca_values.specs.declared.ImplicitRange.{ImplicitRange}
use Rattle.std.specs.Option.{option_map}
use Rattle.uca_table.specs.TableSoFar.{TableSoFar}
use Rattle.uca_table.specs.Headers.{MayFollow}
use Rattle.uca_table.proofs.KeepingLaws.{with_rows, keeps_same}
use Rattle.uca_table.proofs.TakeLaws.{takes_range, keeps_ranges, range_text_fault, range_follow_fault, range_limit_fault}
use Rattle.uca_table.proofs.lines.TableLines.take_range.Goals as goal

pub returns-in_err-range-clause-fault : goal.returns-in_err-range-clause-fault
returns-in_err-range-clause-fault g c =
    let p = err_from_is_err_and c.from_residual.result c.from_residual.ensures.1 in
    rw (p.1, p.2) (range_text_fault c.args.self.now c.args.text.now _ _ (c.is_range_due.ensures.0 c.if-not-is_range_due.false) c.requires
    c.cut_word.ensures.rest c.in_err-range.ensures.fault)

pub returns-then-not-may_follow-clause-fault : goal.returns-then-not-may_follow-clause-fault
returns-then-not-may_follow-clause-fault g c =
    range_follow_fault c.args.self.now _ c.args.text.now _ c.in_ok-range.range _ _ c.self.view_is
    (c.is_range_due.ensures.0 c.if-not-is_range_due.false) c.requires c.cut_word.ensures.rest
    c.in_ok-range.ensures.found c.as_slice.ensures.value c.may_follow.ensures c.if-not-may_follow.true

pub returns-then-len-ge-MOST_IMPLICIT_RANGES-clause-fault : goal.returns-then-len-ge-MOST_IMPLICIT_RANGES-clause-fault
returns-then-len-ge-MOST_IMPLICIT_RANGES-clause-fault g c =
    range_limit_fault c.args.self.now _ c.args.text.now _ c.in_ok-range.range c.self.view_is
    (c.is_range_due.ensures.0 c.if-not-is_range_due.false) c.requires c.cut_word.ensures.rest c.in_ok-range.ensures.found
    (subst (λ (rs : List ImplicitRange). MayFollow rs c.in_ok-range.range) c.as_slice.ensures.value (c.may_follow.ensures.0 c.if-not-may_follow.false))
    (omega arith)

pub invariant_of-self-2 : goal.invariant_of-self-2
invariant_of-self-2 g c =
    keeps_ranges _ _ _ c.args.self.now c.args.text.now _ c.self.invariant
    (takes_range c.args.self.now _ c.args.text.now _ c.in_ok-range.range _ c.self.view_is c.self.invariant.begun
    (c.is_range_due.ensures.0 c.if-not-is_range_due.false) c.requires c.cut_word.ensures.rest c.in_ok-range.ensures.found
    (subst (λ (rs : List ImplicitRange). MayFollow rs c.in_ok-range.range) c.as_slice.ensures.value (c.may_follow.ensures.0 c.if-not-may_follow.false))
    (omega arith) c.in_ok-push.ensures.items)

pub returns-clause-ok : goal.returns-clause-ok
returns-clause-ok g c =
    takes_range c.args.self.now _ c.args.text.now _ c.in_ok-range.range _ c.self.view_is c.self.invariant.begun
    (c.is_range_due.ensures.0 c.if-not-is_range_due.false) c.requires c.cut_word.ensures.rest c.in_ok-range.ensures.found
    (subst (λ (rs : List ImplicitRange). MayFollow rs c.in_ok-range.range) c.as_slice.ensures.value (c.may_follow.ensures.0 c.if-not-may_follow.false))
    (omega arith) c.in_ok-push.ensures.items

pub returns-in_err-push-clause-fault : goal.returns-in_err-push-clause-fault
returns-in_err-push-clause-fault g c =
    let p = err_from_is_err_and c.from_residual-in_err-push.result c.from_residual-in_err-push.ensures.1 in
    rw p.1 (inl p.2)

pub invariant_of-self : goal.invariant_of-self
invariant_of-self g c =
    let inside = c.self.inside in
    let said : List ImplicitRange → TableSoFar = λ ranges. with_rows (option_map string_bytes inside.version) inside.setting ranges inside.rows in
    keeps_same _ _ _ _ _ c.self.invariant (ap said c.in_err-push.ensures.items) (λ q. refl)
