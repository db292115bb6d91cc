-- Files that mean something are rejected by no cause of their own, and the numbers are those that were asked for.
use Rattle.std.proofs.Common.{◌≡◌, ◌∙◌, ap, subst, sym}
use Rattle.std.specs.Prelude.{Option, unwrap_or}
use Rattle.uca_weights.specs.declared.Asked.{Asked}
use Rattle.uca_order.specs.Keyings.{keying}
use Rattle.uca_c.specs.Opened.{IsOpenStopStatus}
use Rattle.uca_c.proofs.Telling.{told_cause, told_stop}
use Rattle.uca_c.proofs.opening.open.Goals as goal

pub returns-in-Err-clause-only : goal.returns-in-Err-clause-only
returns-in-Err-clause-only c asked meant properties asks =
    let same : c.in-Some.asked ≡ asked = ap (λ (it : Option Asked). unwrap_or it asked) (c.in-Some.ensures ∙ asks.is_asked) in
    subst (λ (it : Asked). IsOpenStopStatus it meant properties c.tell.new.error.line c.tell.new.error.kind c.tell.result) same
    (told_stop c.in-Some.asked meant properties c.in-Err.fault _ _ _ (c.in-Err.ensures.only meant properties asks.mean) c.tell.ensures)

pub returns-in-Ok-clause-only : goal.returns-in-Ok-clause-only
returns-in-Ok-clause-only c asked meant properties asks =
    c.in-Ok.ensures.only meant properties asks.mean
    ∙ ap (λ (it : Option Asked). keying (unwrap_or it asked) meant properties) (c.in-Some.ensures ∙ asks.is_asked)

pub returns-in-Err-clause-rejected : goal.returns-in-Err-clause-rejected
returns-in-Err-clause-rejected c =
    told_cause c.args.weighting c.args.depth c.in-Some.asked c.args.table.now c.args.data_file.now (sym c.in-Some.ensures) c.in-Err.fault _ _ _
    c.in-Err.ensures.fault c.tell.ensures
