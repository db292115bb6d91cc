-- Files that mean something are rejected by no cause of their own, and the numbers are those that were asked for.
use Rattle.std.proofs.Common.{◌∙◌, ap, sym}
use Rattle.std.specs.Prelude.{Option, unwrap_or}
use Rattle.uca_weights.specs.declared.Asked.{Asked}
use Rattle.uca_order.specs.Keyings.{keying}
use Rattle.uca_owned.specs.Opening.{fingerprint_by}
use Rattle.uca_c.proofs.Telling.{told_read, told_read_stop}
use Rattle.uca_c.proofs.opening.fingerprint.Goals as goal

pub returns-in-Ok-clause-only : goal.returns-in-Ok-clause-only
returns-in-Ok-clause-only c asked meant properties asks =
    c.in-Ok.ensures.only meant properties asks.mean
    ∙ ap (λ (it : Option Asked). fingerprint_by (keying (unwrap_or it asked) meant properties) c.args.table.now c.args.data_file.now) (c.in-Some.ensures ∙ asks.is_asked)

pub returns-in-Err-clause-only : goal.returns-in-Err-clause-only
returns-in-Err-clause-only c asked meant properties asks = told_read_stop meant properties c.in-Err.fault _ _ _ (c.in-Err.ensures.only meant properties asks.mean) c.tell.ensures

pub returns-in-Err-clause-rejected : goal.returns-in-Err-clause-rejected
returns-in-Err-clause-rejected c =
    told_read c.args.weighting c.args.depth c.in-Some.asked c.args.table.now c.args.data_file.now (sym c.in-Some.ensures) c.in-Err.fault _ _ _
    c.in-Err.ensures.fault c.tell.ensures
