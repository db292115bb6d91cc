-- A row that is read may be in a table.
use Rattle.std.proofs.Common.{◌≡◌, ◌⊎◌, OnOk, IfErr, refl, subst, sym}
use Rattle.std.proofs.lemmas.Result.{err_from_is_err_and}
use Rattle.uca_values.specs.declared.faults.FaultKind.TheVariants as kinds
use Rattle.uca_table.specs.TableLines.{TextCause}
use Rattle.uca_table.specs.inside.Taking.{TakesText}
use Rattle.uca_table.proofs.TakeLaws.{row_is_entry, has_some, has_none, row_order_fault, row_text_fault, row_add_fault, row_taken}
use Rattle.uca_table.proofs.lines.TableLines.take_row.Goals as goal

pub returns-then-is_none-clause-fault : goal.returns-then-is_none-clause-fault
returns-then-is_none-clause-fault g c =
    row_order_fault c.args.self.now _ c.args.text.now c.self.view_is c.requires.some c.requires.row
    (has_none _ c.self.inside.version _ c.is_none.ensures c.if-is_none.true)

pub add_row-added-requires-clause-entry : goal.add_row-added-requires-clause-entry
add_row-added-requires-clause-entry g c = row_is_entry c.args.text.now c.in_ok-row.row c.in_ok-row.ensures.found

pub returns-clause-ok : goal.returns-clause-ok
returns-clause-ok g c =
    subst (λ new. OnOk c.add_row-added.result (TakesText c.args.self.now c.args.text.now new)) (sym c.self-2.view_is)
    (subst (λ old. OnOk c.add_row-added.result (TakesText old c.args.text.now c.add_row-added.new.self)) c.self.view_is
    (row_taken _ _ _ c.args.text.now c.in_ok-row.row c.add_row-added.result refl c.self.invariant.begun
    (has_some _ c.self.inside.version _ c.is_none.ensures c.if-is_none.false) c.in_ok-row.ensures.found c.add_row-added.ensures.new
    c.add_row-added.ensures.few c.add_row-added.ensures.ok))

pub returns-clause-fault : goal.returns-clause-fault
returns-clause-fault g c =
    subst (λ b. IfErr c.add_row-added.result (λ kind. (kind ≡ kinds.Memory) ⊎ TextCause b c.args.text.now kind)) c.self.view_is
    (row_add_fault _ c.args.text.now c.in_ok-row.row c.add_row-added.result
    (has_some _ c.self.inside.version _ c.is_none.ensures c.if-is_none.false) c.requires.some c.requires.row c.in_ok-row.ensures.found
    c.add_row-added.ensures.fault)

pub returns-in_err-row-clause-fault : goal.returns-in_err-row-clause-fault
returns-in_err-row-clause-fault g c =
    let p = err_from_is_err_and c.from_residual.result c.from_residual.ensures.1 in
    rw (p.1, p.2) (row_text_fault c.args.self.now _ c.args.text.now _ c.self.view_is
    (has_some _ c.self.inside.version _ c.is_none.ensures c.if-is_none.false) c.requires.some c.requires.row c.in_err-row.ensures.fault)
