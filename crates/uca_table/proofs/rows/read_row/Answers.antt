-- What follows the key begins with `;`.
use Rattle.std.proofs.lemmas.Result.{err_from_is_err_and}
use Rattle.uca_table.proofs.RowLaws.{row_is, key_fault, no_semicolon, elements_fault}
use Rattle.uca_table.proofs.rows.read_row.Goals as goal

pub returns-in-Err-clause-fault : goal.returns-in-Err-clause-fault
returns-in-Err-clause-fault g c =
    elements_fault c.args.text.now _ _ _ _ _ _ c.cut_at.ensures.front c.in_ok-key.ensures.found c.cut_at.ensures.back c.in-Some.ensures.cases.0
    c.in-Err.ensures.fault

pub returns-in-Ok-clause-found : goal.returns-in-Ok-clause-found
returns-in-Ok-clause-found g c =
    row_is c.args.text.now _ _ _ _ _ c.cut_at.ensures.front c.cut_at.ensures.back c.in-Some.ensures.cases.0 c.in_ok-key.ensures.found
    c.in-Ok.ensures.found

pub returns-in_err-key-clause-fault : goal.returns-in_err-key-clause-fault
returns-in_err-key-clause-fault g c =
    let p = err_from_is_err_and c.from_residual.result c.from_residual.ensures.1 in
    rw (p.1, p.2) (key_fault c.args.text.now _ _ c.cut_at.ensures.front c.in_err-key.ensures.fault)

pub returns-in_default-clause-fault : goal.returns-in_default-clause-fault
returns-in_default-clause-fault g c =
    no_semicolon c.args.text.now _ _ _ c.cut_at.ensures.front c.in_ok-key.ensures.found c.cut_at.ensures.back c.in_default.ensures.cases
