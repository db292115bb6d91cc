use Rattle.uca_audit.proofs.auditing.audit_rows.Goals as goal

pub returns : goal.returns
returns g c =
    c.audit_table_rows.ensures
