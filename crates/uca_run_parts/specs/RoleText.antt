-- The name of what a file is for.
use Rattle.std.specs.Prelude.{ℕ, List, codes}
use Rattle.uca_run_parts.specs.declared.faults.Role.{Role}
use Rattle.uca_run_parts.specs.declared.faults.Role.TheVariants as roles

abbrev pub role_text : Role → List ℕ
role_text roles.Table = codes "table"
role_text roles.Data = codes "data"
role_text roles.Rules = codes "rules"
role_text roles.Certificate = codes "certificate"
role_text roles.Base = codes "base"
role_text roles.Tailored = codes "tailored"
role_text roles.Old = codes "old"
role_text roles.OldData = codes "old-data"
role_text roles.New = codes "new"
role_text roles.NewData = codes "new-data"
role_text roles.Changes = codes "changes"
role_text roles.Book = codes "book"
