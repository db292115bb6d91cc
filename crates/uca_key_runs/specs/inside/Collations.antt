-- Why nothing is made of a table and a data file that were read.
use Rattle.uca_weights.specs.declared.Asked.{Asked}
use Rattle.uca_number_keys.specs.Tables.{TakesTable, RefusesTable}
use Rattle.uca_run_parts.specs.declared.faults.RunFault.{RunFault}
use Rattle.uca_run_parts.specs.declared.faults.RunFault.TheVariants.{Digits, Memory}
use Rattle.uca_run_parts.specs.Files.{TableAndData}

-- an allocation failed for the rows, or the table is none for what is asked for
abbrev pub IsNoCollation : Asked → TableAndData → RunFault → Type 0
IsNoCollation asked files Memory = TakesTable asked.numbers files.table files.properties
IsNoCollation asked files (Digits row) = RefusesTable asked.numbers files.table files.properties row
IsNoCollation asked files _ = ⊥
