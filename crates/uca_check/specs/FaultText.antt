-- The text of an error: `WF2 row 6`.
use Rattle.std.specs.Prelude.{ℕ, List, ◌++◌, codes}
use Rattle.std.specs.Fmt.{decimal}
use Rattle.uca_check.specs.declared.IllFormed.{IllFormed}

abbrev pub ill_formed_text : IllFormed → List ℕ
ill_formed_text fault = codes "WF" ++ decimal fault.wf ++ codes " row " ++ decimal fault.row
