-- What callers see of a value that writes keys of texts.
use Rattle.std.specs.Prelude.{ℕ, List}
use Rattle.uca_weights.specs.declared.Settings.{Settings}
use Rattle.uca_values.specs.declared.ImplicitRange.{ImplicitRange}
use Rattle.uca_values.specs.Content.{DataContent, properties_of}
use Rattle.uca_elements.specs.Rows.{Rows}
use Rattle.uca_elements.specs.Collations.{Collation}

-- what it reads texts by, the settings of its keys, and the bytes that were written last: those of a key, and those of the
-- four levels
pub record WriterState (L : Type 0) : Type 0 where
  pub lookup : L
  pub ranges : List ImplicitRange
  pub data_file : DataContent
  pub settings : Settings
  pub key : List ℕ
  pub levels : List (List ℕ)

-- what it reads texts by, where `content` is the map that its lookup is
abbrev pub collation_by : {L : Type 0} → (L → Rows) → WriterState L → Collation
collation_by content w = record { rows = content w.lookup; ranges = w.ranges; properties = properties_of w.data_file }
