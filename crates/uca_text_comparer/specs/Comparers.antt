-- What callers see of a value that compares texts.
use Rattle.std.specs.Prelude.{List}
use Rattle.uca_weights.specs.declared.Settings.{Settings}
use Rattle.uca_values.specs.declared.ImplicitRange.{ImplicitRange}
use Rattle.uca_values.specs.Content.{DataContent, properties_of}
use Rattle.uca_elements.specs.Rows.{Rows}
use Rattle.uca_elements.specs.Collations.{Collation}

-- what it reads texts by, and the settings
pub record ComparerState (L : Type 0) : Type 0 where
  pub lookup : L
  pub ranges : List ImplicitRange
  pub data_file : DataContent
  pub settings : Settings

-- what it reads texts by, where `content` is the map that its lookup is
abbrev pub collation_by : {L : Type 0} → (L → Rows) → ComparerState L → Collation
collation_by content c = record { rows = content c.lookup; ranges = c.ranges; properties = properties_of c.data_file }
