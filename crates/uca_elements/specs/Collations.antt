-- What texts are read by, and the collation elements that they then have (UTS #10, step S2).
use Rattle.std.specs.Prelude.{List}
use Rattle.uca_weights.specs.declared.Element.{Element}
use Rattle.uca_values.specs.declared.ImplicitRange.{ImplicitRange}
use Rattle.uca_values.specs.Content.{HeaderContent, TableContent, Properties, properties_of}
use Rattle.uca_text.specs.Texts.{NfdText, classed}
use Rattle.uca_elements.specs.Rows.{Rows, rows_of}
use Rattle.uca_elements.specs.Reading.{collation_elements}
use Rattle.uca_elements.specs.declared.collator.Collator.{Collator}

-- the rows of a table, its ranges for implicit weights, and the properties of a data file
pub record Collation : Type 0 where
  pub rows : Rows
  pub ranges : List ImplicitRange
  pub properties : Properties

-- what texts are read by with these rows, the header of a table, and the properties of a data file
abbrev pub collation_over : Rows → HeaderContent → Properties → Collation
collation_over rows header properties = record { rows = rows; ranges = header.ranges; properties = properties }

-- what they are read by under a table and the properties of a data file
abbrev pub collation_under : TableContent → Properties → Collation
collation_under table properties = collation_over (rows_of table.rows) table.header properties

-- what a collator reads by, where `content` is the map that its lookup is
abbrev pub collation_of : {L N A : Type 0} → (L → Rows) → Collator L N A → Collation
collation_of content c = record { rows = content c.lookup.now; ranges = c.header.now.ranges; properties = properties_of c.data.now }

-- the collation elements of a text
abbrev pub elements_of : Collation → NfdText → List Element
elements_of c text = collation_elements c.rows c.ranges c.properties (classed text)
