-- What one more line adds.
use Rattle.std.specs.Prelude.{◌≡◌, ℕ, ◌+◌, ◌<◌, ⊤, true, false, List}
use Rattle.uca_values.specs.Content.{IsClass}
use Rattle.uca_values.specs.Adding.{with_class, with_core, with_other}
use Rattle.uca_table.specs.declared.data_file.lines.RangeLine.{RangeLine}
use Rattle.uca_table.specs.declared.data_file.lines.RangeLine.TheVariants.{Class, Core, Other}
use Rattle.uca_table.specs.DataLines.{Item, Nothing, Start, OfRange, IsLine}
use Rattle.uca_table.specs.DataSoFar.{Said, IsBarred, count_before}

-- what is said with one more range
abbrev pub with_range : Said → RangeLine → Said
with_range said (Class r) = record said { properties = with_class r said.properties; classes = said.classes + 1 }
with_range said (Core r) = record said { properties = with_core r said.properties; core = said.core + 1 }
with_range said (Other r) = record said { properties = with_other r said.properties; other = said.other + 1 }

-- the class of a range is one that a range may have
abbrev pub IsNumbered : RangeLine → Type 0
IsNumbered (Class r) = IsClass r.class
IsNumbered _ = ⊤

-- the range may be added to the first, and the second is what is said with it
pub record IsAdded (old : Said) (r : RangeLine) (new : Said) : Type 0 where
  pub free : IsBarred old r → ⊥
  pub room : count_before old r < 4096
  pub with : new ≡ with_range old r

-- what is said, with what a line says
abbrev pub Adds : Said → Item → Said → Type 0
Adds old Nothing new = new ≡ old
Adds old Start new = (old.started ≡ false) × (new ≡ record old { started = true })
Adds old (OfRange r) new = (old.started ≡ true) × IsAdded old r new

-- the line is acceptable, and the second is what is said with it
pub record Takes (old : Said) (line : List ℕ) (new : Said) : Type 0 where
  pub item : Item
  pub form : IsLine line item
  pub adds : Adds old item new
