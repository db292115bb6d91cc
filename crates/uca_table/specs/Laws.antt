-- What the canonical text of a table means.
use Rattle.std.specs.Prelude.{◌≡◌, ℕ, List}
use Rattle.uca_values.specs.Content.{TableContent, IsTable}
use Rattle.uca_table.specs.Canonical.{canonical}
use Rattle.uca_table.specs.TableLines.{Means}

-- the bytes mean this table, and no other
abbrev pub MeansOnly : List ℕ → TableContent → Type 0
MeansOnly bytes table = Means bytes table × ((other : TableContent) → Means bytes other → other ≡ table)

-- the canonical text of a table means this table
abbrev pub CanonicalTextMeansItsTable : Type 0
CanonicalTextMeansItsTable = (table : TableContent) → IsTable table → MeansOnly (canonical table) table

-- so does the canonical text of each table that a file means
abbrev pub CanonicalTextMeansTheSame : Type 0
CanonicalTextMeansTheSame = (bytes : List ℕ) (table : TableContent) → Means bytes table → MeansOnly (canonical table) table
