-- What a file means is a table.
use Rattle.std.proofs.Common.{◌≡◌, ℕ, true, List, [], ◌∷◌, ap, subst, ◌∙◌}
use Rattle.std.specs.List.{AllZip, AllByRecursion}
use Rattle.uca_values.specs.Content.{TableContent, IsTable, is_version_name}
use Rattle.uca_table.specs.TableSoFar.{IsTableSoFar}
use Rattle.uca_table.specs.TableLines.{Item, Nothing, OfVersion, OfSetting, OfRange, OfRow, IsLine, said, in_order, all_of, Means}

-- ---- What is said is sound

abbrev pub IsGood : Item → Type 0
IsGood Nothing = Unit {0}
IsGood (OfVersion name) = is_version_name name ≡ true
IsGood (OfSetting setting) = Unit {0}
IsGood (OfRange r) = Unit {0}
IsGood (OfRow row) = Unit {0}

line_is_good : (line : List ℕ) (item : Item) → IsLine line item → IsGood item
line_is_good line Nothing h = tt
line_is_good line (OfVersion name) h = h.named
line_is_good line (OfSetting setting) h = tt
line_is_good line (OfRange r) h = tt
line_is_good line (OfRow row) h = tt

lines_are_good : (lines : List (List ℕ)) (items : List Item) → AllZip IsLine lines items → AllByRecursion IsGood items
lines_are_good lines [] h = tt
lines_are_good [] (item ∷ items) h = absurd h
lines_are_good (line ∷ lines) (item ∷ items) h = (line_is_good line item h.0, lines_are_good lines items h.1)

said_is_good : (items : List Item) → AllByRecursion IsGood items → AllByRecursion IsGood (said items)
said_is_good [] h = tt
said_is_good (Nothing ∷ items) h = said_is_good items h.1
said_is_good (OfVersion name ∷ items) h = (h.0, said_is_good items h.1)
said_is_good (OfSetting setting ∷ items) h = (h.0, said_is_good items h.1)
said_is_good (OfRange r ∷ items) h = (h.0, said_is_good items h.1)
said_is_good (OfRow row ∷ items) h = (h.0, said_is_good items h.1)

-- ---- What a file means

table_is_good : (bytes : List ℕ) (table : TableContent) → Means bytes table → AllByRecursion IsGood (in_order (all_of table))
table_is_good bytes table h =
    let reads = h.1.1 in
    let says = reads.says in
    let good = said_is_good says.items (lines_are_good reads.lines says.items says.forms) in
    subst (AllByRecursion IsGood) (says.order ∙ ap in_order h.2) good

pub meant_is_table : (bytes : List ℕ) (table : TableContent) → Means bytes table → IsTable table
meant_is_table bytes table h =
    let good = table_is_good bytes table h in
    let begun : IsTableSoFar (all_of table) = subst IsTableSoFar h.2 h.1.1.says.begun in
    record {
      header = record { named = good.0; ranges = begun.ranges; few = begun.few_ranges };
      rows = begun.rows;
    }
