-- The canonical text of a table means that table.
use Rattle.std.proofs.Common.{◌≡◌, ℕ, ◌≤◌, List, [], ◌∷◌, ◌++◌, length, map, Option, Some, None, refl, ap, ◌∙◌, arith, append_assoc, length-append}
use Rattle.std.specs.List.{AllZip, AllByRecursion}
use Rattle.std.specs.Option.{option_to_list}
use Rattle.std.proofs.lemmas.List.{length-map}
use Rattle.uca_weights.specs.declared.Weighting.{Weighting}
use Rattle.uca_weights.proofs.Lists.{each_append}
use Rattle.uca_values.specs.declared.ImplicitRange.{ImplicitRange}
use Rattle.uca_values.specs.Content.{Entry, TableContent, IsTable, IsEntry, IsImplicitRange, AreImplicitRanges}
use Rattle.uca_table.specs.Canonical.{setting_line, range_line, row_line, canonical_lines, canonical}
use Rattle.uca_table.proofs.CanonicalSizes.{length-version_line, length-setting_line, length-range_line, length-row_line}
use Rattle.uca_lines.specs.declared.files.TheConstants.{TABLE_FORM}
use Rattle.uca_lines.specs.Files.{IsFileLine}
use Rattle.uca_lines.proofs.FileLemmas.{one_value}
use Rattle.uca_table.specs.TableSoFar.{IsTableSoFar}
use Rattle.uca_table.specs.TableLines.{Item, OfVersion, OfSetting, OfRange, OfRow, IsLine, said, in_order, Says, all_of, Gives, Means}
use Rattle.uca_table.specs.Laws.{MeansOnly}
use Rattle.uca_table.proofs.TableLinesLemmas.{said-append}
use Rattle.uca_table.proofs.TableMeanings.{exact, gives_one}
use Rattle.uca_table.proofs.CanonicalLines.{version_says, version_has_no_lf, setting_says, setting_has_no_lf, range_says, range_has_no_lf, row_says, row_has_no_lf}

-- ---- Lists of lines

zip_append : {A B : Type 0} (R : A → B → Type 0) (xs ys : List A) (us vs : List B) → AllZip R xs us → AllZip R ys vs → AllZip R (xs ++ ys) (us ++ vs)
zip_append R [] ys [] vs h k = k
zip_append R [] ys (u ∷ us) vs h k = absurd h
zip_append R (x ∷ xs) ys [] vs h k = absurd h
zip_append R (x ∷ xs) ys (u ∷ us) vs h k = (h.0, zip_append R xs ys us vs h.1 k)

-- a line for each of some things for which P holds
each_line : {X : Type 0} (P : X → Type 0) (line : X → List ℕ) → ((x : X) → P x → IsFileLine TABLE_FORM (line x)) → (xs : List X) → AllByRecursion P xs
    → AllByRecursion (IsFileLine TABLE_FORM) (map line xs)
each_line P line is [] h = tt
each_line P line is (x ∷ xs) h = (is x h.0, each_line P line is xs h.1)

each_says : {X : Type 0} (P : X → Type 0) (line : X → List ℕ) (item : X → Item) → ((x : X) → P x → IsLine (line x) (item x)) → (xs : List X)
    → AllByRecursion P xs → AllZip IsLine (map line xs) (map item xs)
each_says P line item says [] h = tt
each_says P line item says (x ∷ xs) h = (says x h.0, each_says P line item says xs h.1)

any : {X : Type 0} (xs : List X) → AllByRecursion (λ _. Unit {0}) xs
any [] = tt
any (x ∷ xs) = (tt, any xs)

-- ---- What is said

said_settings : (xs : List Weighting) → said (map OfSetting xs) ≡ map OfSetting xs
said_settings [] = refl
said_settings (x ∷ xs) = ap (λ zs. OfSetting x ∷ zs) (said_settings xs)

said_ranges : (xs : List ImplicitRange) → said (map OfRange xs) ≡ map OfRange xs
said_ranges [] = refl
said_ranges (x ∷ xs) = ap (λ zs. OfRange x ∷ zs) (said_ranges xs)

said_rows : (xs : List Entry) → said (map OfRow xs) ≡ map OfRow xs
said_rows [] = refl
said_rows (x ∷ xs) = ap (λ zs. OfRow x ∷ zs) (said_rows xs)

each_range : (ranges : List ImplicitRange) → AreImplicitRanges ranges → AllByRecursion IsImplicitRange ranges
each_range [] h = tt
each_range (r ∷ ranges) h = (h.0, each_range ranges h.2)

-- ---- The lines of a table

range_line_is : (r : ImplicitRange) → IsImplicitRange r → IsFileLine TABLE_FORM (range_line r)
range_line_is r h = record { lacks = range_has_no_lf r h; short = omega (arith, length-range_line r) }

setting_line_is : (setting : Weighting) → Unit {0} → IsFileLine TABLE_FORM (setting_line setting)
setting_line_is setting h = record { lacks = setting_has_no_lf setting; short = omega (arith, length-setting_line setting) }

row_line_is : (row : Entry) → IsEntry row → IsFileLine TABLE_FORM (row_line row)
row_line_is row h = record { lacks = row_has_no_lf row h; short = omega (arith, length-row_line row h) }

lines_are : (table : TableContent) → IsTable table → AllByRecursion (IsFileLine TABLE_FORM) (canonical_lines table)
lines_are table h =
    let header = table.header in
    let settings = option_to_list header.setting in
    let before = map setting_line settings ++ map range_line header.ranges in (
      record { lacks = version_has_no_lf header.version h.header.named; short = omega (arith, length-version_line header.version h.header.named) },
      each_append (IsFileLine TABLE_FORM) before (map row_line table.rows)
          (
          each_append (IsFileLine TABLE_FORM) (map setting_line settings) (map range_line header.ranges)
          (each_line (λ _. Unit {0}) setting_line setting_line_is settings (any settings))
          (each_line IsImplicitRange range_line range_line_is header.ranges (each_range header.ranges h.header.ranges))
          )
          (each_line IsEntry row_line row_line_is table.rows h.rows.entries),
    )

one_at_most : {A : Type 0} (o : Option A) → length (option_to_list o) ≤ 1
one_at_most None = omega arith
one_at_most (Some x) = omega arith

lines_are_few : (table : TableContent) → IsTable table → length (canonical_lines table) ≤ 1000000
lines_are_few table h =
    let header = table.header in
    let settings = option_to_list header.setting in
    omega (
      arith,
      length-append (map setting_line settings ++ map range_line header.ranges) (map row_line table.rows),
      length-append (map setting_line settings) (map range_line header.ranges),
      length-map settings setting_line,
      length-map header.ranges range_line,
      length-map table.rows row_line,
      one_at_most header.setting,
      h.header.few,
      h.rows.few,
    )

-- ---- Their items

abbrev pub items_of : TableContent → List Item
items_of table = OfVersion table.header.version ∷ ((map OfSetting (option_to_list table.header.setting) ++ map OfRange table.header.ranges)
    ++ map OfRow table.rows)

items_in_order : (table : TableContent) → said (items_of table) ≡ in_order (all_of table)
items_in_order table =
    let settings = map OfSetting (option_to_list table.header.setting) in
    let ranges = map OfRange table.header.ranges in
    let rows = map OfRow table.rows in
    ap (λ items. OfVersion table.header.version ∷ items) (
    said-append (settings ++ ranges) rows
    ∙ rw (said-append settings ranges, said_settings (option_to_list table.header.setting), said_ranges table.header.ranges, said_rows table.rows)
    (append_assoc settings ranges rows)
    )

forms_are : (table : TableContent) → IsTable table → AllZip IsLine (canonical_lines table) (items_of table)
forms_are table h =
    let header = table.header in
    let settings = option_to_list header.setting in (
      version_says header.version h.header.named,
      zip_append IsLine (map setting_line settings ++ map range_line header.ranges) (map row_line table.rows)
          (map OfSetting settings ++ map OfRange header.ranges) (map OfRow table.rows)
          (
          zip_append IsLine (map setting_line settings) (map range_line header.ranges) (map OfSetting settings) (map OfRange header.ranges)
          (each_says (λ _. Unit {0}) setting_line OfSetting (λ s u. setting_says s) settings (any settings))
          (each_says IsImplicitRange range_line OfRange range_says header.ranges (each_range header.ranges h.header.ranges))
          )
          (each_says IsEntry row_line OfRow row_says table.rows h.rows.entries),
    )

begun_is : (table : TableContent) → IsTable table → IsTableSoFar (all_of table)
begun_is table h = record {
  versioned = λ none. absurd (some_is_none table.header.version none);
  ranges = h.header.ranges;
  few_ranges = h.header.few;
  rows = h.rows;
}
  where
    some_is_none : (name : List ℕ) → Some name ≡ None → ⊥
    some_is_none name e = cc

-- ---- The law

canonical_means : (table : TableContent) → IsTable table → Means (canonical table) table
unfolding canonical
canonical_means table h = (
  all_of table,
  (
    length (canonical_lines table),
    record {
      lines = canonical_lines table;
      divides = record { parts = refl; each = lines_are table h; count = lines_are_few table h };
      says = record { items = items_of table; forms = forms_are table h; order = items_in_order table; begun = begun_is table h };
      many = refl;
    },
  ),
  refl,
)

pub canonical_means_only : (table : TableContent) → IsTable table → MeansOnly (canonical table) table
canonical_means_only table h =
    let means = canonical_means table h in
    (means, (λ other also. one_value TABLE_FORM Says Gives exact.same gives_one (canonical table) other table also means))
