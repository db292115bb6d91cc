-- What is true of lines and their keys in all runs.
use Rattle.std.specs.Prelude.{◌≡◌, ◌≢◌, ◌↔◌, ◌++◌, ℕ, List, None, chars}
use Rattle.std.specs.Ordering.{nat_cmp}
use Rattle.std.specs.declared.cmp.Ordering.{Ordering}
use Rattle.unicode_normalization.specs.Forms.{nfd}
use Rattle.uca_weights.specs.declared.Asked.{Asked}
use Rattle.uca_weights.specs.declared.Depth.TheVariants.{Identical}
use Rattle.uca_weights.specs.declared.Numbers.{Numbers}
use Rattle.uca_weights.specs.declared.Numbers.TheVariants.{ByValue}
use Rattle.uca_values.specs.Content.{TableContent, Properties}
use Rattle.uca_text.specs.Texts.{AreCanonicallyEquivalent}
use Rattle.uca_relations.specs.Relations.{IsUntouched}
use Rattle.uca_order.specs.Levels.{lexicographic}
use Rattle.uca_numbers.specs.Numbers.{value}
use Rattle.uca_number_keys.specs.Tables.{TakesTable}
use Rattle.uca_number_keys.specs.Laws.{HaveNumbers}
use Rattle.uca_tailorings.specs.Images.{KeepAllWeights}
use Rattle.uca_tailorings.specs.Tailorings.{Tailoring, IsTailoring, IsAccepted}
use Rattle.uca_run_parts.specs.Input.{cause_of, line_text}
use Rattle.uca_order.specs.Keyings.{Keying, keying, key_of_bytes, bytes_compared}
use Rattle.uca_key_runs.specs.Keys.{printed_key, IsInKeyOrder}

-- The bytes of the keys of two lines compare as the lines do level by level, and are equal exactly where no level differs.
abbrev pub LineKeysCompareAsLines : Type 0
LineKeysCompareAsLines = (c : Keying) (left right : List ℕ) →
    (lexicographic (key_of_bytes c left) (key_of_bytes c right) ≡ (bytes_compared c left right).order)
    × ((key_of_bytes c left ≡ key_of_bytes c right) ↔ ((bytes_compared c left right).level ≡ 0))

-- Lines whose texts are canonically equivalent have one key line.
abbrev pub CanonicallyEquivalentLinesHaveOneKeyLine : Type 0
CanonicallyEquivalentLinesHaveOneKeyLine = (c : Keying) (left right : List ℕ) →
    AreCanonicallyEquivalent (chars left) (chars right) → printed_key c left ≡ printed_key c right

-- With an identical level lines whose texts are not canonically equivalent have different keys.
abbrev pub IdenticalLineKeysAreOfEquivalentLines : Type 0
IdenticalLineKeysAreOfEquivalentLines = (c : Keying) (left right : List ℕ) → c.settings.depth ≡ Identical →
    key_of_bytes c left ≡ key_of_bytes c right → AreCanonicallyEquivalent (chars left) (chars right)

-- Lines have one key order.
abbrev pub KeyOrderIsOne : Type 0
KeyOrderIsOne = (c : Keying) (lines left right : List (List ℕ)) → IsInKeyOrder c lines left → IsInKeyOrder c lines right → left ≡ right

-- ---- Lines under a tailored table

-- what lines are keyed by under the base of a tailoring, and under its tailored table
abbrev pub base_keying : Asked → Tailoring → Keying
base_keying asked tailoring = keying asked tailoring.base tailoring.properties

abbrev pub tailored_keying : Asked → Tailoring → Keying
tailored_keying asked tailoring = keying asked tailoring.tailored tailoring.properties

-- after this many lines the line has no error, and no target occurs in order in what is read of it
pub record IsUntouchedLine (numbers : Numbers) (tailoring : Tailoring) (line : List ℕ) : Type 0 where
  pub before : ℕ
  pub faultless : cause_of (line_text numbers tailoring.properties) before line ≡ None
  pub untouched : IsUntouched tailoring.relations (line_text numbers tailoring.properties line).points

-- Two lines compare alike under both settings, by order and by the level at which they differ, and so do the bytes
-- of their keys.
pub record StandAlike (one other : Keying) (left right : List ℕ) : Type 0 where
  pub compared : bytes_compared one left right ≡ bytes_compared other left right
  pub ordered : lexicographic (key_of_bytes one left) (key_of_bytes one right) ≡ lexicographic (key_of_bytes other left) (key_of_bytes other right)

-- a line has the same key under both, and the same key line
pub record HasOneKey (one other : Keying) (line : List ℕ) : Type 0 where
  pub key : key_of_bytes one line ≡ key_of_bytes other line
  pub printed : printed_key one line ≡ printed_key other line

-- A tailoring is accepted, and no target occurs in what is read of some lines. Then these lines have the same order
-- under the tailored table as under the base, whatever settings are asked for. If the maps change no weight, each of
-- them has the same key and the same key line.
pub record UntouchedLinesStay (tailoring : Tailoring) (asked : Asked) : Type 0 where
  pub alike : (left right : List ℕ) → IsUntouchedLine asked.numbers tailoring left → IsUntouchedLine asked.numbers tailoring right →
      StandAlike (tailored_keying asked tailoring) (base_keying asked tailoring) left right
  pub keys : KeepAllWeights tailoring.maps → (line : List ℕ) → IsUntouchedLine asked.numbers tailoring line →
      HasOneKey (tailored_keying asked tailoring) (base_keying asked tailoring) line

abbrev pub UntouchedLinesKeepTheirOrder : Type 0
UntouchedLinesKeepTheirOrder = (tailoring : Tailoring) → IsTailoring tailoring → IsAccepted tailoring →
    (asked : Asked) → UntouchedLinesStay tailoring asked

-- ---- Lines with numbers

-- Two lines have a number each in their Normalization Form D. What comes before the numbers does not differ at level 1.
pub record HaveNumbersInLines (c : Keying) (left right front a rest other b more : List ℕ) : Type 0 where
  pub left_text : nfd (chars left) ≡ front ++ (a ++ rest)
  pub right_text : nfd (chars right) ≡ other ++ (b ++ more)
  pub numbers : HaveNumbers c.collation c.settings.weighting front a rest other b more

-- the lines differ at level 1, and the bytes of their keys have the same order
pub record DifferAtFirst (c : Keying) (left right : List ℕ) (order : Ordering) : Type 0 where
  pub compared : bytes_compared c left right ≡ record { order = order; level = 1 }
  pub keys : lexicographic (key_of_bytes c left) (key_of_bytes c right) ≡ order

-- If numbers are to be ordered by value and a run takes the table, such lines have the order of the values.
abbrev pub NumbersOrderLines : Type 0
NumbersOrderLines = (asked : Asked) (table : TableContent) (properties : Properties) (left right front a rest other b more : List ℕ) →
    asked.numbers ≡ ByValue → TakesTable asked.numbers table properties →
    HaveNumbersInLines (keying asked table properties) left right front a rest other b more → value a ≢ value b →
    DifferAtFirst (keying asked table properties) left right (nat_cmp (value a) (value b))
