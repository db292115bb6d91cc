-- Tables of letters without marks are tables, and are well-formed.
use Rattle.std.proofs.Common.{◌≡◌, ◌≢◌, ℕ, suc, ◌<◌, ◌≤◌, List, [], ◌∷◌, length, true, false, Bool, ◌&&◌, nat_lt, Contains}
use Rattle.std.proofs.Common.{refl, sym, ap, subst, arith, ◌∙◌, ⊎_elim, length-append}
use Rattle.std.specs.List.{AllByRecursion}
use Rattle.std.specs.Bool.{⊤}
use Rattle.std.specs.Char.{IsScalar}
use Rattle.std.proofs.lemmas.Bool.Decides.{nat_tests}
use Rattle.uca_weights.specs.declared.Element.{Element}
use Rattle.uca_values.specs.Content.{Entry, Fits, IsEntry, AreDistinct, AreRows, keys_of}
use Rattle.uca_check.specs.WellFormed.{elements_of, HasGap, IsVariable, IsVariableBetween, MeetsWF1, MeetsWF2, MeetsWF3, MeetsWF4, MeetsWF5, IsWellFormed}
use Rattle.uca_weights.proofs.Lists.{each_weaker, each_any, each_contained}
use Rattle.uca_elements.specs.WorkedTable.{plain, row}
use Rattle.uca_check.proofs.RowElements.{each_of_rows}
use Rattle.uca_tailorings.proofs.Parts.{of_part}

-- ---- Rows

-- an element with three weights of 16 bits that is not variable
pub record IsFull (e : Element) : Type 0 where
  pub primary : e.primary ≢ 0
  pub secondary : e.secondary ≢ 0
  pub tertiary : e.tertiary ≢ 0
  pub mark : e.mark ≡ false
  pub fits : Fits e

-- the row of a letter with some such elements
pub record IsLetterRow (r : Entry) : Type 0 where
  pub point : ℕ
  pub scalar : IsScalar point
  pub key : r.key ≡ point ∷ []
  pub full : AllByRecursion IsFull r.elements
  pub some : 1 ≤ length r.elements
  pub few : length r.elements ≤ 32

-- a weight of 16 bits other than 0
abbrev is_weight : ℕ → Bool
is_weight w = nat_lt 0 w && nat_lt w 0x1_0000

-- three such weights
pub full_plain : (primary secondary tertiary : ℕ) → (is_weight primary && is_weight secondary && is_weight tertiary) ≡ true →
    IsFull (plain primary secondary tertiary)
full_plain primary secondary tertiary weights =
    record {
      primary = λ none. grind (arith, nat_tests, weights, none);
      secondary = λ none. grind (arith, nat_tests, weights, none);
      tertiary = λ none. grind (arith, nat_tests, weights, none);
      mark = refl;
      fits = record {
        primary = grind (arith, nat_tests, weights);
        secondary = grind (arith, nat_tests, weights);
        tertiary = grind (arith, nat_tests, weights);
      };
    }

-- the row of a letter with one of them
pub letter_row : (point primary secondary tertiary : ℕ) → IsScalar point →
    (is_weight primary && is_weight secondary && is_weight tertiary) ≡ true → IsLetterRow (row (point ∷ []) (plain primary secondary tertiary))
letter_row point primary secondary tertiary scalar weights =
    record {
      point = point;
      scalar = scalar;
      key = refl;
      full = (full_plain primary secondary tertiary weights, tt);
      some = omega arith;
      few = omega arith;
    }

-- ---- Tables

-- such a row is one that a table may have
letter_entry : (r : Entry) → IsLetterRow r → IsEntry r
letter_entry r h =
    record {
      points = subst (AllByRecursion IsScalar) (sym h.key) (h.scalar, tt);
      some_points = omega (arith, ap length h.key);
      few_points = omega (arith, ap length h.key);
      fits = each_weaker IsFull Fits (λ e full. full.fits) r.elements h.full;
      some_elements = h.some;
      few_elements = h.few;
    }

-- the keys are code points that rise from this one on
abbrev pub AreRisingFrom : ℕ → List Entry → Type 0
AreRisingFrom low [] = ⊤
AreRisingFrom low (r ∷ rows) = (point : ℕ) × (r.key ≡ point ∷ []) × (low ≤ point) × AreRisingFrom (suc point) rows

-- a key that is a code point from this one on
abbrev IsFrom : ℕ → List ℕ → Type 0
IsFrom low key = (point : ℕ) × (key ≡ point ∷ []) × (low ≤ point)

-- all keys of rising rows are so
keys_from : (low start : ℕ) (rows : List Entry) → low ≤ start → AreRisingFrom start rows → AllByRecursion (IsFrom low) (keys_of rows)
keys_from low start [] under h = tt
keys_from low start (r ∷ rows) under h =
    ((h.0, h.1, omega (arith, under, h.2)), keys_from low (suc h.0) rows (omega (arith, under, h.2)) h.3)

-- so a lower code point is none of them
none_below : (start point : ℕ) (rows : List Entry) → AreRisingFrom start rows → point < start → ¬ (Contains (keys_of rows) (point ∷ []))
none_below start point rows h below contains =
    let from = each_contained (IsFrom start) (keys_of rows) (point ∷ []) (keys_from start start rows (omega arith) h) contains in
    let same : point ∷ [] ≡ from.0 ∷ [] = from.1 in
    let heads : point ≡ from.0 = cc in
    omega (arith, heads, below, from.2)

-- rows whose keys rise have different keys
rising_distinct : (start : ℕ) (rows : List Entry) → AreRisingFrom start rows → AreDistinct rows
rising_distinct start [] h = tt
rising_distinct start (r ∷ rows) h = (
  λ contains. none_below (suc h.0) h.0 rows h.3 (omega arith) (subst (Contains (keys_of rows)) h.1 contains),
  rising_distinct (suc h.0) rows h.3,
)

-- some rows of letters in rising order are the rows of a table
pub letters_table : (rows : List Entry) → AllByRecursion IsLetterRow rows → AreRisingFrom 0 rows → length rows ≤ 200000 → AreRows rows
letters_table rows letters rising few =
    record { entries = each_weaker IsLetterRow IsEntry letter_entry rows letters; distinct = rising_distinct 0 rows rising; few = few }

-- ---- Conditions on tables

-- an element with three weights has no gap
no_gap : (e : Element) → IsFull e → ¬ (HasGap e)
no_gap e full gap = ⊎_elim (λ second. full.secondary second.1) (λ third. full.tertiary third.1) gap

-- all elements of rows of letters are so
all_full : (rows : List Entry) → AllByRecursion IsLetterRow rows → AllByRecursion IsFull (elements_of rows)
all_full rows letters = each_of_rows IsFull rows (each_weaker IsLetterRow (λ r. AllByRecursion IsFull r.elements) (λ r letter. letter.full) rows letters)

-- a row of a letter has no gap
wf1_at : (r : Entry) → IsLetterRow r → MeetsWF1 r
wf1_at r h = record { gaps = λ before e after split gap. absurd (no_gap e (of_part IsFull r.elements before e after h.full split) gap) }

-- no secondary or tertiary element
wf2_at : (rows : List Entry) (r : Entry) → IsLetterRow r → MeetsWF2 rows r
wf2_at rows r h = each_weaker IsFull _ (λ e full. (λ second. absurd (full.primary second.0), λ third. absurd (full.primary third.0))) r.elements h.full

-- no element without a primary
wf3_at : (r : Entry) → IsLetterRow r → MeetsWF3 r
wf3_at r h = each_weaker IsFull (λ e. IsVariable e → e.primary ≢ 0) (λ e full variable. full.primary) r.elements h.full

-- and no element is between variable ones, since there are no variable ones
wf4_at : (rows : List Entry) → AllByRecursion IsLetterRow rows → (r : Entry) → MeetsWF4 rows r
wf4_at rows letters r = each_any (IsVariableBetween (elements_of rows)) between r.elements
  where
    -- no element is between two variable elements
    between : (e : Element) → IsVariableBetween (elements_of rows) e
    between e =
        each_weaker IsFull _
        (λ v full. each_any _ (λ w first second low high. let none : false ≡ true = sym full.mark ∙ first in absurd cc) (elements_of rows))
        (elements_of rows) (all_full rows letters)

-- its key is short
wf5_at : (class : ℕ → ℕ) (rows : List Entry) (r : Entry) → IsLetterRow r → MeetsWF5 class rows r
wf5_at class rows r h =
    record {
      shorter = λ front last split long some.
          absurd (let one = ap length (sym h.key ∙ split) in let sum = length-append front (last ∷ []) in omega arith);
    }

-- so a table of such rows is well-formed
pub letters_well_formed : (rows : List Entry) (class : ℕ → ℕ) → AllByRecursion IsLetterRow rows → IsWellFormed class rows
letters_well_formed rows class letters =
    record {
      wf1 = each_weaker IsLetterRow MeetsWF1 wf1_at rows letters;
      wf2 = each_weaker IsLetterRow (MeetsWF2 rows) (wf2_at rows) rows letters;
      wf3 = each_weaker IsLetterRow MeetsWF3 wf3_at rows letters;
      wf4 = each_any (MeetsWF4 rows) (wf4_at rows letters) rows;
      wf5 = each_weaker IsLetterRow (MeetsWF5 class rows) (wf5_at class rows) rows letters;
    }
