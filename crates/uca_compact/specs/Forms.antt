-- How the levels of a compact key are written: forms of levels, and the books that these come from.
use Rattle.std.specs.Prelude.{◌≡◌, ◌⊎◌, ⊤, ℕ, zero, suc, ◌+◌, ◌*◌, ◌<◌, ◌≤◌, List, [], ◌∷◌, ◌++◌, length}
use Rattle.std.specs.List.{AllByRecursion}
use Rattle.uca_weights.specs.declared.Weighting.{Weighting}
use Rattle.uca_weights.specs.declared.Weighting.TheVariants.{NonIgnorable, Shifted}
use Rattle.uca_books.specs.Books.{BookContent}

-- Cells of weights: each starts after the one before it, and the last one ends before `end`. The first starts at
-- `start`, and the list has the starts of the later ones.
abbrev pub AreRising : (start : ℕ) → List ℕ → (end : ℕ) → Type 0
AreRising start [] end = start < end
AreRising start (next ∷ later) end = (start < next) × AreRising next later end

-- how a level is written
pub record Form : Type 0 where
  -- its common weight, 0 for none
  pub common : ℕ
  -- how many common weights are the longest run
  pub longest : ℕ
  -- how many ends a level can have
  pub ends : ℕ
  -- the starts of the cells of lesser weights, after the first cell, which starts at 1
  pub lesser : List ℕ
  -- the starts of the cells of greater weights, after the first cell, which starts after the common weight
  pub greater : List ℕ

-- how many codes each length of a run has: one for each end, and one for "a lesser weight follows"
abbrev pub step : Form → ℕ
step f = suc f.ends

-- The code of a longest run. Codes of shorter runs before a greater weight come after it, and then the cells of greater
-- weights.
abbrev pub full : Form → ℕ
full f = f.longest * step f

-- the code of the first cell of greater weights
abbrev pub first_cell : Form → ℕ
first_cell f = full f + f.longest

-- What every form has. A form without a common weight has no runs. A level may have no lesser weights, or no greater
-- ones; then there is one cell for these, which is empty. All codes are bytes.
pub record IsForm (f : Form) : Type 0 where
  pub common : f.common < 65536
  pub longest : 0 < f.longest
  pub no_common : f.common ≡ 0 → f.longest ≡ 1
  pub lesser : ((f.common ≤ 1) × (f.lesser ≡ [])) ⊎ AreRising 1 f.lesser f.common
  pub greater : ((65535 ≤ f.common) × (f.greater ≡ [])) ⊎ AreRising (suc f.common) f.greater 65536
  pub few_lesser : length f.lesser < 256
  pub few_greater : first_cell f + length f.greater < 256

-- How many ends a level has before so many others. An end tells which of these is the first that is not plain, and
-- whether it is less or greater than the plain one.
abbrev pub ends_before : ℕ → ℕ
ends_before later = suc (2 * later)

-- forms of the levels of a key
abbrev pub AreForms : List Form → Type 0
AreForms [] = ⊤
AreForms (f ∷ forms) = IsForm f × (f.ends ≡ ends_before (length forms)) × AreForms forms

-- weights: not 0, and of two bytes
abbrev pub AreWeights : List ℕ → Type 0
AreWeights = AllByRecursion (λ w. (0 < w) × (w < 65536))

-- so many levels of weights
abbrev pub AreLevels : ℕ → List (List ℕ) → Type 0
AreLevels count levels = (length levels ≡ count) × AllByRecursion AreWeights levels

-- ---- The forms of a book

-- so many numbers in a row, from this one on
abbrev pub row : (first count : ℕ) → List ℕ
row first zero = []
row first (suc count) = first ∷ row (suc first) count

-- The starts of the cells of accents: weights of level 2 above 0020, after the first cell, which starts at 0021. The
-- weights 0021 to 008E have a cell each, 008F to 018E have one, and all greater ones have the last.
abbrev pub accent_starts : List ℕ
accent_starts = row 0x22 110 ++ 0x18F ∷ []

-- The starts of the cells of cases: weights of level 3 above 0002, after the first cell, which starts at 0003. The
-- weights 0003 to 0020 have a cell each, 0021 to 0120 have one, and all greater ones have the last.
abbrev pub case_starts : List ℕ
case_starts = row 4 30 ++ 0x121 ∷ []

-- the form of each level before so many others
abbrev pub letters_form : BookContent → ℕ → Form
letters_form b later = record { common = 0; longest = 1; ends = ends_before later; lesser = []; greater = b.letters }

abbrev pub accents_form : ℕ → Form
accents_form later = record { common = 0x20; longest = 20; ends = ends_before later; lesser = []; greater = accent_starts }

abbrev pub cases_form : ℕ → Form
cases_form later = record { common = 2; longest = 32; ends = ends_before later; lesser = []; greater = case_starts }

abbrev pub variables_form : BookContent → ℕ → Form
variables_form b later = record { common = 0xFFFF; longest = 85; ends = ends_before later; lesser = b.variables; greater = [] }

-- the forms of the levels of a key
abbrev pub forms_of : Weighting → BookContent → List Form
forms_of NonIgnorable b = letters_form b 2 ∷ accents_form 1 ∷ cases_form 0 ∷ []
forms_of Shifted b = letters_form b 3 ∷ accents_form 2 ∷ cases_form 1 ∷ variables_form b 0 ∷ []
