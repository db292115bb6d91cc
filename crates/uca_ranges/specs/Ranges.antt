-- Ranges of keys: a database looks up keys from a low end up to, and without, a high end, in byte order.
use Rattle.std.specs.Prelude.{◌≡◌, ◌≢◌, ℕ, zero, suc, ◌+◌, ◌-◌, ◌<◌, ◌≤◌, List, [], ◌∷◌, ◌++◌, length, flat_map, Bool, true}
use Rattle.std.specs.declared.cmp.Ordering.TheVariants.{Less}
use Rattle.uca_weights.specs.declared.Depth.{Depth}
use Rattle.uca_weights.specs.declared.Depth.TheVariants.{Weights}
use Rattle.uca_weights.specs.declared.Settings.{Settings}
use Rattle.uca_weights.specs.declared.Weighting.{Weighting}
use Rattle.uca_order.specs.Levels.{lexicographic, level_count, level_bytes, levels_bytes}
use Rattle.uca_books.specs.Books.{BookContent}
use Rattle.uca_compact.specs.Forms.{AreLevels, first_cell, letters_form}
use Rattle.uca_compact.specs.PlainLevels.{plain_level}
use Rattle.uca_compact.specs.CompactKeys.{cell, KeyParts, stored_key, compact_key, AreParts}

-- the key is not below the low end, and is below the high end
abbrev pub InRange : (low high key : List ℕ) → Type 0
InRange low high key = (lexicographic key low ≢ Less) × (lexicographic key high ≡ Less)

-- ---- What is looked up

-- level 1 begins with these weights
abbrev pub LettersBegin : (letters : List ℕ) → (levels : List (List ℕ)) → Type 0
LettersBegin letters levels = (more : List ℕ) × (later : List (List ℕ)) × (levels ≡ (letters ++ more) ∷ later)

-- the first levels are these: one level for the same letters, two for the same letters and accents
abbrev pub LevelsBegin : (firsts levels : List (List ℕ)) → Type 0
LevelsBegin firsts levels = (later : List (List ℕ)) × (levels ≡ firsts ++ later)

-- ---- Ranges of stored keys

-- A key with these first levels is their bytes alone, or goes on with 00 00.
abbrev pub levels_low : List (List ℕ) → List ℕ
levels_low firsts = levels_bytes firsts

abbrev pub levels_high : List (List ℕ) → List ℕ
levels_high firsts = levels_bytes firsts ++ (0 ∷ 1 ∷ [])

-- A key whose level 1 begins so has these bytes, and then no FF FF if the next weight is another one.
abbrev pub letters_low : List ℕ → List ℕ
letters_low letters = level_bytes letters

abbrev pub letters_high : List ℕ → List ℕ
letters_high letters = level_bytes letters ++ (0xFF ∷ 0xFF ∷ [])

-- What a program finds in a stored key: both ends of the range of its first levels, if it has so many.
abbrev pub FindsLevelsOfKey : (count : ℕ) → (key : List ℕ) → (found : Bool) → (low high : List ℕ) → Type 0
FindsLevelsOfKey count key found low high = (depth : Depth) (weighting : Weighting) (k : KeyParts) (firsts : List (List ℕ)) → AreParts depth weighting k →
    key ≡ stored_key depth k → LevelsBegin firsts k.levels → length firsts ≡ count → 0 < count →
    (found ≡ true) × (low ≡ levels_low firsts) × (high ≡ levels_high firsts)

-- What a program found in any bytes: they begin with so many levels of weights, and both ends are those of the range by
-- these. Of what follows them nothing is said.
pub record HasLevels (count : ℕ) (key low high : List ℕ) : Type 0 where
  pub firsts : List (List ℕ)
  pub rest : List ℕ
  pub levels : AreLevels count firsts
  pub begins : key ≡ levels_bytes firsts ++ rest
  pub low_end : low ≡ levels_low firsts
  pub high_end : high ≡ levels_high firsts

-- What a program finds: the range of a key that has so many levels, and no range where the bytes do not begin with so many.
abbrev pub FindsLevels : (count : ℕ) → (key : List ℕ) → (found : Bool) → (low high : List ℕ) → Type 0
FindsLevels count key found low high = FindsLevelsOfKey count key found low high × (found ≡ true → 0 < count → HasLevels count key low high)

-- ---- Ranges of compact keys

-- the next levels after some, if so many are plain
abbrev pub plain_levels : (earlier : List (List ℕ)) → ℕ → List (List ℕ)
plain_levels earlier zero = []
plain_levels earlier (suc n) = plain_level earlier ∷ plain_levels (earlier ++ plain_level earlier ∷ []) n

-- how many levels come after the first ones
abbrev pub levels_after : Weighting → List (List ℕ) → ℕ
levels_after weighting firsts = level_count weighting - length firsts

-- the compact key of these levels and plain ones
abbrev pub plain_key : Weighting → BookContent → List (List ℕ) → List ℕ
plain_key weighting b firsts =
    compact_key Weights weighting b (record { levels = firsts ++ plain_levels firsts (levels_after weighting firsts); points = [] })

-- bytes with another last one
abbrev pub with_last : (ℕ → ℕ) → List ℕ → List ℕ
with_last change [] = []
with_last change (b ∷ []) = change b ∷ []
with_last change (b ∷ c ∷ bytes) = b ∷ with_last change (c ∷ bytes)

-- The last byte of that key is the end of a level. Where other levels come after the first ones, it differs by as many
-- at most.
abbrev pub compact_levels_low : Weighting → BookContent → List (List ℕ) → List ℕ
compact_levels_low weighting b firsts = with_last (λ end. end - levels_after weighting firsts) (plain_key weighting b firsts)

abbrev pub compact_levels_high : Weighting → BookContent → List (List ℕ) → List ℕ
compact_levels_high weighting b firsts = with_last (λ end. end + suc (levels_after weighting firsts)) (plain_key weighting b firsts)

-- What a program finds in a stored key for compact keys: both ends of the range of its first levels, if it has so many.
abbrev pub FindsCompactLevels : Settings → BookContent → (count : ℕ) → (key : List ℕ) → (found : Bool) → (low high : List ℕ) → Type 0
FindsCompactLevels s b count key found low high = (k : KeyParts) (firsts : List (List ℕ)) → AreParts s.depth s.weighting k →
    key ≡ stored_key s.depth k → LevelsBegin firsts k.levels → length firsts ≡ count → 0 < count →
    (found ≡ true) × (low ≡ compact_levels_low s.weighting b firsts) × (high ≡ compact_levels_high s.weighting b firsts)

-- What a program found for compact keys: the bytes begin with so many levels of weights, and both ends are those of the
-- range by these. Of what follows them nothing is said.
pub record HasCompactLevels (s : Settings) (b : BookContent) (count : ℕ) (key low high : List ℕ) : Type 0 where
  pub firsts : List (List ℕ)
  pub rest : List ℕ
  pub levels : AreLevels count firsts
  pub few : (0 < count) × (count ≤ level_count s.weighting)
  pub begins : key ≡ levels_bytes firsts ++ rest
  pub low_end : low ≡ compact_levels_low s.weighting b firsts
  pub high_end : high ≡ compact_levels_high s.weighting b firsts

-- the cells of weights of level 1
abbrev pub letters_code : Weighting → BookContent → List ℕ → List ℕ
letters_code weighting b letters = flat_map (cell (first_cell (letters_form b (level_count weighting - 1))) 1 b.letters 65536) letters

-- A key whose level 1 begins so has these cells, and then no byte FF.
abbrev pub compact_letters_low : Weighting → BookContent → List ℕ → List ℕ
compact_letters_low weighting b letters = letters_code weighting b letters

abbrev pub compact_letters_high : Weighting → BookContent → List ℕ → List ℕ
compact_letters_high weighting b letters = letters_code weighting b letters ++ (0xFF ∷ [])
