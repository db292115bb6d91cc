-- Some ranges that were worked out by hand.
use Rattle.std.specs.Prelude.{◌≡◌, ℕ, List, [], ◌∷◌}
use Rattle.uca_weights.specs.declared.Weighting.TheVariants.{NonIgnorable, Shifted}
use Rattle.uca_compact.specs.WorkedKeys.{small_book}
use Rattle.uca_ranges.specs.Ranges.{InRange, levels_low, levels_high, letters_low, letters_high, compact_levels_low, compact_levels_high, compact_letters_low, compact_letters_high}

-- both ends
pub record Ends : Type 0 where
  pub low : List ℕ
  pub high : List ℕ

abbrev pub to : List ℕ → List ℕ → Ends
to low high = record { low = low; high = high }

-- those of stored keys, and of compact keys of three levels and of four
abbrev pub by_levels : List (List ℕ) → Ends
by_levels firsts = to (levels_low firsts) (levels_high firsts)

abbrev pub by_letters : List ℕ → Ends
by_letters letters = to (letters_low letters) (letters_high letters)

abbrev pub three_by_levels : List (List ℕ) → Ends
three_by_levels firsts = to (compact_levels_low NonIgnorable small_book firsts) (compact_levels_high NonIgnorable small_book firsts)

abbrev pub four_by_levels : List (List ℕ) → Ends
four_by_levels firsts = to (compact_levels_low Shifted small_book firsts) (compact_levels_high Shifted small_book firsts)

abbrev pub three_by_letters : List ℕ → Ends
three_by_letters letters = to (compact_letters_low NonIgnorable small_book letters) (compact_letters_high NonIgnorable small_book letters)

pub record WorkedRanges : Type 0 where
  -- the same letters, and the same letters and accents
  pub letters : by_levels ((0x1C47 ∷ 0x1C60 ∷ []) ∷ []) ≡ to (0x1C ∷ 0x47 ∷ 0x1C ∷ 0x60 ∷ []) (0x1C ∷ 0x47 ∷ 0x1C ∷ 0x60 ∷ 0 ∷ 1 ∷ [])
  pub accents : by_levels ((0x1C47 ∷ []) ∷ (0x20 ∷ []) ∷ []) ≡ to (0x1C ∷ 0x47 ∷ 0 ∷ 0 ∷ 0 ∷ 0x20 ∷ []) (0x1C ∷ 0x47 ∷ 0 ∷ 0 ∷ 0 ∷ 0x20 ∷ 0 ∷ 1 ∷ [])
  -- no letters
  pub none : by_levels ([] ∷ []) ≡ to [] (0 ∷ 1 ∷ [])
  -- The weight 1C00 ends in 00. A key with these letters alone is in the range, and one that goes on with 0001 is not.
  pub inside : InRange (levels_low ((0x1C00 ∷ []) ∷ [])) (levels_high ((0x1C00 ∷ []) ∷ [])) (0x1C ∷ 0 ∷ 0 ∷ 0 ∷ 0 ∷ 0x20 ∷ 0 ∷ 0 ∷ 0 ∷ 2 ∷ [])
  pub outside : InRange (levels_low ((0x1C00 ∷ []) ∷ [])) (levels_high ((0x1C00 ∷ []) ∷ [])) (0x1C ∷ 0 ∷ 0 ∷ 1 ∷ 0 ∷ 0 ∷ 0 ∷ 0x20 ∷ 0 ∷ 0 ∷ 0 ∷ 2 ∷ []) → ⊥
  -- level 1 begins with a letter
  pub begins : by_letters (0x1C47 ∷ []) ≡ to (0x1C ∷ 0x47 ∷ []) (0x1C ∷ 0x47 ∷ 0xFF ∷ 0xFF ∷ [])
  -- compact keys: the same letters
  pub letters_compact : three_by_levels ((0x1C47 ∷ []) ∷ []) ≡ to (8 ∷ 0 ∷ []) (8 ∷ 5 ∷ [])
  pub letters_shifted : four_by_levels ((0x1C47 ∷ []) ∷ []) ≡ to (10 ∷ 0 ∷ []) (10 ∷ 7 ∷ [])
  pub none_compact : three_by_levels ([] ∷ []) ≡ to (0 ∷ []) (5 ∷ [])
  -- the same letters and accents: level 2 is plain
  pub accents_compact : three_by_levels ((0x1C47 ∷ []) ∷ (0x20 ∷ []) ∷ []) ≡ to (8 ∷ 1 ∷ []) (8 ∷ 4 ∷ [])
  pub accents_shifted : four_by_levels ((0x1C47 ∷ []) ∷ (0x20 ∷ []) ∷ []) ≡ to (10 ∷ 1 ∷ []) (10 ∷ 6 ∷ [])
  -- level 2 is greater than the plain one
  pub written : three_by_levels ((0x1C47 ∷ []) ∷ (0x20 ∷ 0x20 ∷ []) ∷ []) ≡ to (8 ∷ 4 ∷ 8 ∷ []) (8 ∷ 4 ∷ 11 ∷ [])
  -- all levels
  pub all : three_by_levels ((0x1C47 ∷ []) ∷ (0x20 ∷ []) ∷ (2 ∷ []) ∷ []) ≡ to (8 ∷ 2 ∷ []) (8 ∷ 3 ∷ [])
  -- level 1 begins with two letters, and with a letter that has an offset
  pub begins_compact : three_by_letters (0x1C47 ∷ 0x1C60 ∷ []) ≡ to (8 ∷ 10 ∷ []) (8 ∷ 10 ∷ 0xFF ∷ [])
  pub offset : three_by_letters (0x1C4A ∷ []) ≡ to (9 ∷ 2 ∷ []) (9 ∷ 2 ∷ 0xFF ∷ [])
