-- Some bytes that are the compact key of a key, and some that are of none, worked out by hand with the book of the
-- worked keys.
use Rattle.std.specs.Prelude.{ℕ, List, [], ◌∷◌}
use Rattle.uca_weights.specs.declared.Depth.TheVariants.{Weights, Identical}
use Rattle.uca_weights.specs.declared.Weighting.TheVariants.{NonIgnorable, Shifted}
use Rattle.uca_compact.specs.StoredParts.{IsCompactOf, IsOfNoKey}
use Rattle.uca_compact.specs.WorkedKeys.{small_book}

-- bytes under `NonIgnorable`: the compact key of this key, and of none
abbrev pub IsOf : (key compact : List ℕ) → Type 0
IsOf key compact = IsCompactOf Weights NonIgnorable small_book key compact

abbrev pub IsOfNone : (compact : List ℕ) → Type 0
IsOfNone compact = IsOfNoKey Weights NonIgnorable small_book compact

pub record WorkedReadings : Type 0 where
  -- a letter, and plain levels
  pub letter : IsOf (0x1C ∷ 0x47 ∷ 0 ∷ 0 ∷ 0 ∷ 0x20 ∷ 0 ∷ 0 ∷ 0 ∷ 2 ∷ []) (8 ∷ 2 ∷ [])
  -- a capital with an accent
  pub accent : IsOf (0x1C ∷ 0x47 ∷ 0 ∷ 0 ∷ 0 ∷ 0x20 ∷ 0 ∷ 0x24 ∷ 0 ∷ 0 ∷ 0 ∷ 8 ∷ 0 ∷ 2 ∷ []) (8 ∷ 4 ∷ 99 ∷ 103 ∷ 2 ∷ 101 ∷ 2 ∷ [])
  -- the last weight of the cell 1C48 to 1C5F, and an offset past it
  pub last_of_cell : IsOf (0x1C ∷ 0x5F ∷ 0 ∷ 0 ∷ 0 ∷ 0x20 ∷ 0 ∷ 0 ∷ 0 ∷ 2 ∷ []) (9 ∷ 23 ∷ 2 ∷ [])
  pub past_cell : IsOfNone (9 ∷ 24 ∷ 2 ∷ [])
  -- a cell that is not there
  pub no_cell : IsOfNone (13 ∷ 0 ∷ 0 ∷ 2 ∷ [])
  -- a lesser weight at level 1, where none is less, and the longest run of no common weight
  pub no_lesser : IsOfNone (5 ∷ 0 ∷ 2 ∷ [])
  pub no_common : IsOfNone (6 ∷ 2 ∷ [])
  -- a run with no greater weight after it
  pub run_alone : IsOfNone (8 ∷ 4 ∷ 99 ∷ 2 ∷ [])
  -- level 2 is written, and is plain
  pub plain_written : IsOfNone (8 ∷ 4 ∷ 5 ∷ [])
  -- level 2 is greater than the plain one, and the end before it says less
  pub wrong_side : IsOfNone (8 ∷ 0 ∷ 99 ∷ 103 ∷ 1 ∷ [])
  -- no end, no bytes, and bytes after the key
  pub no_end : IsOfNone (8 ∷ [])
  pub no_bytes : IsOfNone []
  pub more_bytes : IsOfNone (8 ∷ 2 ∷ 0 ∷ [])
  -- the end says that level 4 is less than the plain one, and no bytes follow
  pub no_level : IsOfNoKey Weights Shifted small_book (10 ∷ 2 ∷ [])
  -- at depth `Identical`: U+00E9 after the levels, and its first byte alone
  pub point : IsCompactOf Identical NonIgnorable small_book (0 ∷ 0 ∷ 0 ∷ 0 ∷ 0 ∷ 0 ∷ 0 ∷ 0 ∷ 0xE9 ∷ []) (2 ∷ 0xC3 ∷ 0xA9 ∷ [])
  pub half_point : IsOfNoKey Identical NonIgnorable small_book (2 ∷ 0xC3 ∷ [])
