-- Stored keys put through the maps of a worked tailoring, worked out by hand. There the primary 1C48 becomes 1C49. The other
-- weights that have an image keep their number.
use Rattle.std.specs.Prelude.{◌≡◌, ℕ, List, [], ◌∷◌, ◌++◌, Some, None}
use Rattle.uca_weights.specs.declared.Depth.{Depth}
use Rattle.uca_weights.specs.declared.Depth.TheVariants.{Weights, Identical}
use Rattle.uca_weights.specs.declared.Weighting.{Weighting}
use Rattle.uca_weights.specs.declared.Weighting.TheVariants.{NonIgnorable, Shifted}
use Rattle.uca_order.specs.Levels.{level_bytes}
use Rattle.uca_tailorings.specs.Inputs.{maps_of}
use Rattle.uca_tailorings.specs.Moves.{moved_key}
use Rattle.uca_tailorings.specs.Worked.{moving_runs}

-- the key of these groups, and then these bytes, becomes that of others, with the same bytes
abbrev pub Becomes : Depth → Weighting → List ℕ → List ℕ → List ℕ → Type 0
Becomes depth weighting groups moved bytes = moved_key (maps_of moving_runs) depth weighting (level_bytes groups ++ bytes) ≡ Some (level_bytes moved ++ bytes)

-- there is no result for the bytes
abbrev pub HasNoResult : Depth → Weighting → List ℕ → Type 0
HasNoResult depth weighting bytes = moved_key (maps_of moving_runs) depth weighting bytes ≡ None

pub record WorkedMovedKeys : Type 0 where
  -- `ab`, the empty text, and a text of core Han
  pub letters : Becomes Weights NonIgnorable (0x1C47 ∷ 0x1C48 ∷ 0 ∷ 0x20 ∷ 0x20 ∷ 0 ∷ 2 ∷ 2 ∷ []) (0x1C47 ∷ 0x1C49 ∷ 0 ∷ 0x20 ∷ 0x20 ∷ 0 ∷ 2 ∷ 2 ∷ []) []
  pub empty : Becomes Weights NonIgnorable (0 ∷ 0 ∷ []) (0 ∷ 0 ∷ []) []
  pub han : Becomes Weights NonIgnorable (0xFB40 ∷ 0xCE00 ∷ 0 ∷ 0x20 ∷ 0 ∷ 2 ∷ []) (0xFB40 ∷ 0xCE00 ∷ 0 ∷ 0x20 ∷ 0 ∷ 2 ∷ []) []
  -- the fourth level goes by the map of level 1
  pub fourth : Becomes Weights Shifted (0x1C48 ∷ 0 ∷ 0x20 ∷ 0 ∷ 2 ∷ 0 ∷ 0xFFFF ∷ 0x1C48 ∷ []) (0x1C49 ∷ 0 ∷ 0x20 ∷ 0 ∷ 2 ∷ 0 ∷ 0xFFFF ∷ 0x1C49 ∷ []) []
  -- code points stay: U+1C48, and then U+0000
  pub identical : Becomes Identical NonIgnorable (0x1C48 ∷ 0 ∷ 0x20 ∷ 0 ∷ 2 ∷ 0 ∷ []) (0x1C49 ∷ 0 ∷ 0x20 ∷ 0 ∷ 2 ∷ 0 ∷ []) (0 ∷ 0x1C ∷ 0x48 ∷ 0 ∷ 0 ∷ 0 ∷ [])
  pub no_points : Becomes Identical Shifted (0 ∷ 0 ∷ 0 ∷ 0 ∷ []) (0 ∷ 0 ∷ 0 ∷ 0 ∷ []) []
  -- the first and the last scalar value on both sides of the surrogates: U+0000, U+D7FF, U+E000 and U+10FFFF
  pub ends : Becomes Identical NonIgnorable (0 ∷ 0 ∷ 0 ∷ []) (0 ∷ 0 ∷ 0 ∷ []) (0 ∷ 0 ∷ 0 ∷ 0 ∷ 0xD7 ∷ 0xFF ∷ 0 ∷ 0xE0 ∷ 0 ∷ 0x10 ∷ 0xFF ∷ 0xFF ∷ [])
  -- a weight that has no image, and one that has an image at level 1 alone
  pub unknown : HasNoResult Weights NonIgnorable (level_bytes (0x1C4A ∷ 0 ∷ 0x20 ∷ 0 ∷ 2 ∷ []))
  pub level : HasNoResult Weights NonIgnorable (level_bytes (0x1C47 ∷ 0 ∷ 0x1C48 ∷ 0 ∷ 2 ∷ []))
  -- a level too few and one too many, or a single byte at the end
  pub few : HasNoResult Weights Shifted (level_bytes (0x1C48 ∷ 0 ∷ 0x20 ∷ 0 ∷ 2 ∷ []))
  pub many : HasNoResult Weights NonIgnorable (level_bytes (0x1C48 ∷ 0 ∷ 0x20 ∷ 0 ∷ 2 ∷ 0 ∷ []))
  pub no_identical : HasNoResult Identical NonIgnorable (level_bytes (0x1C48 ∷ 0 ∷ 0x20 ∷ 0 ∷ 2 ∷ []))
  pub single : HasNoResult Weights NonIgnorable (level_bytes (0x1C48 ∷ 0 ∷ 0x20 ∷ 0 ∷ 2 ∷ []) ++ 0x1C ∷ [])
  -- the last code point is cut after one byte or two; a surrogate; the number after U+10FFFF
  pub one_byte : HasNoResult Identical NonIgnorable (level_bytes (0 ∷ 0 ∷ 0 ∷ []) ++ (0 ∷ 0x1C ∷ 0x48 ∷ 0 ∷ []))
  pub two_bytes : HasNoResult Identical NonIgnorable (level_bytes (0 ∷ 0 ∷ 0 ∷ []) ++ (0 ∷ 0x1C ∷ 0x48 ∷ 0 ∷ 0x1C ∷ []))
  pub surrogate : HasNoResult Identical NonIgnorable (level_bytes (0 ∷ 0 ∷ 0 ∷ []) ++ (0 ∷ 0xD8 ∷ 0 ∷ []))
  pub too_great : HasNoResult Identical NonIgnorable (level_bytes (0 ∷ 0 ∷ 0 ∷ []) ++ (0x11 ∷ 0 ∷ 0 ∷ []))
  -- The key of `b` under `Shifted`, taken as one under `NonIgnorable`. That of three spaces at depth `Weights` is not seen to be
  -- another: its fourth level happens to be whole code points.
  pub shifted : HasNoResult Identical NonIgnorable (level_bytes (0x1C48 ∷ 0 ∷ 0x20 ∷ 0 ∷ 2 ∷ 0 ∷ 0xFFFF ∷ 0 ∷ []) ++ (0 ∷ 0 ∷ 0x62 ∷ []))
  pub not_seen : Becomes Identical NonIgnorable (0 ∷ 0 ∷ 0 ∷ []) (0 ∷ 0 ∷ 0 ∷ []) (level_bytes (0x209 ∷ 0x209 ∷ 0x209 ∷ []))
