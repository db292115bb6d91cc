-- How a program finds the levels of stored keys.
use Rattle.std.specs.Prelude.{◌≡◌, ℕ, ◌*◌, ◌<◌, ◌≤◌, List, ◌++◌, map, length, take, drop, Option, Some, None, option_map}
use Rattle.std.specs.List.{AllByRecursion}
use Rattle.std.specs.Str.{encode_utf8_all}
use Rattle.uca_weights.specs.declared.Depth.{Depth}
use Rattle.uca_weights.specs.declared.Weighting.{Weighting}
use Rattle.uca_compact.specs.declared.level_bytes.LevelBytes.{LevelBytes}
use Rattle.uca_compact.specs.declared.stored.StoredEnd.{StoredEnd}
use Rattle.uca_compact.specs.declared.stored.StoredEnd.TheVariants.{Next, Key, Single}
use Rattle.uca_compact.specs.CompactKeys.{KeyParts}
use Rattle.uca_compact.specs.LevelBytes.{weights_in, level_bytes_in}
use Rattle.uca_compact.specs.StoredParts.{StoredLevel, stored_level, points_after}

-- the level with this end
abbrev pub level_of : StoredEnd → List ℕ → Option StoredLevel
level_of (Next bytes) ws = Some (record { weights = ws; rest = Some bytes.now })
level_of Key ws = Some (record { weights = ws; rest = None })
level_of Single ws = None

-- weights before a level
abbrev pub weights_before : List ℕ → Option StoredLevel → Option StoredLevel
weights_before front None = None
weights_before front (Some l) = Some (record { weights = front ++ l.weights; rest = l.rest })

-- the weights before a position of a level were read
pub record IsSplitTo (bytes : List ℕ) (at : ℕ) : Type 0 where
  pub number : ℕ
  pub size : 2 * number ≡ at
  pub within : at ≤ length bytes
  pub len : length (weights_in (take at bytes)) ≡ number
  pub some : AllByRecursion (λ w. 0 < w) (weights_in (take at bytes))
  pub read : weights_before (weights_in (take at bytes)) (stored_level (drop at bytes)) ≡ stored_level bytes

-- the code points after the last level of weights, which ends so
abbrev pub points_of : Depth → StoredEnd → Option (List ℕ)
points_of depth (Next bytes) = points_after depth (Some bytes.now)
points_of depth Key = points_after depth None
points_of depth Single = None

-- the parts of a key with these levels, by its code points
abbrev pub parts_of : Weighting → LevelBytes → Option (List ℕ) → Option KeyParts
parts_of weighting levels points = option_map (λ ps. record { levels = map weights_in (level_bytes_in weighting levels); points = ps }) points

-- these bytes, and code points after them
abbrev pub with_points : List ℕ → Option (List ℕ) → Option (List ℕ)
with_points front points = option_map (λ ps. front ++ encode_utf8_all ps) points
