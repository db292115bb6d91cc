-- The parts of a stored key, read from its bytes.
use Rattle.std.specs.Prelude.{◌≡◌, ℕ, zero, suc, ◌+◌, ◌*◌, ◌-◌, ◌<◌, List, [], ◌∷◌, Option, Some, None, option_map, nat_eq, if◌then◌else◌}
use Rattle.std.specs.List.{AllByRecursion}
use lib.Utf8.{scalar}
use Rattle.uca_weights.specs.declared.Depth.{Depth}
use Rattle.uca_weights.specs.declared.Depth.TheVariants.{Weights, Identical}
use Rattle.uca_weights.specs.declared.Weighting.{Weighting}
use Rattle.uca_order.specs.Levels.{level_count}
use Rattle.uca_books.specs.Books.{BookContent}
use Rattle.uca_compact.specs.CompactKeys.{KeyParts, compact_key}

-- a level: its weights, and the bytes after its 00 00, or `None` if it ends with the key
pub record StoredLevel : Type 0 where
  pub weights : List ℕ
  pub rest : Option (List ℕ)

-- a weight before others
abbrev pub weight_then : ℕ → Option StoredLevel → Option StoredLevel
weight_then w None = None
weight_then w (Some l) = Some (record { weights = w ∷ l.weights; rest = l.rest })

-- a level, unless a single byte is left of it
abbrev pub stored_level : List ℕ → Option StoredLevel
stored_level [] = Some (record { weights = []; rest = None })
stored_level (a ∷ []) = None
stored_level (a ∷ b ∷ bytes) =
    if nat_eq (256 * a + b) 0 then Some (record { weights = []; rest = Some bytes }) else
    weight_then (256 * a + b) (stored_level bytes)

-- code points: three bytes each, and each a Unicode scalar value
abbrev pub stored_points : List ℕ → Option (List ℕ)
stored_points [] = Some []
stored_points (a ∷ []) = None
stored_points (a ∷ b ∷ []) = None
stored_points (a ∷ b ∷ c ∷ bytes) =
    if scalar (65536 * a + 256 * b + c) then option_map (λ points. (65536 * a + 256 * b + c) ∷ points) (stored_points bytes) else None

-- the code points after the last level of weights
abbrev pub points_after : Depth → Option (List ℕ) → Option (List ℕ)
points_after Weights None = Some []
points_after Weights (Some bytes) = None
points_after Identical None = None
points_after Identical (Some bytes) = stored_points bytes

-- this level before others
abbrev pub level_before : List ℕ → Option KeyParts → Option KeyParts
level_before level None = None
level_before level (Some k) = Some (record { levels = level ∷ k.levels; points = k.points })

-- what is read of the bytes after a level, where there are any
abbrev pub after_level : Option (List ℕ) → (List ℕ → Option KeyParts) → Option KeyParts
after_level None more = None
after_level (Some bytes) more = more bytes

-- the parts from a level on, before so many other levels
abbrev pub parts_from : Depth → (later : ℕ) → Option StoredLevel → Option KeyParts
parts_from depth later None = None
parts_from depth zero (Some l) = level_before l.weights (option_map (λ points. record { levels = []; points = points }) (points_after depth l.rest))
parts_from depth (suc later) (Some l) = level_before l.weights (after_level l.rest (λ bytes. parts_from depth later (stored_level bytes)))

-- the parts of a key
abbrev pub stored_parts : Depth → Weighting → List ℕ → Option KeyParts
stored_parts depth weighting key = parts_from depth (level_count weighting - 1) (stored_level key)

-- ---- Compact keys of stored keys

-- the bytes are a key, and these are its compact key
abbrev pub IsCompactOf : Depth → Weighting → BookContent → (key compact : List ℕ) → Type 0
IsCompactOf depth weighting b key compact = option_map (compact_key depth weighting b) (stored_parts depth weighting key) ≡ Some compact

-- these are the compact key of no bytes
abbrev pub IsOfNoKey : Depth → Weighting → BookContent → (compact : List ℕ) → Type 0
IsOfNoKey depth weighting b compact = (key : List ℕ) → AllByRecursion (λ byte. byte < 256) key → ¬ (IsCompactOf depth weighting b key compact)
