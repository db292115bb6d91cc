-- Positions in a text, and what is left of it from there on where some of its non-starters have been removed.
-- Only clauses of this crate and the model of `Matches` cite this file.
use Rattle.std.specs.Prelude.{◌≡◌, ℕ, suc, ◌-◌, ◌<◌, ◌≤◌, [], ◌∷◌, Bool, true, ◌&&◌, nat_le, nat_eq, if◌then◌else◌, drop, length, slice_index}
use Rattle.std.specs.Int.{bit_at}
use Rattle.uca_text.specs.Texts.{Text, NfdText, classed}
use Rattle.uca_elements.specs.declared.places.Place.{Place}

-- whether the code point at i has been removed
abbrev pub is_gone : Place → ℕ → Bool
is_gone place i = nat_le place.run i && nat_eq (bit_at place.removed (i - place.run)) 1

-- the code points of a text that begins at i, without those that are gone
abbrev pub left_from : (ℕ → Bool) → ℕ → Text → Text
left_from gone i [] = []
left_from gone i (c ∷ t) = if gone i then left_from gone (suc i) t else c ∷ left_from gone (suc i) t

-- what is left of a text from i on
abbrev pub left_at : NfdText → Place → ℕ → Text
left_at s place i = left_from (is_gone place) i (drop i (classed s))

-- what is left of a text from a position on
abbrev pub left_of : NfdText → Place → Text
left_of s place = left_at s place place.at

-- A position is in a text: non-starters are from `run` up to `end`, what is gone is among them, and `at` is there or
-- right after them.
pub record IsPlace (s : NfdText) (place : Place) : Type 0 where
  pub begun : place.run ≤ place.at
  pub reached : place.at ≤ place.end
  pub within : place.end ≤ length s.points
  pub non_starters : (k : ℕ) → place.run ≤ k → k < place.end → slice_index s.classes k ≡ 0 → ⊥
  pub gone_before : (k : ℕ) → is_gone place k ≡ true → k < place.end
