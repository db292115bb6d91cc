-- How far the non-starters after a key have been gone through.
use Rattle.std.specs.Prelude.{◌≡◌, ℕ, ◌-◌, ◌<◌, ◌≤◌, List, [], ◌++◌, false, length, take, drop, nat_lt, slice_index}
use Rattle.std.specs.List.{list_all}
use Rattle.uca_text.specs.Texts.{Text, NfdText, code_points, classed}
use Rattle.uca_elements.specs.Rows.{Keys}
use Rattle.uca_elements.specs.Reading.{removed, members, others, non_starters_at_front, after_non_starters}
use Rattle.uca_elements.specs.Places.{is_gone, left_from, left_at, left_of}
use Rattle.uca_elements.specs.declared.places.Place.{Place}
use Rattle.uca_elements.specs.declared.matches.Extension.{Extension}

-- what a key becomes, and what is left then, where some non-starters have been skipped and the text goes on so
abbrev pub extended_key : Keys → Text → Text → Text → Text
extended_key keys key skipped t = key ++ members (removed keys key skipped (non_starters_at_front t)) (non_starters_at_front t)

abbrev pub extended_rest : Keys → Text → Text → Text → Text
extended_rest keys key skipped t = (skipped ++ others (removed keys key skipped (non_starters_at_front t)) (non_starters_at_front t))
    ++ after_non_starters t

-- the code points that are left between two positions
abbrev pub left_between : NfdText → Place → ℕ → ℕ → Text
left_between s place from to = left_from (is_gone place) from (take (to - from) (drop from (classed s)))

-- the non-starters from a position up to i have been gone through, and some of them may be gone since
pub record IsAfter (s : NfdText) (place : Place) (i : ℕ) (next : Place) : Type 0 where
  pub begun : place.at ≤ i
  pub within : i ≤ length s.points
  pub at : next.at ≡ place.at
  pub run : next.run ≡ place.run
  pub non_starters : (k : ℕ) → place.run ≤ k → k < i → slice_index s.classes k ≡ 0 → ⊥
  pub kept_beyond : (k : ℕ) → place.end ≤ k → i ≤ k → is_gone next k ≡ false

-- the key and the skipped non-starters so far become what the key before all non-starters becomes
pub record IsGoing {N : Type 0} (stands_for : N → List ℕ → Type 0) (keys : Keys) (s : NfdText) (place : Place) (front : Text) (i : ℕ)
    (so_far : Extension N) : Type 0 where
  pub key : Text
  pub skipped : Text
  pub node : stands_for so_far.node (code_points key)
  pub same_key : extended_key keys front [] (left_of s place) ≡ extended_key keys key skipped (left_at s so_far.next i)
  pub same_rest : extended_rest keys front [] (left_of s place) ≡ extended_rest keys key skipped (left_at s so_far.next i)
  pub skipped_is : skipped ≡ left_between s so_far.next place.at i
  pub highest : (class : ℕ) → 0 < class → list_all (λ d. nat_lt d.class class) skipped ≡ nat_lt so_far.highest class
