-- What is found of keys in what is left of a text.
use Rattle.std.specs.Prelude.{◌≡◌, ℕ, suc, ◌<◌, ◌≤◌, List, ◌∷◌, true, Option, Some, None, drop, take, length}
use Rattle.uca_text.specs.Texts.{Text, NfdText, code_points}
use Rattle.uca_elements.specs.Rows.{Keys}
use Rattle.uca_elements.specs.Parts.{Part, Row, Implicit}
use Rattle.uca_elements.specs.Reading.{longest_key, row_portion, parts}
use Rattle.uca_elements.specs.Places.{left_at, left_of, IsPlace}
use Rattle.uca_elements.specs.declared.places.Place.{Place}
use Rattle.uca_elements.specs.declared.matches.Longest.{Longest}
use Rattle.uca_elements.specs.declared.matches.Portion.{Portion}
use Rattle.uca_elements.specs.declared.matches.Match.{Match}
use Rattle.uca_elements.specs.declared.matches.Match.TheVariants.{Key, Unlisted}

-- a node stands for these code points, which are a key
pub record IsFound {N : Type 0} (stands_for : N → List ℕ → Type 0) (keys : Keys) (key : List ℕ) (node : N) : Type 0 where
  pub stands : stands_for node key
  pub is_key : keys key ≡ true

abbrev pub len_left : NfdText → Place → ℕ → ℕ
len_left s place first = length (left_at s place first)

-- the longest key of at most n code points at the front of what is left from `first` on, and the position after it
pub record IsLongestKey {N : Type 0} (stands_for : N → List ℕ → Type 0) (keys : Keys) (s : NfdText) (place : Place) (first n : ℕ) (key : Longest N) :
    Type 0 where
  pub count : ℕ
  pub longest : longest_key keys (left_at s place first) n ≡ suc count
  pub stands : stands_for key.node (code_points (take (suc count) (left_at s place first)))
  pub left : left_at s place key.after ≡ drop (suc count) (left_at s place first)
  pub onward : first < key.after
  pub within : key.after ≤ length s.points

abbrev pub IsLongest : {N : Type 0} → (N → List ℕ → Type 0) → Keys → NfdText → Place → ℕ → ℕ → Option (Longest N) → Type 0
IsLongest stands_for keys s place first n None = longest_key keys (left_at s place first) n ≡ 0
IsLongest stands_for keys s place first n (Some key) = IsLongestKey stands_for keys s place first n key

-- the part is the key that a node stands for, or a code point
abbrev pub IsGiven : {N : Type 0} → (N → List ℕ → Type 0) → Part → Match N → Type 0
IsGiven stands_for part (Key node) = (key : List ℕ) × (part ≡ Row key) × stands_for node key
IsGiven stands_for part (Unlisted c) = part ≡ Implicit c

-- what a key becomes, after which the text goes on at a position
pub record IsExtended {N : Type 0} (stands_for : N → List ℕ → Type 0) (keys : Keys) (s : NfdText) (front : Text) (place : Place) (portion : Portion N) :
    Type 0 where
  pub given : IsGiven stands_for (row_portion keys front (left_of s place)).part portion.given
  pub left : left_of s portion.next ≡ (row_portion keys front (left_of s place)).rest
  pub is_place : IsPlace s portion.next
  pub at : portion.next.at ≡ place.at

-- what is left from a position on is matched as what is given, and then as what is left from the next position on
pub record IsPortion {N : Type 0} (stands_for : N → List ℕ → Type 0) (keys : Keys) (s : NfdText) (place : Place) (portion : Portion N) : Type 0 where
  pub part : Part
  pub matched : parts keys (left_of s place) ≡ part ∷ parts keys (left_of s portion.next)
  pub given : IsGiven stands_for part portion.given
  pub is_place : IsPlace s portion.next
  pub onward : place.at < portion.next.at
