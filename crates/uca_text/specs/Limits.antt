-- How long a text may be, and how many non-starters may come in a row.
use Rattle.std.specs.Prelude.{◌≡◌, ℕ, ◌+◌, ◌<◌, ◌≤◌, List, length, slice_index}
use Rattle.std.specs.List.{AllByRecursion}
use Rattle.std.specs.Char.{IsScalar}
use Rattle.uca_text.specs.Texts.{NfdText}

-- more than 64 non-starters in a row begin at `place`
pub record IsLongRun (classes : List ℕ) (place : ℕ) : Type 0 where
  pub within : place + 65 ≤ length classes
  pub non_starters : (k : ℕ) → k < 65 → 0 < slice_index classes (place + k)

abbrev pub HasNoLongRun : List ℕ → Type 0
HasNoLongRun classes = (place : ℕ) → ¬ (IsLongRun classes place)

-- the first such place, which is the first non-starter of its run
pub record IsFirstLongRun (classes : List ℕ) (place : ℕ) : Type 0 where
  pub run : IsLongRun classes place
  pub first : (earlier : ℕ) → earlier < place → ¬ (IsLongRun classes earlier)

-- What is true of every text that is accepted. Each code point has its class, there are at most
-- 1,048,576 of them, and at most 64 non-starters come in a row.
pub record IsAccepted (s : NfdText) : Type 0 where
  pub same : length s.classes ≡ length s.points
  pub few : length s.points ≤ 1048576
  pub short_runs : HasNoLongRun s.classes

-- what is true of every text in Normalization Form D: it is accepted, and its code points are Unicode scalar values
pub record IsNormal (s : NfdText) : Type 0 where
  pub accepted : IsAccepted s
  pub scalars : AllByRecursion IsScalar s.points
