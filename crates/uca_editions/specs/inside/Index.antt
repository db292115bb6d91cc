-- How changes are looked up in a text.
use Rattle.std.specs.Prelude.{◌≡◌, ℕ, List, true, false, length, Contains, slice_index}
use Rattle.std.specs.List.{AllByRecursion}
use Rattle.uca_values.specs.declared.CodePointRange.{CodePointRange}
use Rattle.uca_values.specs.Ranges.{is_between, is_within}
use Rattle.uca_table.specs.inside.Keeping.{has_bit}
use Rattle.uca_text.specs.Occurring.{OccursInOrder}
use Rattle.uca_change_files.specs.Changes.{ChangeContent, IsChangeList}

-- ---- Marks of code points, as bits

-- there is a bit for each code point
abbrev pub HasAllWords : List ℕ → Type 0
HasAllWords words = length words ≡ 17408

abbrev pub IsMarked : List ℕ → ℕ → Type 0
IsMarked words point = has_bit words point ≡ true

-- what was marked is marked still
abbrev pub KeepsMarks : List ℕ → List ℕ → Type 0
KeepsMarks old new = (point : ℕ) → IsMarked old point → IsMarked new point

-- the code points of the range are marked
abbrev pub HasMarks : List ℕ → CodePointRange → Type 0
HasMarks words r = (point : ℕ) → is_between r.first r.last point ≡ true → IsMarked words point

-- the first code point of a text
abbrev pub first_of : List ℕ → ℕ
first_of text = slice_index text 0

-- These are the marks of a list of changes: the code points of the ranges are marked, and those that texts begin with. Others may be
-- marked too.
pub record AreMarked (content : ChangeContent) (words : List ℕ) : Type 0 where
  pub list : IsChangeList content
  pub all : HasAllWords words
  pub texts : AllByRecursion (λ text. IsMarked words (first_of text)) content.texts
  pub ranges : AllByRecursion (HasMarks words) content.ranges

-- ---- What has been looked at of a text

-- The code points that were seen affect nothing. None lies in a changed range, and no changed text that begins with one of
-- them occurs in the text.
pub record IsFree (content : ChangeContent) (points seen : List ℕ) : Type 0 where
  pub outside : (point : ℕ) → Contains seen point → is_within content.ranges point ≡ false
  pub texts : (text : List ℕ) → Contains content.texts text → Contains seen (first_of text) → ¬ (OccursInOrder text points)
