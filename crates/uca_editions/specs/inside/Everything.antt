-- Lists of all keys of two tables and of all code points.
use Rattle.std.specs.Prelude.{◌≡◌, ◌⊎◌, ℕ, ◌<◌, List, [], length, Contains}
use Rattle.std.specs.Char.{IsScalar}
use Rattle.std.specs.List.{AllByRecursion}
use Rattle.uca_values.specs.declared.CodePointRange.{CodePointRange}
use Rattle.uca_values.specs.declared.faults.FaultKind.{FaultKind}
use Rattle.uca_change_files.specs.Changes.{ChangeContent, IsText, OfText}
use Rattle.uca_change_files.specs.Steps.{Adds, Refuses}
use Rattle.uca_changes.specs.Changes.{Change, IsChangedPoint, IsChangedText}

-- ---- A change of everything

-- all keys of both tables and all code points are listed
pub record ListsEverything (change : Change) : Type 0 where
  pub old_keys : AllByRecursion (λ row. IsChangedText change row.key) change.old.rows
  pub new_keys : AllByRecursion (λ row. IsChangedText change row.key) change.new.rows
  pub points : (point : ℕ) → IsScalar point → IsChangedPoint change point

-- the range of all code points
abbrev pub every_point : CodePointRange
every_point = record { first = 0; last = 0x10FFFF }

-- ---- Texts that are listed

-- a text is listed after all others, or it may not be, and nothing changes
abbrev pub ListsIfItMay : ChangeContent → List ℕ → ChangeContent → Type 0
ListsIfItMay old text new =
    Adds old (OfText text) new ⊎ ((new ≡ old) × ((kind : FaultKind) × Refuses (λ item. OfText text ≡ item) old kind))

-- nothing is listed yet, and the texts are few and short enough for a list that also has a range
pub record MayListAll (old : ChangeContent) (texts : List (List ℕ)) : Type 0 where
  pub no_texts : old.texts ≡ []
  pub no_ranges : old.ranges ≡ []
  pub fit : AllByRecursion IsText texts
  pub few : length texts < 999999

-- each of the texts is listed, and there is room for a range
pub record ListsAll (texts : List (List ℕ)) (new : ChangeContent) : Type 0 where
  pub all : AllByRecursion (Contains new.texts) texts
  pub no_ranges : new.ranges ≡ []
  pub few : length new.texts < 999999
