-- What changes: texts and ranges of code points, in their order.
use Rattle.std.specs.Prelude.{◌≡◌, ℕ, ◌+◌, ◌<◌, ◌≤◌, List, [], ◌∷◌, ◌++◌, length, ⊤}
use Rattle.std.specs.Char.{IsScalar}
use Rattle.std.specs.Cmp.Lexicographic.{slice_cmp}
use Rattle.std.specs.List.{AllByRecursion}
use Rattle.std.specs.Ordering.{nat_cmp}
use Rattle.std.specs.declared.cmp.Ordering.TheVariants.{Less}
use Rattle.uca_values.specs.declared.CodePointRange.{CodePointRange}

-- the texts, as their code points, and the ranges
pub record ChangeContent : Type 0 where
  pub texts : List (List ℕ)
  pub ranges : List CodePointRange

-- ---- Texts and ranges

-- 1 to 16 code points
pub record IsText (text : List ℕ) : Type 0 where
  pub some : 1 ≤ length text
  pub few : length text ≤ 16

-- the code points from one to another that is not below it
pub record IsRange (r : CodePointRange) : Type 0 where
  pub first : IsScalar r.first
  pub last : IsScalar r.last
  pub order : r.first ≤ r.last

-- a text or a range
pub data Item : Type 0 where
  OfText : List ℕ → Item
  OfRange : CodePointRange → Item

abbrev pub IsItem : Item → Type 0
IsItem (OfText text) = IsText text
IsItem (OfRange r) = IsRange r

-- ---- Their order

-- by code points, as a dictionary has words
abbrev pub IsBelow : List ℕ → List ℕ → Type 0
IsBelow s t = slice_cmp nat_cmp s t ≡ Less

-- one range ends before the other begins
abbrev pub IsBefore : CodePointRange → CodePointRange → Type 0
IsBefore r s = r.last < s.first

-- each member comes before the next one
abbrev pub AreInOrder : {X : Type 0} → (X → X → Type 0) → List X → Type 0
AreInOrder Before [] = ⊤
AreInOrder Before (x ∷ []) = ⊤
AreInOrder Before (x ∷ y ∷ more) = Before x y × AreInOrder Before (y ∷ more)

-- the last member, if there is one, comes before x
abbrev pub MayCome : {X : Type 0} → (X → X → Type 0) → List X → X → Type 0
MayCome Before [] x = ⊤
MayCome Before (y ∷ []) x = Before y x
MayCome Before (y ∷ z ∷ more) x = MayCome Before (z ∷ more) x

-- which texts and ranges there may be
pub record IsChangeList (content : ChangeContent) : Type 0 where
  pub texts : AllByRecursion IsText content.texts
  pub ranges : AllByRecursion IsRange content.ranges
  pub texts_rise : AreInOrder IsBelow content.texts
  pub ranges_rise : AreInOrder IsBefore content.ranges
  pub few : length content.texts + length content.ranges ≤ 999999

-- ---- One more

-- texts come before ranges, each in order
abbrev pub MayFollow : ChangeContent → Item → Type 0
MayFollow content (OfText text) = (content.ranges ≡ []) × MayCome IsBelow content.texts text
MayFollow content (OfRange r) = MayCome IsBefore content.ranges r

abbrev pub put_last : Item → ChangeContent → ChangeContent
put_last (OfText text) content = record content { texts = content.texts ++ text ∷ [] }
put_last (OfRange r) content = record content { ranges = content.ranges ++ r ∷ [] }
