-- Code points that read alone in Normalization Form D, whatever follows them. Only contracts of the parts of keys and comparisons cite this file.
use Rattle.std.specs.Prelude.{ℕ, List, [], ◌∷◌, map}
use Rattle.std.specs.List.{AllByRecursion}
use Rattle.uca_weights.specs.declared.Element.{Element}
use Rattle.uca_text.specs.Texts.{with_classes}
use Rattle.uca_elements.specs.Rows.{is_key}
use Rattle.uca_elements.specs.Lookups.{BeginsNoKeyIn}
use Rattle.uca_elements.specs.Collations.{Collation}
use Rattle.uca_elements.specs.Reading.{collation_elements}

-- no key is longer than the code point and begins with it
pub record IsLeaf (c : Collation) (x : ℕ) : Type 0 where
  pub ends : (y : ℕ) → BeginsNoKeyIn (is_key c.rows) (x ∷ y ∷ [])

abbrev pub AreLeaves : Collation → List ℕ → Type 0
AreLeaves c xs = AllByRecursion (IsLeaf c) xs

-- the elements of code points that are in Normalization Form D
unfoldable pub points_elements : Collation → List ℕ → List Element
points_elements c xs = collation_elements c.rows c.ranges c.properties (with_classes xs (map c.properties.class xs))

-- the elements of one of them alone
abbrev pub leaf_elements : Collation → ℕ → List Element
leaf_elements c x = points_elements c (x ∷ [])
