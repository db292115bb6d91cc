-- What a cache of code points says of them. Only contracts of the parts of keys and comparisons cite this file.
use Rattle.std.specs.Prelude.{◌≡◌, ℕ, ◌+◌, ◌≤◌, List, ◌∷◌, true, length, take, if◌then◌else◌}
use Rattle.std.specs.List.{AllByRecursion}
use Rattle.ucd_normal.specs.CanonicalCombiningClass.{canonical_combining_class}
use Rattle.unicode_normalization.specs.Forms.{Nfd}
use Rattle.unicode_normalization.specs.Decompose.{decompose}
use Rattle.uca_elements.specs.Collations.{Collation}
use Rattle.uca_plain.specs.declared.plain.KnownPoint.{KnownPoint}
use Rattle.uca_plain.specs.Leaves.{IsLeaf, leaf_elements}
use Rattle.uca_plain.specs.Plain.{IsPlain, elements_alone}

-- where an entry has elements, its code point is plain and has these
abbrev pub IsTrueEntry : Collation → KnownPoint → Type 0
IsTrueEntry c known = known.count ≤ 3 → IsPlain c known.point × (take known.count known.elements ≡ elements_alone c known.point)

-- where an entry has elements of a leaf, its code point is one and has these
abbrev pub IsTrueLeaf : Collation → KnownPoint → Type 0
IsTrueLeaf c known = known.leaf_count ≤ 3 → IsLeaf c known.point × (take known.leaf_count known.elements ≡ leaf_elements c known.point)

-- the code point decomposes into a starter, under Unicode and under the data file, and what follows it
pub record BeginsWithStarter (c : Collation) (x : ℕ) : Type 0 where
  pub first : ℕ
  pub more : List ℕ
  pub split : decompose Nfd x ≡ first ∷ more
  pub starter : canonical_combining_class first ≡ 0
  pub class : c.properties.class first ≡ 0

-- What an entry says of the decomposition of its code point: the code points are at most so many, and whether the first is
-- a starter.
pub record HasTrueDecomposition (c : Collation) (known : KnownPoint) : Type 0 where
  pub few : length (decompose Nfd known.point) ≤ known.len
  pub starts : known.starts ≡ true → BeginsWithStarter c known.point

-- all that the entries say is true
unfoldable pub AreTrueEntries : Collation → List KnownPoint → Type 0
AreTrueEntries c entries = AllByRecursion (λ known. IsTrueEntry c known × HasTrueDecomposition c known × IsTrueLeaf c known) entries

-- how many code points a text decomposes to from its last starter on, at most, with one more code point
abbrev pub counted_on : KnownPoint → ℕ → ℕ
counted_on known count = (if known.starts then 0 else count) + known.len
