-- Code points that read alone, whatever plain ones stand around them.
use Rattle.std.specs.Prelude.{◌≡◌, ℕ, List, [], ◌∷◌, ◌++◌, flat_map}
use Rattle.std.specs.List.{AllByRecursion}
use Rattle.ucd_normal.specs.CanonicalCombiningClass.{canonical_combining_class}
use Rattle.unicode_normalization.specs.Forms.{Nfd}
use Rattle.unicode_normalization.specs.Decompose.{decompose}
use Rattle.uca_weights.specs.declared.Element.{Element}
use Rattle.uca_text.specs.Texts.{nfd_text}
use Rattle.uca_elements.specs.Collations.{Collation, elements_of}
use Rattle.uca_elements.specs.Rows.{is_key}
use Rattle.uca_elements.specs.Cuts.{IsNoFollower}

-- It decomposes into a starter, under Unicode and under the data file, and what follows it. No key has the starter after
-- its first code point.
pub record IsPlain (c : Collation) (x : ℕ) : Type 0 where
  pub first : ℕ
  pub more : List ℕ
  pub split : decompose Nfd x ≡ first ∷ more
  pub starter : canonical_combining_class first ≡ 0
  pub class : c.properties.class first ≡ 0
  pub no_follower : IsNoFollower (is_key c.rows) first

abbrev pub ArePlain : Collation → List ℕ → Type 0
ArePlain c xs = AllByRecursion (IsPlain c) xs

-- the elements of the text that is this code point alone
abbrev pub elements_alone : Collation → ℕ → List Element
elements_alone c x = elements_of c (nfd_text c.properties (x ∷ []))

-- a text may be cut before a plain code point: it reads as its two pieces
abbrev pub PlainPointsCutTexts : Type 0
PlainPointsCutTexts = (c : Collation) (xs : List ℕ) (y : ℕ) (ys : List ℕ) → IsPlain c y →
    elements_of c (nfd_text c.properties (xs ++ y ∷ ys)) ≡ elements_of c (nfd_text c.properties xs) ++ elements_of c (nfd_text c.properties (y ∷ ys))

-- a text of plain code points reads as they do one by one
abbrev pub PlainTextsReadByPoints : Type 0
PlainTextsReadByPoints = (c : Collation) (xs : List ℕ) → ArePlain c xs → elements_of c (nfd_text c.properties xs) ≡ flat_map (elements_alone c) xs
