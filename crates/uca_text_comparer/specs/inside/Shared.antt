-- What two texts have in common at their begin.
use Rattle.std.specs.Prelude.{◌≡◌, ℕ, List, [], ◌∷◌, ◌++◌, Bool, false, length, map, flat_map, Option, Some, None, ⊤}
use Rattle.unicode_normalization.specs.Forms.{nfd}
use Rattle.uca_weights.specs.declared.Element.{Element}
use Rattle.uca_weights.specs.declared.Weighting.{Weighting}
use Rattle.uca_text.specs.Texts.{nfd_text}
use Rattle.uca_text.specs.Limits.{HasNoLongRun, IsAccepted}
use Rattle.uca_elements.specs.Collations.{Collation, elements_of}
use Rattle.uca_comparison.specs.declared.walk.Walked.{Walked}
use Rattle.uca_order.specs.StreamedWeights.{is_after_variable}
use Rattle.uca_comparison.specs.Fronts.{counted}
use Rattle.uca_plain.specs.Plain.{IsPlain, ArePlain, elements_alone}
use Rattle.uca_comparison.specs.inside.Comparisons.{ComparesLevels}

-- whether the nearest element with a primary weight is variable, after some more elements
abbrev pub flag_after : Bool → List Element → Bool
flag_after flag [] = flag
flag_after flag (e ∷ es) = flag_after (is_after_variable flag e) es

-- The texts `xs` and `ys` begin with the same plain code points, which `left` and `right` follow. Of the elements of those there
-- is the flag, and how many they are.
pub record IsRest (c : Collation) (xs ys left right : List ℕ) (flag : Bool) (passed : ℕ) : Type 0 where
  pub shared : List ℕ
  pub left_is : xs ≡ shared ++ left
  pub right_is : ys ≡ shared ++ right
  pub plain : ArePlain c shared
  pub flag_is : flag ≡ flag_after false (flat_map (elements_alone c) shared)
  pub passed_is : passed ≡ counted 0 (length (flat_map (elements_alone c) shared))

-- the first of some elements, if there is one
abbrev pub IsFirst : Option Element → List Element → Type 0
IsFirst None es = es ≡ []
IsFirst (Some e) es = (more : List Element) × (es ≡ e ∷ more)

abbrev pub text_elements : Collation → List ℕ → List Element
text_elements c xs = elements_of c (nfd_text c.properties xs)

-- a text that is empty, or begins with a plain code point
abbrev pub BeginsPlain : Collation → List ℕ → Type 0
BeginsPlain c [] = ⊤
BeginsPlain c (x ∷ xs) = IsPlain c x

-- such a text, the first of its elements, and no long run
pub record HasFirst (c : Collation) (xs : List ℕ) (first : Option Element) : Type 0 where
  pub begins : BeginsPlain c xs
  pub first_is : IsFirst first (text_elements c xs)
  pub runs : HasNoLongRun (map c.properties.class (nfd xs))

-- a text of plain code points, and its elements
abbrev pub HasElements : Collation → List ℕ → List Element → Type 0
HasElements c xs es = ArePlain c xs × (es ≡ flat_map (elements_alone c) xs)

-- a text of plain code points, and how many elements it has
pub record HasCount (c : Collation) (xs : List ℕ) (count : ℕ) : Type 0 where
  pub plain : ArePlain c xs
  pub count_is : count ≡ counted 0 (length (flat_map (elements_alone c) xs))

-- How two texts compare at all levels. Neither text has a long run.
pub record ComparesTexts (c : Collation) (weighting : Weighting) (xs ys : List ℕ) (w : Walked) : Type 0 where
  pub levels : ComparesLevels weighting (text_elements c xs) (text_elements c ys) w
  pub left_runs : HasNoLongRun (map c.properties.class (nfd xs))
  pub right_runs : HasNoLongRun (map c.properties.class (nfd ys))

-- How two texts that are accepted compare at all levels.
pub record ComparesAccepted (c : Collation) (weighting : Weighting) (xs ys : List ℕ) (w : Walked) : Type 0 where
  pub levels : ComparesLevels weighting (text_elements c xs) (text_elements c ys) w
  pub left : IsAccepted (nfd_text c.properties xs)
  pub right : IsAccepted (nfd_text c.properties ys)
