-- Texts: code points, each with its canonical combining class.
use Rattle.std.specs.Prelude.{◌≡◌, ℕ, List, [], ◌∷◌, Bool, nat_eq, map}
use Rattle.unicode_normalization.specs.Forms.{nfd}
use Rattle.uca_values.specs.Content.{Properties}

-- a code point and its combining class
pub record ClassedCodePoint : Type 0 where
  pub code : ℕ
  pub class : ℕ

abbrev pub Text : Type 0
Text = List ClassedCodePoint

abbrev pub code_points : Text → List ℕ
code_points [] = []
code_points (c ∷ t) = c.code ∷ code_points t

-- a starter has class 0; the others are non-starters
abbrev pub is_starter : ClassedCodePoint → Bool
is_starter c = nat_eq c.class 0

-- code points with their classes
abbrev pub with_classes : List ℕ → List ℕ → Text
with_classes [] classes = []
with_classes (c ∷ points) [] = []
with_classes (c ∷ points) (k ∷ classes) = record { code = c; class = k } ∷ with_classes points classes

-- what a clause sees of a `Normal`: code points, and beside them the class of each (`nfd_text` says that they are in Form D)
pub record NfdText : Type 0 where
  pub points : List ℕ
  pub classes : List ℕ

-- a text in Normalization Form D (UAX #15), with the classes of a data file
abbrev pub nfd_text : Properties → List ℕ → NfdText
nfd_text properties points = record { points = nfd points; classes = map properties.class (nfd points) }

-- two texts are canonically equivalent if their canonical decompositions are the same (The Unicode Standard, section 3.7)
abbrev pub AreCanonicallyEquivalent : List ℕ → List ℕ → Type 0
AreCanonicallyEquivalent s t = nfd s ≡ nfd t

abbrev pub classed : NfdText → Text
classed s = with_classes s.points s.classes
