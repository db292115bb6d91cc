-- What a comparison knows of code points. Only contracts of the parts of comparisons cite this file.
use lib.Utf8.{encode}
use Rattle.std.specs.Prelude.{◌≡◌, ◌≢◌, ◌<◌, ◌≤◌, ℕ, suc, List, [], ◌∷◌, length, true, if◌then◌else◌, ⊤}
use Rattle.std.specs.List.{AllByRecursion}
use Rattle.uca_weights.specs.declared.Element.{Element}
use Rattle.uca_weights.specs.declared.Weighting.{Weighting}
use Rattle.uca_weights.specs.declared.Weighting.TheVariants.{NonIgnorable, Shifted}
use Rattle.uca_elements.specs.Collations.{Collation}
use Rattle.uca_plain.specs.Plain.{IsPlain, elements_alone}
use Rattle.uca_plain.specs.PointCache.{AreTrueEntries}
use Rattle.uca_text_comparer.specs.declared.comparison.TextComparison.{TextComparison}
use Rattle.uca_text_comparer.specs.declared.heads.Head.{Head}
use Rattle.uca_text_comparer.specs.declared.heads.Heads.{Heads}

-- the weight of an element at level 1, 0 if it has none; it is the same after any elements
abbrev pub primary_of : Weighting → Element → ℕ
primary_of NonIgnorable e = e.primary
primary_of Shifted e = if e.mark then 0 else e.primary

-- no element has a weight at level 1
abbrev pub HaveNone : Weighting → List Element → Type 0
HaveNone weighting es = AllByRecursion (λ e. primary_of weighting e ≡ 0) es

-- the first element has this weight at level 1
abbrev pub IsFirstWeight : Weighting → ℕ → List Element → Type 0
IsFirstWeight weighting weight [] = ⊥
IsFirstWeight weighting weight (e ∷ es) = primary_of weighting e ≡ weight

-- and the others have none
abbrev pub IsHeaded : Weighting → ℕ → List Element → Type 0
IsHeaded weighting weight [] = ⊥
IsHeaded weighting weight (e ∷ es) = (primary_of weighting e ≡ weight) × HaveNone weighting es

-- Where the head says so, the code point is plain. Where its weight is not 0, the code point is plain, and its first element has
-- this weight at level 1. Where the head says that it is alone, its weight is not 0, and no other element has one.
pub record IsTrueHead (c : Collation) (weighting : Weighting) (x : ℕ) (head : Head) : Type 0 where
  pub plain : head.plain ≡ true → IsPlain c x
  pub first : head.weight ≢ 0 → IsPlain c x × IsFirstWeight weighting head.weight (elements_alone c x)
  pub alone : head.alone ≡ true → (head.weight ≢ 0) × IsHeaded weighting head.weight (elements_alone c x)

-- something is true of each head and its number, which are counted from this one on
abbrev pub AreFrom : (ℕ → Head → Type 0) → ℕ → List Head → Type 0
AreFrom P x [] = ⊤
AreFrom P x (head ∷ heads) = P x head × AreFrom P (suc x) heads

-- the heads of the code points from this one on
abbrev pub AreHeadsFrom : Collation → Weighting → ℕ → List Head → Type 0
AreHeadsFrom c weighting = AreFrom (IsTrueHead c weighting)

-- The head is true of each code point whose UTF-8 begins with this byte. Where it has a weight, the byte is one of ASCII.
pub record IsTrueFirst (c : Collation) (weighting : Weighting) (byte : ℕ) (head : Head) : Type 0 where
  pub each : (x : ℕ) (more : List ℕ) → encode x ≡ byte ∷ more → IsTrueHead c weighting x head
  pub single : head.weight ≢ 0 → byte < 128

-- the heads of the bytes from this one on
abbrev pub AreFirstsFrom : Collation → Weighting → ℕ → List Head → Type 0
AreFirstsFrom c weighting = AreFrom (IsTrueFirst c weighting)

-- all heads are true
pub record AreTrueHeads (c : Collation) (heads : Heads) : Type 0 where
  pub points : AreHeadsFrom c heads.weighting 0 heads.items.items
  pub firsts : AreFirstsFrom c heads.weighting 0 heads.firsts.items

-- there is a head of each code point that UTF-8 writes in one or two bytes, and of each byte, under this weighting
pub record HasHeads (weighting : Weighting) (heads : Heads) : Type 0 where
  pub under : heads.weighting ≡ weighting
  pub points : 2048 ≤ length heads.items.items
  pub firsts : 256 ≤ length heads.firsts.items

-- all that a comparison knows is true of this collation
pub record Knows {A : Type 0} (c : Collation) (comparison : TextComparison A) : Type 0 where
  pub entries : AreTrueEntries c comparison.plain.points.entries.items
  pub heads : AreTrueHeads c comparison.heads
