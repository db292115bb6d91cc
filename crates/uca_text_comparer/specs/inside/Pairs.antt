-- How two texts compare that are given as code points before normalization, or why they do not.
use Rattle.std.specs.Prelude.{◌≡◌, ℕ, List, min}
use Rattle.unicode_normalization.specs.Forms.{nfd}
use Rattle.uca_weights.specs.declared.Depth.{Depth}
use Rattle.uca_weights.specs.declared.Numbers.{Numbers}
use Rattle.uca_weights.specs.declared.Weighting.{Weighting}
use Rattle.uca_text.specs.Texts.{nfd_text}
use Rattle.uca_text.specs.Limits.{IsAccepted}
use Rattle.uca_elements.specs.Collations.{Collation}
use Rattle.uca_comparison.specs.declared.comparison.Compared.{Compared}
use Rattle.uca_order.specs.Depths.{ReadText, written, written_text, compared_at}
use Rattle.uca_order.specs.Fetched.{fetched_left, fetched_right}
use Rattle.uca_text_comparer.specs.declared.faults.PairFault.{PairFault}
use Rattle.uca_text_comparer.specs.Causes.{IsPairCause}
use Rattle.uca_text_comparer.specs.inside.Shared.{text_elements}

-- what a text is compared by if `text` is read of it, and these are its code points
abbrev pub read_as : Collation → List ℕ → List ℕ → ReadText
read_as c text points = record { elements = text_elements c text; points = nfd points }

-- How the texts `xs` and `ys` compare if `left` and `right` are read of them, and how many elements of these are fetched. What is read is
-- accepted.
pub record ComparesAs (c : Collation) (weighting : Weighting) (depth : Depth) (left right xs ys : List ℕ) (compared : Compared) : Type 0 where
  pub order_is : compared.order ≡ (compared_at depth weighting (read_as c left xs) (read_as c right ys)).order
  pub level_is : compared.level ≡ (compared_at depth weighting (read_as c left xs) (read_as c right ys)).level
  pub left_is : compared.fetched_left ≡ min 18446744073709551615 (fetched_left weighting (text_elements c left) (text_elements c right))
  pub right_is : compared.fetched_right ≡ min 18446744073709551615 (fetched_right weighting (text_elements c left) (text_elements c right))
  pub left_accepted : IsAccepted (nfd_text c.properties left)
  pub right_accepted : IsAccepted (nfd_text c.properties right)

-- how two texts compare with numbers as text, or by value
abbrev pub ComparesPair : Collation → Numbers → Weighting → Depth → List ℕ → List ℕ → Compared → Type 0
ComparesPair c numbers weighting depth xs ys = ComparesAs c weighting depth (written numbers xs) (written numbers ys) xs ys

-- why they do not compare
abbrev pub IsPairStop : Collation → Numbers → List ℕ → List ℕ → PairFault → Type 0
IsPairStop c numbers xs ys = IsPairCause (written_text numbers c.properties xs) (written_text numbers c.properties ys)
