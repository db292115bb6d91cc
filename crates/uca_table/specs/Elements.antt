-- The elements of a row (UTS #10, section 9.1): `[.1C47.0020.0002][*0209.0020.0002]`.
use Rattle.std.specs.Prelude.{◌≡◌, ◌≢◌, ℕ, ◌<◌, ◌≤◌, ◌⊎◌, ◌&&◌, ◌||◌, ◌==◌, Bool, true, false, List, [], ◌∷◌, ◌++◌, length}
use Rattle.uca_weights.specs.declared.Element.{Element}
use Rattle.uca_values.specs.declared.faults.FaultKind.{FaultKind}
use Rattle.uca_values.specs.declared.faults.FaultKind.TheVariants as kinds
use Rattle.uca_lines.specs.Fields.{skip_blanks}
use Rattle.uca_lines.specs.Leads.{Leads}
use Rattle.uca_values.specs.Content.{Fits}
use Rattle.uca_table.specs.CanonicalElements.{element_text}

-- the text begins with the one spelling of the element
pub record BeginsElement (text : List ℕ) (e : Element) (more : List ℕ) : Type 0 where
  pub parts : text ≡ element_text e ++ more
  pub fits : Fits e

-- 1 to 32 elements, with or without blanks around them
pub record AreElements (text : List ℕ) (elements : List Element) : Type 0 where
  pub texts : Leads BeginsElement text elements []
  pub some : 1 ≤ length elements
  pub few : length elements ≤ 32

-- how each element begins: `[.` or `[*`
abbrev pub opens : List ℕ → Bool
opens [] = false
opens (a ∷ []) = false
opens (a ∷ b ∷ bs) = a == 91 && (b == 46 || b == 42)

-- The first cause in the text of some elements is of this kind: there is none, or something else comes after at most 32
-- of them. One begins after so many, and does not go on as an element does. Or there are more than 32.
abbrev pub ElementsCause : List ℕ → FaultKind → Type 0
ElementsCause text kinds.Line = (skip_blanks text ≡ []) ⊎ ((front : List Element) × (rest : List ℕ) × Leads BeginsElement text front rest
    × (rest ≢ []) × (opens rest ≡ false) × (length front ≤ 32))
ElementsCause text kinds.Weight = (front : List Element) × (rest : List ℕ) × Leads BeginsElement text front rest × (opens rest ≡ true)
    × ((e : Element) (more : List ℕ) → BeginsElement rest e more → ⊥) × (length front ≤ 32)
ElementsCause text kinds.Limit = (front : List Element) × (rest : List ℕ) × Leads BeginsElement text front rest × (32 < length front)
ElementsCause text _ = ⊥
