-- Implicit elements among the variable elements of the base.
use Rattle.std.proofs.Common.{◌≡◌, ◌&&◌, ◌||◌, List, [], ◌∷◌, refl, ap, ap₂}
use Rattle.std.specs.List.{list_any}
use Rattle.uca_weights.specs.declared.Element.{Element}
use Rattle.uca_plans.specs.declared.drafts.DraftWeight.{DraftWeight}
use Rattle.uca_plans.specs.declared.drafts.DraftWeight.TheVariants.{Base, New}
use Rattle.uca_plans.specs.declared.drafts.DraftElement.{DraftElement}
use Rattle.uca_plans.specs.Plans.{is_among_variables}
use Rattle.std.specs.Prelude.{Option}
use Rattle.uca_tailor.specs.declared.drafts.variables.VariableSpan.{VariableSpan}
use Rattle.uca_tailor.specs.inside.Variables.{AreBounds, is_within}

-- a weight within the bounds of some elements is among their variable ones
within_is : (span : Option VariableSpan) (es : List Element) → AreBounds span es → (w : DraftWeight) → is_within span w ≡ is_among_variables es w
within_is span es bounds (Base w) = ap₂ (λ a b. a && b) (bounds w).0 (bounds w).1
within_is span es bounds (New n) = refl

-- so the test over the bounds is the test over the elements
pub holds_is : (span : Option VariableSpan) (es : List Element) → AreBounds span es → (elements : List DraftElement) →
    list_any (λ e. e.implicit && is_within span e.primary) elements ≡ list_any (λ e. e.implicit && is_among_variables es e.primary) elements
holds_is span es bounds [] = refl
holds_is span es bounds (e ∷ elements) =
    ap₂ (λ a b. a || b) (ap (λ b. e.implicit && b) (within_is span es bounds e.primary)) (holds_is span es bounds elements)
