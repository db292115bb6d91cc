-- What a look at the row of a target finds.
use Rattle.std.specs.Prelude.{◌≡◌, ℕ, List, Bool, Option, MatchOption}
use Rattle.uca_weights.specs.declared.Element.{Element}
use Rattle.uca_weights.specs.declared.Level.{Level}
use Rattle.uca_weights.specs.Levels.{weight}
use Rattle.uca_relations.specs.declared.Relation.{Relation}
use Rattle.uca_tailorings.specs.Placing.{IsAnchor, placed, IsOnSide}
use Rattle.uca_tailorings.specs.Tailorings.{Tailoring, IsPlaced}
use Rattle.uca_audit.specs.declared.conditions.placements.Placement.{Placement}
use Rattle.uca_audit.specs.inside.Views.{IsPlacement}

-- The row has the anchor's elements up to its last one, and then the expansion's. The last one has the new weight in
-- place of the old one, on the right side of it.
pub record IsRowAt (level : Level) (is_before : Bool) (anchor expansion row : List Element) (old new : ℕ) : Type 0 where
  pub before : List Element
  pub last : Element
  pub trailing : List Element
  pub is_anchor : IsAnchor level anchor before last trailing
  pub old_weight : weight level last ≡ old
  pub side : IsOnSide is_before old new
  pub is_row : row ≡ placed level before last expansion new

-- what is found of a relation is how its target was placed, or nothing where it was not
abbrev pub IsFoundPlacement : Tailoring → Relation → Option Placement → Type 0
IsFoundPlacement tailoring r found = MatchOption found (¬ (IsPlaced tailoring r)) (λ p. IsPlacement tailoring r p × IsPlaced tailoring r)
