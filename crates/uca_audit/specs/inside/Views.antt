-- What the values of an audit stand for.
use Rattle.std.specs.Prelude.{◌≡◌, ℕ, suc, List, Option, Some, None, MatchOption}
use Rattle.uca_weights.specs.declared.Level.{Level}
use Rattle.uca_weights.specs.Levels.{level_of}
use Rattle.uca_values.specs.Content.{properties_of}
use Rattle.uca_relations.specs.declared.Relation.{Relation}
use Rattle.uca_tailorings.specs.Tailorings.{Tailoring, IsPlacedAt}
use Rattle.uca_audit.specs.declared.inputs.Inputs.{Inputs}
use Rattle.uca_audit.specs.declared.conditions.placements.Placement.{Placement}
use Rattle.uca_tailorings.specs.Inputs.{tailoring_of}
use Rattle.uca_audit.specs.Refusals.{IsFirstRelationWithout}

-- the tailoring that is given
abbrev pub tailoring_in : {T : Type 0} → Inputs T → Tailoring
tailoring_in inputs = tailoring_of inputs.base.now (properties_of inputs.properties.now) inputs.rules.now inputs.tailored.now inputs.certificate.now

-- what is found is the first relation without the property, by its index; or each has it
abbrev pub FindsFirstRelation : Type 0 → (List Relation → Relation → List Relation → Type 0) → List Relation → Option ℕ → Type 0
FindsFirstRelation All P relations found = MatchOption found All (λ at. IsFirstRelationWithout P relations (suc at))

-- what a placement says of a relation of this strength, if it is one of a level
abbrev pub IsPlacementBy : Tailoring → Relation → Placement → Option Level → Type 0
IsPlacementBy tailoring r p None = p.level ≡ None
IsPlacementBy tailoring r p (Some level) = (p.level ≡ Some level) × IsPlacedAt tailoring r level p.old p.new

-- the target of the relation was placed so
abbrev pub IsPlacement : Tailoring → Relation → Placement → Type 0
IsPlacement tailoring r p = IsPlacementBy tailoring r p (level_of r.strength)
