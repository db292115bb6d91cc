-- What a reader may ask of plans: the keys of their rows, how long their runs are, and that rules have one outcome.
use Rattle.std.specs.Prelude.{◌≡◌, ℕ, ◌+◌, not, List, [], ◌∷◌, ◌++◌, map, ⊤, Ok}
use Rattle.std.specs.List.{filter}
use Rattle.uca_weights.specs.declared.maps.Run.{Run}
use Rattle.uca_values.specs.Content.{TableContent, Properties, keys_of}
use Rattle.uca_elements.specs.Rows.{rows_of, is_key}
use Rattle.uca_relations.specs.declared.Relation.{Relation}
use Rattle.uca_relations.specs.Relations.{AreDistinct}
use Rattle.uca_certificates.specs.Certificates.{CertificateContent}
use Rattle.uca_plans.specs.declared.drafts.DraftWeight.{DraftWeight}
use Rattle.uca_plans.specs.declared.faults.TailorKind.TheVariants as kinds
use Rattle.uca_plans.specs.declared.faults.TailorFault.{TailorFault}
use Rattle.uca_plans.specs.Plans.{Basis, Plan, runs_of, planned}
use Rattle.uca_plans.specs.Tailors.{IsPlanOf, TailorRefuses}

-- ---- Runs

-- no run goes on from the run before it on both sides
abbrev pub AreLongest : List Run → Type 0
AreLongest [] = ⊤
AreLongest (r ∷ []) = ⊤
AreLongest (r ∷ s ∷ runs) = ((s.from ≡ r.from + r.count) → (s.to ≡ r.to + r.count) → ⊥) × AreLongest (s ∷ runs)

-- so the runs of a list are as long as possible
abbrev pub RunsAreLongest : Type 0
RunsAreLongest = (members : List DraftWeight) (numbers : List ℕ) → AreLongest (runs_of members numbers)

-- ---- Keys

-- the targets that are no base keys, in the order of the relations
abbrev pub new_keys : Basis → List Relation → List (List ℕ)
new_keys basis relations = filter (λ key. not (is_key (rows_of basis.base) key)) (map (λ r. r.target.points) relations)

-- the rows of a plan are the base's in their order, and after them those of the targets that are not base keys
abbrev pub KeysOfPlans : Type 0
KeysOfPlans = (basis : Basis) (relations : List Relation) (plan : Plan) → AreDistinct relations → planned basis relations ≡ Ok plan →
    keys_of plan.rows ≡ keys_of basis.base ++ new_keys basis relations

-- ---- Rejections

-- If there is a plan, only an allocation that fails can be a rejection. All other rejections are the same one.
pub record OneOutcome : Type 0 where
  pub plan_or_refusal : (base : TableContent) (properties : Properties) (relations : List Relation) (table : TableContent)
      (certificate : CertificateContent) (fault : TailorFault) → IsPlanOf base properties relations table certificate →
      TailorRefuses base properties relations fault → fault.kind ≡ kinds.Memory
  pub one_refusal : (base : TableContent) (properties : Properties) (relations : List Relation) (fault other : TailorFault) →
      TailorRefuses base properties relations fault → TailorRefuses base properties relations other →
      (fault.kind ≡ kinds.Memory → ⊥) → (other.kind ≡ kinds.Memory → ⊥) → fault ≡ other
