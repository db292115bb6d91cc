-- The lists of a plan are good at each level, and its runs are proper.
use Rattle.std.proofs.Common.{◌≡◌, ◌⊎◌, inl, inr, ℕ, suc, ◌+◌, Bool, true, false, List, [], ◌∷◌, ◌++◌, length, map, Option, Some, None, Ok, refl, sym}
use Rattle.std.proofs.Common.{ap, ◌∙◌, arith, if◌then◌else◌}
use Rattle.uca_weights.specs.declared.Element.{Element}
use Rattle.uca_weights.specs.declared.Level.{Level}
use Rattle.uca_weights.specs.declared.Level.TheVariants.{One, Two, Three}
use Rattle.uca_weights.specs.Levels.{level_of}
use Rattle.uca_weights.specs.Runs.{AreProperRuns}
use Rattle.uca_check.specs.WellFormed.{elements_of}
use Rattle.uca_relations.specs.declared.Relation.{Relation}
use Rattle.uca_plans.specs.declared.drafts.DraftWeight.{DraftWeight}
use Rattle.uca_plans.specs.declared.drafts.DraftWeight.TheVariants.{Base, New}
use Rattle.uca_plans.specs.declared.drafts.DraftElement.{DraftElement}
use Rattle.uca_plans.specs.Lists.{Insertion, base_weights, same_level, inserted, all_inserted, members_of}
use Rattle.uca_plans.specs.Drafts.{AnchorPart, anchor_part, accepted_part, draft_weight, draft_elements}
use Rattle.uca_plans.specs.Plans.{Basis, Drafting, Drafted, placed_after, placed_if_accepted, drafted_at, draft_expansion, begun, Plan, planned}
use Rattle.uca_plans.proofs.GoodLists.{IsGoodList, IsGrown, good_base, good_more, good_inserted, grown_same, grown_through, grown_inserted}
use Rattle.uca_plans.proofs.LevelRuns.{good_proper}
use Rattle.uca_plans.proofs.PlanSteps.{IsStep, AreSteps, IsPlanned, planned_is}

-- ---- Insertions

-- insertions after others
pub inserted_after : (level : Level) (is js : List Insertion) (ms : List DraftWeight)
    → all_inserted level (is ++ js) ms ≡ all_inserted level js (all_inserted level is ms)
inserted_after level [] js ms = refl
inserted_after level (i ∷ is) js ms = inserted_after level is js (if same_level i.level level then inserted i ms else ms)

-- a relation puts in its own new weight or none
abbrev pub AreNamed : ℕ → List Insertion → Type 0
AreNamed n is = (is ≡ []) ⊎ ((i : Insertion) × (is ≡ i ∷ []) × (i.new ≡ New n))

-- what is drafted at a level puts in the new weight
named_at : (level : Option Level) (before : Bool) (n : ℕ) (anchor expansion : List DraftElement) (new : Drafted)
    → drafted_at level before (New n) anchor expansion ≡ Some new → AreNamed n new.insertions
named_at None before n anchor expansion new is =
    let same : record { elements = anchor ++ expansion; insertions = [] } ≡ new = cc in inl (sym (ap (λ d. d.insertions) same))
named_at (Some level) before n anchor expansion new is = go (accepted_part level (anchor_part level anchor)) is
  where
    -- by the anchor's part
    go : (part : Option AnchorPart) → placed_if_accepted level before (New n) part expansion ≡ Some new → AreNamed n new.insertions
    go None refused = absurd (cc)
    go (Some part) placed =
        let i : Insertion = record { level = level; before = before; anchor = draft_weight level part.last; new = New n } in
        let same : placed_after level before (New n) part expansion ≡ new = cc in inr (i, sym (ap (λ d. d.insertions) same), refl)

-- a good list is good after the insertions of a relation, and has grown
good_all : (level : Level) (es : List Element) (n : ℕ) (is : List Insertion) (ms : List DraftWeight) → AreNamed n is → IsGoodList level es n ms
    → IsGoodList level es (n + 1) (all_inserted level is ms) × IsGrown n ms (all_inserted level is ms)
good_all level es n is ms (inl none) good = rw none (good_more level es n ms good, grown_same n ms)
good_all level es n is ms (inr one) good = rw one.1 (go (same_level one.0.level level))
  where
    -- by the level of the insertion
    go : (same : Bool) → IsGoodList level es (n + 1) (if same then inserted one.0 ms else ms) × IsGrown n ms (if same then inserted one.0 ms else ms)
    go true = (good_inserted level es n one.0 ms one.2 good, grown_inserted level es n one.0 ms one.2 good)
    go false = (good_more level es n ms good, grown_same n ms)

-- ---- Steps

-- the list of a level after some drafts
abbrev pub list_at : Level → Basis → Drafting → List DraftWeight
list_at level basis a = members_of level (elements_of basis.base) a.insertions

-- the list of each level is good after n relations
abbrev pub HasGoodLists : Basis → ℕ → Drafting → Type 0
HasGoodLists basis n a = (level : Level) → IsGoodList level (elements_of basis.base) n (list_at level basis a)

-- the list of each level has grown from relation n on
abbrev pub HasGrownLists : Basis → ℕ → Drafting → Drafting → Type 0
HasGrownLists basis n a b = (level : Level) → IsGrown n (list_at level basis a) (list_at level basis b)

-- the insertions of a step are named
pub step_named : (basis : Basis) (n : ℕ) (rule : Relation) (a b : Drafting) (step : IsStep basis n rule a b) → AreNamed n step.new.insertions
step_named basis n rule a b step =
    named_at (level_of rule.strength) rule.before n
    (draft_elements basis.ranges basis.properties a.rows rule.anchor) (draft_expansion basis a rule.expansion) step.new step.is_drafted

-- the lists after a step are those before it with its insertions
pub step_list : (basis : Basis) (n : ℕ) (rule : Relation) (a b : Drafting) (step : IsStep basis n rule a b) (level : Level)
    → list_at level basis b ≡ all_inserted level step.new.insertions (list_at level basis a)
step_list basis n rule a b step level =
    ap (λ is. members_of level (elements_of basis.base) is) step.insertions
    ∙ inserted_after level a.insertions step.new.insertions (map Base (base_weights level (elements_of basis.base)))

-- good lists are good after a step, and have grown
pub good_step : (basis : Basis) (n : ℕ) (rule : Relation) (a b : Drafting) → IsStep basis n rule a b → HasGoodLists basis n a
    → HasGoodLists basis (n + 1) b × HasGrownLists basis n a b
good_step basis n rule a b step good = (λ level. (both level).0, λ level. (both level).1)
  where
    -- at one level
    both : (level : Level)
        → IsGoodList level (elements_of basis.base) (n + 1) (list_at level basis b) × IsGrown n (list_at level basis a) (list_at level basis b)
    both level =
        rw (step_list basis n rule a b step level)
        (good_all level (elements_of basis.base) n step.new.insertions (list_at level basis a) (step_named basis n rule a b step) (good level))

-- good lists are good after steps, and have grown
pub good_steps : (basis : Basis) (n : ℕ) (relations : List Relation) (a b : Drafting) → AreSteps basis n relations a b → HasGoodLists basis n a
    → HasGoodLists basis (n + length relations) b × HasGrownLists basis n a b
good_steps basis n [] a b steps good =
    let none : n ≡ n + 0 = omega arith in
    (λ level. rw (← steps, ← none) (good level), λ level. rw (← steps) (grown_same n (list_at level basis a)))
good_steps basis n (r ∷ relations) a b steps good =
    let next = steps.0 in
    let first = good_step basis n r a next steps.1 good in
    let rest = good_steps basis (n + 1) relations next b steps.2 first.0 in
    let place : (n + 1) + length relations ≡ n + suc (length relations) = omega arith in (
      λ level. rw (← place) (rest.0 level),
      λ level. grown_through n (n + 1) (list_at level basis a) (list_at level basis next) (list_at level basis b) (omega arith) (first.1 level) (rest.1 level),
    )

-- the lists of the base weights are good
pub good_begun : (basis : Basis) → HasGoodLists basis 0 (begun basis)
good_begun basis level = good_base level (elements_of basis.base)

-- ---- The plan

-- the lists of a plan are good
pub good_planned : (basis : Basis) (relations : List Relation) (plan : Plan) (made : IsPlanned basis relations plan)
    → HasGoodLists basis (0 + length relations) made.drafting
good_planned basis relations plan made = (good_steps basis 0 relations (begun basis) made.drafting made.steps (good_begun basis)).0

-- the runs of each level of a plan are proper
pub certificate_in : (basis : Basis) (relations : List Relation) (plan : Plan) → planned basis relations ≡ Ok plan
    → AreProperRuns One plan.primary × AreProperRuns Two plan.secondary × AreProperRuns Three plan.tertiary
certificate_in basis relations plan planned_so =
    let made = planned_is basis relations plan planned_so in
    let good = good_planned basis relations plan made in
    let n = 0 + length relations in
    rw made.is_plan (
      good_proper One (elements_of basis.base) n (list_at One basis made.drafting) (good One) made.room_one,
      good_proper Two (elements_of basis.base) n (list_at Two basis made.drafting) (good Two) made.room_two,
      good_proper Three (elements_of basis.base) n (list_at Three basis made.drafting) (good Three) made.room_three,
    )
