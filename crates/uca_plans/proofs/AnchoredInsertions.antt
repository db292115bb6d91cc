-- The insertions of relations: the anchor's weight of each is in the list that those before it made, and its new weight is not.
use Rattle.std.proofs.Common.{◌≡◌, ℕ, ◌+◌, true, List, [], ◌∷◌, ◌++◌, map, Option, Some, None, Ok, refl, sym, ap, ◌∙◌, subst, if◌then◌else◌, append_assoc}
use Rattle.std.specs.Bool.{⊤}
use Rattle.std.specs.List.{AllByRecursion}
use Rattle.std.proofs.lemmas.List.{append-nil}
use Rattle.uca_weights.specs.declared.Level.{Level}
use Rattle.uca_weights.specs.declared.Level.TheVariants.{One, Two, Three}
use Rattle.uca_weights.specs.Levels.{level_of}
use Rattle.uca_values.specs.Content.{TableContent, Properties, IsTable, AreImplicitRanges}
use Rattle.uca_check.specs.WellFormed.{elements_of, IsWellFormed}
use Rattle.uca_relations.specs.declared.Relation.{Relation}
use Rattle.uca_relations.specs.Relations.{HasRuleTexts, AreRules}
use Rattle.uca_plans.specs.declared.drafts.DraftWeight.{DraftWeight}
use Rattle.uca_plans.specs.declared.drafts.DraftWeight.TheVariants.{Base, New}
use Rattle.uca_plans.specs.Lists.{Insertion, base_weights, same_level, inserted, all_inserted}
use Rattle.uca_plans.specs.ListLaws.{IsAmong}
use Rattle.uca_plans.specs.Drafts.{draft_weight}
use Rattle.uca_plans.specs.Plans.{Basis, Drafting, Drafted, drafted_at, draft_expansion, begun, with_relations}
use Rattle.uca_plans.specs.Tailors.{basis_of}
use Rattle.uca_plans.proofs.GoodLists.{new_is_new}
use Rattle.uca_plans.proofs.PlanSteps.{IsStep, AreSteps, steps_of}
use Rattle.uca_plans.proofs.PlanLists.{list_at, step_list}
use Rattle.uca_plans.proofs.PlanHolds.{Holds, start}
use Rattle.uca_plans.proofs.PlanCarried.{anchor_at, IsPlacedStep, placed_step, carried_step}

-- ---- Anchored insertions

-- the anchor's weight is in the list, and the new one, which is no base weight, is not
pub record IsAnchored (i : Insertion) (ms : List DraftWeight) : Type 0 where
  pub anchor : IsAmong ms i.anchor
  pub fresh : IsAmong ms i.new → ⊥
  pub name : ℕ
  pub named : i.new ≡ New name

-- each insertion of the level is so in the list that those before it made
abbrev pub AreAnchored : Level → List Insertion → List DraftWeight → Type 0
AreAnchored level [] ms = ⊤
AreAnchored level (i ∷ is) ms =
    (same_level i.level level ≡ true → IsAnchored i ms) × AreAnchored level is (if same_level i.level level then inserted i ms else ms)

-- all insertions are anchored if the first ones are, and the others after them
anchored_append : (level : Level) (is js : List Insertion) (ms : List DraftWeight) → AreAnchored level is ms
    → AreAnchored level js (all_inserted level is ms) → AreAnchored level (is ++ js) ms
anchored_append level [] js ms first second = second
anchored_append level (i ∷ is) js ms first second =
    (first.0, anchored_append level is js (if same_level i.level level then inserted i ms else ms) first.1 second)

-- levels that the test calls the same are the same
same_level_is : (a b : Level) → same_level a b ≡ true → a ≡ b
same_level_is One One same = refl
same_level_is Two Two same = refl
same_level_is Three Three same = refl
same_level_is One Two same = absurd (cc)
same_level_is One Three same = absurd (cc)
same_level_is Two One same = absurd (cc)
same_level_is Two Three same = absurd (cc)
same_level_is Three One same = absurd (cc)
same_level_is Three Two same = absurd (cc)

-- ---- The insertions of relations

-- the insertion of a relation at a level
placed_anchored : (basis : Basis) (n : ℕ) (r : Relation) (a b : Drafting) (holds : Holds basis n a) (step : IsStep basis n r a b) (own : Level)
    → IsPlacedStep basis n r a b holds step own → (level : Level) → AreAnchored level step.new.insertions (list_at level basis a)
placed_anchored basis n r a b holds step own at level =
    let i : Insertion = record { level = own; before = r.before; anchor = draft_weight own at.placed.part.last; new = New n } in
    let one : step.new.insertions ≡ i ∷ [] = ap (λ d. d.insertions) at.placed.is in
    subst (λ is. AreAnchored level is (list_at level basis a)) (sym one) (
      λ same. record {
        anchor = subst (λ l. IsAmong (list_at l basis a) i.anchor) (same_level_is own level same) at.anchor_there;
        fresh = new_is_new level (elements_of basis.base) n (list_at level basis a) (holds.lists level);
        name = n;
        named = refl;
      },
      tt,
    )

-- the insertions of a relation
step_anchored : (basis : Basis) (n : ℕ) (r : Relation) (a b : Drafting) (holds : Holds basis n a) → AreImplicitRanges basis.ranges → HasRuleTexts r
    → (step : IsStep basis n r a b) (level : Level) → AreAnchored level step.new.insertions (list_at level basis a)
step_anchored basis n r a b holds ranges texts step level = go (level_of r.strength) step.is_drafted
  where
    -- by the relation's level
    go : (own : Option Level) → drafted_at own r.before (New n) (anchor_at basis a r) (draft_expansion basis a r.expansion) ≡ Some step.new
        → AreAnchored level step.new.insertions (list_at level basis a)
    go None is =
        let both : Drafted = record { elements = anchor_at basis a r ++ draft_expansion basis a r.expansion; insertions = [] } in
        let same : both ≡ step.new = cc in
        subst (λ (d : Drafted). AreAnchored level d.insertions (list_at level basis a)) same tt
    go (Some own) is = placed_anchored basis n r a b holds step own (placed_step basis n r a b holds ranges texts step own is) level

-- the insertions that relations add to those before them
steps_anchored : (basis : Basis) (n : ℕ) (relations : List Relation) (a b : Drafting) (holds : Holds basis n a) → AreImplicitRanges basis.ranges
    → AllByRecursion HasRuleTexts relations → AreSteps basis n relations a b → (level : Level)
    → (more : List Insertion) × (b.insertions ≡ a.insertions ++ more) × AreAnchored level more (list_at level basis a)
steps_anchored basis n [] a b holds ranges texts steps level = ([], ap (λ (d : Drafting). d.insertions) (sym steps) ∙ sym (append-nil a.insertions), tt)
steps_anchored basis n (r ∷ relations) a b holds ranges texts steps level =
    let next = steps.0 in
    let step = steps.1 in
    let first = step.new.insertions in
    let carried = carried_step basis n r a next holds ranges texts.0 step in
    let rest = steps_anchored basis (n + 1) relations next b carried.behind ranges texts.1 steps.2 level in (
      first ++ rest.0,
      rest.1 ∙ ap (λ is. is ++ rest.0) step.insertions ∙ append_assoc a.insertions first rest.0,
      anchored_append level first rest.0 (list_at level basis a) (step_anchored basis n r a next holds ranges texts.0 step level)
          (subst (AreAnchored level rest.0) (step_list basis n r a next step level) rest.2),
    )

-- all insertions over a well-formed base
pub all_anchored : (base : TableContent) (properties : Properties) (relations : List Relation) (final : Drafting) → IsTable base
    → IsWellFormed properties.class base.rows → AreRules relations
    → with_relations (basis_of base properties) 0 relations (begun (basis_of base properties)) ≡ Ok final
    → (level : Level) → AreAnchored level final.insertions (map Base (base_weights level (elements_of base.rows)))
all_anchored base properties relations final table well rules drafted level =
    let basis = basis_of base properties in
    let steps = steps_of basis 0 relations (begun basis) final drafted in
    let along = steps_anchored basis 0 relations (begun basis) final (start basis table.rows.entries well.wf1) table.header.ranges rules.texts steps level in
    subst (λ is. AreAnchored level is (map Base (base_weights level (elements_of base.rows)))) (sym along.1) along.2
