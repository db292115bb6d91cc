-- The keys of a plan's rows: those of the base, and after them the targets that are none of them.
use Rattle.std.proofs.Common.{◌≡◌, ◌≢◌, inl, inr, ℕ, Bool, true, false, cond, not, ◌||◌, List, [], ◌∷◌, ◌++◌, map, refl, sym, ap, ◌∙◌, append_assoc}
use Rattle.std.specs.List.{AllByRecursion, filter}
use Rattle.std.proofs.Math.Bool.{or-false}
use Rattle.std.proofs.lemmas.List.{append-nil}
use Rattle.std.proofs.lemmas.List.Elements.{filter_agree}
use Rattle.uca_values.specs.Content.{keys_of}
use Rattle.uca_check.specs.WellFormed.{elements_of}
use Rattle.uca_relations.specs.declared.Relation.{Relation}
use Rattle.uca_relations.specs.Relations.{AreDistinct}
use Rattle.uca_elements.specs.Rows.{rows_of, is_key}
use Rattle.uca_plans.specs.Plans.{Plan}
use Rattle.uca_plans.specs.Keys.{is_among, with_key, with_targets}
use Rattle.uca_plans.specs.PlanLaws.{KeysOfPlans}
use Rattle.uca_plans.proofs.KeyPlaces.{same_key-other, with_key_is, among_with_key}
use Rattle.uca_plans.proofs.PlanKeys.{found_among, keys_so_far, keys_of_numbered}
use Rattle.uca_plans.proofs.PlanSteps.{planned_is, level_plans}

-- the targets of relations
abbrev targets : List Relation → List (List ℕ)
targets relations = map (λ r. r.target.points) relations

-- those that are none of some keys
abbrev others_than : List (List ℕ) → List (List ℕ) → List (List ℕ)
others_than keys texts = filter (λ key. not (is_among keys key)) texts

-- what is true of each relation, with others before and after it, is true of all
each_part : (P : Relation → Type 0) (relations : List Relation)
    → ((before after : List Relation) (r : Relation) → relations ≡ before ++ r ∷ after → P r) → AllByRecursion P relations
each_part P [] parts = tt
each_part P (r ∷ relations) parts = (
  parts [] relations r refl,
  each_part P relations (λ before after s is. parts (r ∷ before) after s (ap (λ rs. r ∷ rs) is)),
)

-- of distinct relations the first has another target than the rest, which are distinct
first_other : (r : Relation) (relations : List Relation) → AreDistinct (r ∷ relations)
    → AllByRecursion (λ s. r.target.points ≢ s.target.points) relations
first_other r relations distinct =
    each_part (λ s. r.target.points ≢ s.target.points) relations
    (λ before after s is same. distinct (r ∷ before) after s (ap (λ rs. r ∷ rs) is) (inl same))

rest_distinct : (r : Relation) (relations : List Relation) → AreDistinct (r ∷ relations) → AreDistinct relations
rest_distinct r relations distinct before after s is target = distinct (r ∷ before) after s (ap (λ rs. r ∷ rs) is) (inr target)

-- one more key among some leaves out no other target
others_kept : (new : List ℕ) (keys : List (List ℕ)) (relations : List Relation) → AllByRecursion (λ s. new ≢ s.target.points) relations
    → others_than (with_key new keys) (targets relations) ≡ others_than keys (targets relations)
others_kept new keys [] others = refl
others_kept new keys (s ∷ relations) others =
    let same : is_among (with_key new keys) s.target.points ≡ is_among keys s.target.points =
    among_with_key new keys s.target.points
    ∙ ap (λ b. is_among keys s.target.points || b) (same_key-other new s.target.points others.0)
    ∙ or-false (is_among keys s.target.points) in
    ap (λ b. cond (not b) (s.target.points ∷ others_than (with_key new keys) (targets relations)) (others_than (with_key new keys) (targets relations))) same
    ∙ ap (λ rest. cond (not (is_among keys s.target.points)) (s.target.points ∷ rest) rest) (others_kept new keys relations others.1)

-- targets come after keys, without those that are among them
after_keys : (keys : List (List ℕ)) (relations : List Relation) → AreDistinct relations
    → with_targets relations keys ≡ keys ++ others_than keys (targets relations)
after_keys keys [] distinct = sym (append-nil keys)
after_keys keys (r ∷ relations) distinct =
    let new = r.target.points in
    let rest = others_than keys (targets relations) in
    after_keys (with_key new keys) relations (rest_distinct r relations distinct)
    ∙ ap (λ texts. with_key new keys ++ texts) (others_kept new keys relations (first_other r relations distinct))
    ∙ ap (λ more. more ++ rest) (with_key_is new keys)
    ∙ go (is_among keys new) rest
  where
    -- by whether the first is among them
    go : (b : Bool) (rest : List (List ℕ))
        → cond b keys (keys ++ r.target.points ∷ []) ++ rest ≡ keys ++ cond (not b) (r.target.points ∷ rest) rest
    go true rest = refl
    go false rest = append_assoc keys (r.target.points ∷ []) rest

-- the keys of a plan's rows
pub plan_keys : KeysOfPlans
plan_keys basis relations plan distinct planned_so =
    let made = planned_is basis relations plan planned_so in
    ap (λ (p : Plan). keys_of p.rows) made.is_plan
    ∙ keys_of_numbered (level_plans (elements_of basis.base) made.drafting.insertions) made.drafting.rows
    ∙ keys_so_far basis relations made.drafting made.steps
    ∙ after_keys (keys_of basis.base) relations distinct
    ∙ ap (λ news. keys_of basis.base ++ news)
    (filter_agree (λ key. not (is_among (keys_of basis.base) key)) (λ key. not (is_key (rows_of basis.base) key))
    (λ key. ap not (sym (found_among basis.base key))) (targets relations))
