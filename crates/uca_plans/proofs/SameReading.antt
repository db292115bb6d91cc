-- Texts of relations read alike over all keys and over the rows so far.
use Rattle.std.proofs.Common.{◌≡◌, ◌≢◌, ◌⊎◌, ℕ, List, [], ◌∷◌, ◌++◌, length, true, IfSome, IsSomeAnd, refl, sym, ap}
use Rattle.std.proofs.Common.{subst, ◌∙◌, inl, inr, ⊎_elim}
use Rattle.std.specs.List.{AllByRecursion, flat_map}
use Rattle.std.proofs.lemmas.Bool.{false≢true, or_left, or_right, or_cases, cases_Bool}
use Rattle.uca_weights.proofs.Lists.{each_parts, inside}
use Rattle.uca_text.specs.Texts.{NfdText, code_points, classed}
use Rattle.uca_text.specs.Occurring.{OccursInOrder}
use Rattle.uca_relations.specs.declared.Relation.{Relation}
use Rattle.uca_relations.specs.Relations.{IsTarget, IsUntouched, IsUsedBy, IsRuleText, HasRuleTexts}
use Rattle.uca_elements.specs.Rows.{same_key}
use Rattle.uca_elements.proofs.Parts.{parts_same, key_is_part}
use Rattle.uca_elements.proofs.RowsByKey.{same_key-true, same_key-itself}
use Rattle.uca_plans.specs.Drafts.{has_key, part_drafts}
use Rattle.uca_plans.specs.Keys.{keys_in, is_among, with_key, with_targets, IsTextOf, RelationsReadOverAllKeys}
use Rattle.uca_plans.proofs.KeyPlaces.{among_with_key, among_left, has_key_is}
use Rattle.uca_plans.proofs.DraftReading.{points_of, letters_some, occurs_in_text}

-- ---- Targets and keys

-- a text is a target, or it is none
pub target_or_not : (relations : List Relation) (text : List ℕ) → IsTarget relations text ⊎ (IsTarget relations text → ⊥)
target_or_not [] text = inr (λ h. h)
target_or_not (r ∷ relations) text =
    ⊎_elim
    (λ same. inl (inl (same_key-true r.target.points text same)))
    (λ other. ⊎_elim
    (λ later. inl (inr later))
    (λ not_later. inr (λ h. ⊎_elim
    (λ here. false≢true (sym other ∙ ap (λ k. same_key k text) here ∙ same_key-itself text)) not_later h))
    (target_or_not relations text))
    (cases_Bool (same_key r.target.points text))

-- keys are kept where targets come after them
pub among_kept : (relations : List Relation) (keys : List (List ℕ)) (key : List ℕ) → is_among keys key ≡ true →
    is_among (with_targets relations keys) key ≡ true
among_kept [] keys key there = there
among_kept (r ∷ relations) keys key there =
    among_kept relations (with_key r.target.points keys) key
    (among_with_key r.target.points keys key ∙ or_left (is_among keys key) (same_key r.target.points key) there)

-- each target is then a key
pub target_among : (relations : List Relation) (keys : List (List ℕ)) (key : List ℕ) → IsTarget relations key →
    is_among (with_targets relations keys) key ≡ true
target_among [] keys key h = absurd h
target_among (r ∷ relations) keys key h =
    ⊎_elim
    (λ here. among_kept relations (with_key r.target.points keys) key
    (among_with_key r.target.points keys key
    ∙ or_right (is_among keys key) (same_key r.target.points key) (ap (λ k. same_key k key) here ∙ same_key-itself key)))
    (λ later. target_among relations (with_key r.target.points keys) key later)
    h

-- a key among others and targets is one of the others, or a target
pub target_of_among : (relations : List Relation) (keys : List (List ℕ)) (key : List ℕ) → is_among (with_targets relations keys) key ≡ true →
    (is_among keys key ≡ true) ⊎ IsTarget relations key
target_of_among [] keys key there = inl there
target_of_among (r ∷ relations) keys key there =
    ⊎_elim
    (λ first. ⊎_elim (λ old. inl old) (λ new. inr (inl (same_key-true r.target.points key new)))
    (or_cases (is_among keys key) (same_key r.target.points key) (sym (among_with_key r.target.points keys key) ∙ first)))
    (λ later. inr (inr later))
    (target_of_among relations (with_key r.target.points keys) key there)

pub targets_append : (before later : List Relation) (keys : List (List ℕ)) →
    with_targets (before ++ later) keys ≡ with_targets later (with_targets before keys)
targets_append [] later keys = refl
targets_append (r ∷ before) later keys = targets_append before later (with_key r.target.points keys)

-- ---- Texts of relations

-- a text of a relation is used by it, and is a text of rules
pub text_used : (r : Relation) (text : NfdText) → IsTextOf r text → IsUsedBy r text.points
text_used r text h =
    ⊎_elim (λ is_anchor. inl (ap (λ s. s.points) is_anchor))
    (λ expands. inr (subst (λ o. IsSomeAnd o (λ expansion. text.points ≡ expansion.points)) (sym expands) refl)) h

pub text_of_rules : (r : Relation) (text : NfdText) → HasRuleTexts r → IsTextOf r text → IsRuleText text
text_of_rules r text texts h =
    ⊎_elim (λ is_anchor. subst IsRuleText (sym is_anchor) texts.anchors) (λ expands. subst (λ o. IfSome o IsRuleText) expands texts.expands) h

-- the targets of relations that leave a text as it is are none of its keys
no_keys : (relations : List Relation) (text key : List ℕ) → IsUntouched relations text → OccursInOrder key text →
    AllByRecursion (λ r. r.target.points ≢ key) relations
no_keys [] text key untouched occurs = tt
no_keys (r ∷ relations) text key untouched occurs =
    (λ same. untouched.0 (subst (λ k. OccursInOrder k text) (sym same) occurs), no_keys relations text key untouched.1 occurs)

-- over all keys the texts of relations read as over the rows so far
pub same_reading : RelationsReadOverAllKeys
same_reading ranges properties keys before after later rest r rows all text rules whole own listed is_text =
    ap (flat_map (part_drafts ranges properties rows))
    (⊎_elim
    (λ target.
    let there : is_among (keys_in rows) text.points ≡ true = ap (λ ks. is_among ks text.points) own ∙ target_among before keys text.points target in
    let there_too : all text.points ≡ true = listed text.points ∙ ap (λ ks. is_among ks text.points) all_keys
    ∙ among_kept later (keys_in rows) text.points there in
    let points : code_points (classed text) ≡ text.points = points_of text same_length in
    key_is_part all (classed text) (letters_some text same_length in_rules.some) (ap all points ∙ there_too)
    ∙ sym (key_is_part (has_key rows) (classed text) (letters_some text same_length in_rules.some)
    (ap (has_key rows) points ∙ has_key_is rows text.points ∙ there)))
    (λ free.
    let untouched : IsUntouched (later ++ rest) text.points =
    subst (λ rs. IsUntouched rs text.points) whole (rules.none_late before after r text.points refl (text_used r text is_text) free) in
    parts_same all (has_key rows) (classed text)
    (λ key occurs.
    listed key
    ∙ ap (λ ks. is_among ks key) all_keys
    ∙ among_left later (keys_in rows) key
    (no_keys later text.points key (each_parts (λ s. OccursInOrder s.target.points text.points → ⊥) later rest untouched).0
    (occurs_in_text key text occurs))
    ∙ sym (has_key_is rows key)))
    (target_or_not before text.points))
  where
    in_rules : IsRuleText text
    in_rules = text_of_rules r text (inside HasRuleTexts before r after rules.texts) is_text

    same_length : length text.classes ≡ length text.points
    same_length = in_rules.normal.accepted.same

    all_keys : with_targets (before ++ later) keys ≡ with_targets later (keys_in rows)
    all_keys = targets_append before later keys ∙ ap (with_targets later) (sym own)
