-- Take a property of the elements that the base and implicit weights give. If a target's elements have it whenever its
-- anchor's and expansion's have it, then each element of each tailored row has it.
use Rattle.std.proofs.Common.{◌≡◌, ◌⊎◌, inl, inr, ⊎_elim, ℕ, ◌<◌, List, [], ◌∷◌, ◌++◌, Option, Some, None, IfSome, IsSomeAnd, refl, sym, subst, ◌∙◌}
use Rattle.std.proofs.Common.{append_assoc, append-nil}
use Rattle.std.specs.List.{AllByRecursion}
use Rattle.std.specs.Char.{IsScalar}
use Rattle.uca_weights.specs.declared.Element.{Element}
use Rattle.uca_values.specs.Implicit.{implicit}
use Rattle.uca_weights.proofs.Lists.{each_weaker}
use Rattle.uca_text.specs.Texts.{NfdText, code_points, classed}
use Rattle.uca_text.specs.Occurring.{OccursInOrder}
use Rattle.uca_relations.specs.declared.Relation.{Relation}
use Rattle.uca_relations.specs.Relations.{IsTarget, IsUntouched, IsRuleText, HasRuleTexts}
use Rattle.uca_elements.specs.Rows.{IsKey, rows_of}
use Rattle.uca_elements.specs.Collations.{elements_of}
use Rattle.uca_elements.proofs.ReadingLemmas.{some_row}
use Rattle.uca_tailorings.specs.Tailorings.{Tailoring, IsTailoring, tailored_reading, anchor_elements, expansion_elements, elements_of_expansion}
use Rattle.uca_tailorings.specs.Tailorings.{IsTargetRow, IsPresentTarget, IsAccepted}
use Rattle.uca_tailorings.specs.declared.conditions.Condition.TheVariants.{RowMissing}
use Rattle.uca_tailorings.proofs.RowConditions.{target_or_not}
use Rattle.uca_tailorings.proofs.UntouchedTexts.{no_target}
use Rattle.uca_tailorings.proofs.Parts.{of_part}
use Rattle.uca_text.proofs.Texts.{points_of_text}
use Rattle.uca_elements.proofs.ReadingEach.{read_each}
use borrow.Table.Char.{scalar_below}
use Rattle.uca_tailorings.proofs.Relating.{key_reads}

-- ---- Targets

-- a target of relations is one of the first or of the later ones
target_parts : (earlier later : List Relation) (text : List ℕ) → IsTarget (earlier ++ later) text → IsTarget earlier text ⊎ IsTarget later text
target_parts [] later text target = inr target
target_parts (r ∷ earlier) later text target =
    ⊎_elim (λ here. inl (inl here)) (λ behind. ⊎_elim (λ first. inl (inr first)) (λ last. inr last) (target_parts earlier later text behind)) target

-- a target of the first is one of all
pub target_in_first : (earlier later : List Relation) (text : List ℕ) → IsTarget earlier text → IsTarget (earlier ++ later) text
target_in_first [] later text target = absurd target
target_in_first (r ∷ earlier) later text target = ⊎_elim (λ here. inl here) (λ behind. inr (target_in_first earlier later text behind)) target

-- a target is a key of the tailored table
target_is_key : (tailoring : Tailoring) (relations : List Relation) (text : List ℕ) → AllByRecursion (IsPresentTarget tailoring) relations →
    IsTarget relations text → IsKey (rows_of tailoring.tailored.rows) text
target_is_key tailoring [] text present target = absurd target
target_is_key tailoring (r ∷ relations) text present target =
    ⊎_elim (λ here. subst (IsKey (rows_of tailoring.tailored.rows)) here present.0)
    (λ later. target_is_key tailoring relations text present.1 later) target

-- ---- Induction over the relations

-- it is true of the target's elements where it is true of those of anchor and expansion
abbrev pub IsMade : (Element → Type 0) → Tailoring → Relation → Type 0
IsMade P tailoring r = AllByRecursion P (anchor_elements tailoring r) → AllByRecursion P (expansion_elements tailoring r) →
    (row : List Element) → IsTargetRow tailoring r row → AllByRecursion P row

module _ (P : Element → Type 0) (tailoring : Tailoring) (is : IsTailoring tailoring) (accepted : IsAccepted tailoring)
    (at_points : (c : ℕ) → c < 0x11_0000 → AllByRecursion P (implicit tailoring.tailored.header.ranges tailoring.properties c))
    (at_others : (key : List ℕ) (row : List Element) → ¬ (IsTarget tailoring.relations key) → rows_of tailoring.tailored.rows key ≡ Some row →
    AllByRecursion P row)
    (made : (before : List Relation) (r : Relation) (after : List Relation) → tailoring.relations ≡ before ++ r ∷ after → IsMade P tailoring r) where
  -- it is true of the rows of these relations' targets
  abbrev AreKnown : List Relation → Type 0
  AreKnown relations = (key : List ℕ) (row : List Element) → IsTarget relations key → rows_of tailoring.tailored.rows key ≡ Some row → AllByRecursion P row

  -- a text that contains no later target, or is an earlier one
  each_of_text : (earlier later : List Relation) → tailoring.relations ≡ earlier ++ later → AreKnown earlier → (text : NfdText) → IsRuleText text →
      (¬ (IsTarget earlier text.points) → IsUntouched later text.points) → AllByRecursion P (elements_of (tailored_reading tailoring) text)
  each_of_text earlier later whole known text rule_text untouched =
      let of_point = implicit tailoring.tailored.header.ranges tailoring.properties in
      let points : code_points (classed text) ≡ text.points = points_of_text text rule_text.normal in
      let implicit_hold = each_weaker IsScalar (λ c. AllByRecursion P (of_point c)) (λ c scalar. at_points c (scalar_below c scalar))
      text.points rule_text.normal.scalars in
      ⊎_elim
      (λ target.
      let whole_target : IsTarget tailoring.relations text.points =
      subst (λ relations. IsTarget relations text.points) (sym whole) (target_in_first earlier later text.points target) in
      let found = some_row (rows_of tailoring.tailored.rows) text.points
      (target_is_key tailoring tailoring.relations text.points (accepted RowMissing).1 whole_target) in
      subst (AllByRecursion P) (sym (key_reads tailoring text found.0 rule_text found.1)) (known text.points found.0 target found.1))
      (λ free.
      read_each P of_point (rows_of tailoring.tailored.rows) (classed text)
      (λ key row occurs found.
      let within : OccursInOrder key text.points = subst (OccursInOrder key) points occurs in
      ⊎_elim
      (λ target. known key row target found)
      (λ other. at_others key row
      (λ target. ⊎_elim other (no_target later key text.points (untouched free) within)
      (target_parts earlier later key (subst (λ relations. IsTarget relations key) whole target))) found)
      (target_or_not earlier key))
      (subst (AllByRecursion (λ c. AllByRecursion P (of_point c))) (sym points) implicit_hold))
      (target_or_not earlier text.points)

  -- an expansion, if there is one, that contains no later target or is an earlier one
  each_of_expansion : (earlier later : List Relation) → tailoring.relations ≡ earlier ++ later → AreKnown earlier → (expansion : Option NfdText) →
      IfSome expansion IsRuleText → ((text : List ℕ) → IsSomeAnd expansion (λ e. text ≡ e.points) → ¬ (IsTarget earlier text) → IsUntouched later text) →
      AllByRecursion P (elements_of_expansion (tailored_reading tailoring) expansion)
  each_of_expansion earlier later whole known None rule_text untouched = tt
  each_of_expansion earlier later whole known (Some text) rule_text untouched =
      each_of_text earlier later whole known text rule_text (untouched text.points refl)

  -- one more relation is known
  known_more : (earlier : List Relation) (r : Relation) (later : List Relation) → tailoring.relations ≡ earlier ++ r ∷ later → AreKnown earlier →
      AreKnown (earlier ++ r ∷ [])
  known_more earlier r later whole known key row target found =
      let texts = of_part HasRuleTexts tailoring.relations earlier r later is.rules.texts whole in
      let late = is.rules.none_late earlier later r in
      let anchor = each_of_text earlier (r ∷ later) whole known r.anchor texts.anchors (late r.anchor.points whole (inl refl)) in
      let expansion = each_of_expansion earlier (r ∷ later) whole known r.expansion texts.expands (λ text used. late text whole (inr used)) in
      ⊎_elim
      (λ first. known key row first found)
      (λ last. ⊎_elim
      (λ here. made earlier r later whole anchor expansion row (subst (λ k. rows_of tailoring.tailored.rows k ≡ Some row) (sym here) found))
      (λ none. absurd none)
      last)
      (target_parts earlier (r ∷ []) key target)

  -- so all are
  known_all : (earlier later : List Relation) → tailoring.relations ≡ earlier ++ later → AreKnown earlier → AreKnown tailoring.relations
  known_all earlier [] whole known = subst AreKnown (sym (whole ∙ append-nil earlier)) known
  known_all earlier (r ∷ later) whole known =
      known_all (earlier ++ r ∷ []) later (whole ∙ sym (append_assoc earlier (r ∷ []) later)) (known_more earlier r later whole known)

  -- it is true of the elements of each tailored row
  pub each_of_rows : (key : List ℕ) (row : List Element) → rows_of tailoring.tailored.rows key ≡ Some row → AllByRecursion P row
  each_of_rows key row found =
      ⊎_elim
      (λ target. known_all [] tailoring.relations refl (λ _ _ none _. absurd none) key row target found)
      (λ other. at_others key row other found)
      (target_or_not tailoring.relations key)
