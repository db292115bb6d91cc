-- Relations of an accepted tailoring hold, and each has one new weight.
use Rattle.std.proofs.Common.{◌≡◌, inr, ℕ, List, [], ◌∷◌, ◌++◌, Option, Some, None, refl, sym, ap, ap₂, subst, ◌∙◌}
use Rattle.std.proofs.lemmas.List.{append_cancel_left}
use Rattle.std.specs.List.{AllByRecursion}
use Rattle.uca_weights.specs.declared.Element.{Element}
use Rattle.uca_weights.specs.declared.Level.{Level}
use Rattle.uca_weights.specs.declared.Level.TheVariants.{One, Two, Three}
use Rattle.uca_weights.specs.declared.Weighting.{Weighting}
use Rattle.uca_weights.specs.declared.Weighting.TheVariants.{NonIgnorable, Shifted}
use Rattle.uca_weights.specs.Levels.{weight, level_of}
use Rattle.uca_values.specs.Implicit.{implicit}
use Rattle.uca_text.specs.Texts.{NfdText, code_points, classed}
use Rattle.uca_relations.specs.declared.Relation.{Relation}
use Rattle.uca_relations.specs.Relations.{IsRuleText, HasRuleTexts}
use Rattle.uca_elements.specs.Rows.{rows_of}
use Rattle.uca_elements.specs.Collations.{elements_of}
use Rattle.uca_elements.proofs.ReadingLemmas.{key_reads_as_row}
use Rattle.uca_order.specs.Levels.{compared}
use Rattle.uca_tailorings.specs.Placing.{IsIgnorableTo, reweighted, placed, IsOnSide}
use Rattle.uca_tailorings.specs.Tailorings.{Tailoring, IsTailoring, tailored_reading, expansion_elements, IsTargetRow, IsPlacedAt}
use Rattle.uca_tailorings.specs.Tailorings.{IsPlacedBy, IsPlaced, IsPairWeight, IsBetween, IsAccepted}
use Rattle.uca_tailorings.specs.Meaning.{AreNotVariable, Holds, HoldsShifted, HoldsUnder, source_elements, stands}
use Rattle.uca_tailorings.specs.declared.conditions.Condition.TheVariants.{TailoredIllFormed, NotPlaced, NotNearest}
use Rattle.uca_weights.proofs.Lists.{each_parts}
use Rattle.uca_tailorings.proofs.Parts.{each_by_parts, of_part}
use Rattle.uca_text.proofs.Texts.{points_of_text}
use Rattle.uca_tailorings.proofs.Sound.{IsSound, sound_row, sound_elements, old_is_some, new_is_some}
use Rattle.uca_tailorings.proofs.Holding.{compared_itself, holds_placed}
use Rattle.uca_tailorings.proofs.Shifting.{placed_not_variable, shifted_stands}

-- ---- Relations hold

-- a text of a relation that is a key reads as its row
pub key_reads : (tailoring : Tailoring) (text : NfdText) (row : List Element) → IsRuleText text → rows_of tailoring.tailored.rows text.points ≡ Some row →
    elements_of (tailored_reading tailoring) text ≡ row
key_reads tailoring text row is found =
    let points : code_points (classed text) ≡ text.points = points_of_text text is.normal in
    key_reads_as_row (implicit tailoring.tailored.header.ranges tailoring.properties) (rows_of tailoring.tailored.rows) (classed text) row
    (λ empty. is.some (sym points ∙ ap code_points empty)) (ap (rows_of tailoring.tailored.rows) points ∙ found)

-- so does the target of each relation
pub target_reads : (tailoring : Tailoring) (r : Relation) (row : List Element) → IsRuleText r.target → IsTargetRow tailoring r row →
    elements_of (tailored_reading tailoring) r.target ≡ row
target_reads tailoring r row is found = key_reads tailoring r.target row is found

-- a relation of identical strength holds under each weighting
holds_same : (weighting : Weighting) (tailoring : Tailoring) (r : Relation) → HasRuleTexts r → level_of r.strength ≡ None →
    IsTargetRow tailoring r (source_elements tailoring r) → HoldsUnder weighting tailoring r
holds_same weighting tailoring r texts strength row =
    ap (compared weighting (source_elements tailoring r)) (target_reads tailoring r (source_elements tailoring r) texts.targets row)
    ∙ compared_itself weighting (source_elements tailoring r)
    ∙ sym (ap (stands r.before) strength)

-- a relation holds, be it of strength 1 to 3 or identical
holds_by : (tailoring : Tailoring) → IsTailoring tailoring → IsAccepted tailoring → (before : List Relation) (r : Relation) (after : List Relation) →
    tailoring.relations ≡ before ++ r ∷ after → HasRuleTexts r → (level : Option Level) → level_of r.strength ≡ level → IsPlacedBy tailoring r level →
    Holds tailoring r
holds_by tailoring is accepted before r after whole texts None strength row = holds_same NonIgnorable tailoring r texts strength row
holds_by tailoring is accepted before r after whole texts (Some level) strength placement =
    let old = placement.0 in
    let new = placement.1 in
    let at : IsPlacedAt tailoring r level old new = placement.2 in
    let expansion : List Element = expansion_elements tailoring r in
    let changed : Element = reweighted level new at.last in
    let well = accepted TailoredIllFormed in
    let anchor : AllByRecursion IsSound (at.before ++ at.last ∷ at.trailing) =
    subst (AllByRecursion IsSound) at.anchor.whole (sound_elements tailoring is well r.anchor texts.anchors.normal) in
    let sound : IsSound at.last = (each_parts IsSound at.before (at.last ∷ at.trailing) anchor).1.0 in
    let row : AllByRecursion IsSound (at.before ++ changed ∷ expansion) =
    sound_row tailoring.properties.class tailoring.tailored.rows well r.target.points (placed level at.before at.last expansion new) at.row in
    let new_sound : IsSound changed = (each_parts IsSound at.before (changed ∷ expansion) row).1.0 in
    let nearest = accepted NotNearest before r after whole level old new at in
    let old_some = old_is_some level at.last sound at.anchor.alone at.anchor.not_ignorable in
    let new_some = new_is_some level at.last new sound at.anchor.alone at.anchor.not_ignorable new_sound
    (λ three between. nearest.known 2 (inr (subst (λ l. IsPairWeight l 2) (sym three) refl)) (subst (λ w. IsBetween w new 2) at.old_weight between)) in
    let side = subst (λ w. IsOnSide r.before w new) (sym at.old_weight) at.side in
    ap₂ (compared NonIgnorable) (ap (λ es. es ++ expansion) at.anchor.whole)
    (target_reads tailoring r (placed level at.before at.last expansion new) texts.targets at.row)
    ∙ holds_placed r.before level at.before at.last at.trailing expansion new at.anchor.ignorable old_some new_some side
    ∙ sym (ap (stands r.before) strength)

-- each relation of an accepted tailoring holds
pub all_hold : (tailoring : Tailoring) → IsTailoring tailoring → IsAccepted tailoring → AllByRecursion (Holds tailoring) tailoring.relations
all_hold tailoring is accepted =
    each_by_parts (Holds tailoring) tailoring.relations
    (λ before r after whole.
    holds_by tailoring is accepted before r after whole (of_part HasRuleTexts tailoring.relations before r after is.rules.texts whole)
    (level_of r.strength) refl (of_part (IsPlaced tailoring) tailoring.relations before r after (accepted NotPlaced) whole))

-- ---- Relations hold under shifted weighting

-- a relation that holds, and whose anchor and expansion have no variable element, holds so too
shifted_by : (tailoring : Tailoring) (r : Relation) → HasRuleTexts r → Holds tailoring r → (level : Option Level) → level_of r.strength ≡ level →
    IsPlacedBy tailoring r level → HoldsShifted tailoring r
shifted_by tailoring r texts holds None strength row = λ not_variable. holds_same Shifted tailoring r texts strength row
shifted_by tailoring r texts holds (Some level) strength placement = λ not_variable.
    let new = placement.1 in
    let at : IsPlacedAt tailoring r level placement.0 new = placement.2 in
    let expansion : List Element = expansion_elements tailoring r in
    let source : AreNotVariable ((at.before ++ at.last ∷ at.trailing) ++ expansion) =
    subst (λ (es : List Element). AreNotVariable (es ++ expansion)) at.anchor.whole not_variable in
    let target : AreNotVariable (elements_of (tailored_reading tailoring) r.target) =
    subst AreNotVariable (sym (target_reads tailoring r (placed level at.before at.last expansion new) texts.targets at.row))
    (placed_not_variable level at.before at.last at.trailing expansion new source) in
    shifted_stands r.before level (source_elements tailoring r) (elements_of (tailored_reading tailoring) r.target) not_variable target
    (holds ∙ ap (stands r.before) strength)
    ∙ sym (ap (stands r.before) strength)

-- each relation of an accepted tailoring does
pub all_hold_shifted : (tailoring : Tailoring) → IsTailoring tailoring → IsAccepted tailoring → AllByRecursion (HoldsShifted tailoring) tailoring.relations
all_hold_shifted tailoring is accepted =
    each_by_parts (HoldsShifted tailoring) tailoring.relations
    (λ before r after whole.
    shifted_by tailoring r (of_part HasRuleTexts tailoring.relations before r after is.rules.texts whole)
    (of_part (Holds tailoring) tailoring.relations before r after (all_hold tailoring is accepted) whole)
    (level_of r.strength) refl (of_part (IsPlaced tailoring) tailoring.relations before r after (accepted NotPlaced) whole))

-- ---- A relation has one new weight

-- lists have one last element that is not ignorable
pub one_anchor : (level : Level) (before others : List Element) (last other : Element) (trailing more : List Element) →
    before ++ last ∷ trailing ≡ others ++ other ∷ more → AllByRecursion (IsIgnorableTo level) trailing → AllByRecursion (IsIgnorableTo level) more →
    ¬ (IsIgnorableTo level last) → ¬ (IsIgnorableTo level other) → (before ≡ others) × (last ≡ other)
one_anchor level [] [] last other trailing more same ignorable quiet not_ignorable not_zero =
    let whole : last ∷ trailing ≡ other ∷ more = same in
    let first : last ≡ other = cc in
    (refl, first)
one_anchor level [] (f ∷ others) last other trailing more same ignorable quiet not_ignorable not_zero =
    let whole : last ∷ trailing ≡ f ∷ (others ++ other ∷ more) = same in
    let behind : trailing ≡ others ++ other ∷ more = cc in
    absurd (not_zero (of_part (IsIgnorableTo level) trailing others other more ignorable behind))
one_anchor level (e ∷ before) [] last other trailing more same ignorable quiet not_ignorable not_zero =
    let whole : e ∷ (before ++ last ∷ trailing) ≡ other ∷ more = same in
    let behind : more ≡ before ++ last ∷ trailing = cc in
    absurd (not_ignorable (of_part (IsIgnorableTo level) more before last trailing quiet behind))
one_anchor level (e ∷ before) (f ∷ others) last other trailing more same ignorable quiet not_ignorable not_zero =
    let whole : e ∷ (before ++ last ∷ trailing) ≡ f ∷ (others ++ other ∷ more) = same in
    let first : e ≡ f = cc in
    let behind : before ++ last ∷ trailing ≡ others ++ other ∷ more = cc in
    let rest = one_anchor level before others last other trailing more behind ignorable quiet not_ignorable not_zero in
    (ap₂ (λ x xs. x ∷ xs) first rest.0, rest.1)

-- the new weight of an element
pub weight_of_new : (level : Level) (w : ℕ) (e : Element) → weight level (reweighted level w e) ≡ w
weight_of_new One w e = refl
weight_of_new Two w e = refl
weight_of_new Three w e = refl

-- a relation puts one new weight at a level
pub one_new : (tailoring : Tailoring) (r : Relation) (level : Level) (old new was now : ℕ) → IsPlacedAt tailoring r level old new →
    IsPlacedAt tailoring r level was now → new ≡ now
one_new tailoring r level old new was now at also =
    let expansion : List Element = expansion_elements tailoring r in
    let parts = one_anchor level at.before also.before at.last also.last at.trailing also.trailing (sym at.anchor.whole ∙ also.anchor.whole)
    at.anchor.ignorable also.anchor.ignorable at.anchor.not_ignorable also.anchor.not_ignorable in
    let found : Some (placed level at.before at.last expansion new) ≡ Some (placed level also.before also.last expansion now) = sym at.row ∙ also.row in
    let rows : placed level at.before at.last expansion new ≡ placed level also.before also.last expansion now = cc in
    let same_front : at.before ++ reweighted level new at.last ∷ expansion ≡ at.before ++ reweighted level now at.last ∷ expansion =
    rows ∙ sym (ap₂ (λ front e. placed level front e expansion now) parts.0 parts.1) in
    let behind : reweighted level new at.last ∷ expansion ≡ reweighted level now at.last ∷ expansion =
    append_cancel_left at.before (reweighted level new at.last ∷ expansion) (reweighted level now at.last ∷ expansion) same_front in
    let changed : reweighted level new at.last ≡ reweighted level now at.last = cc in
    sym (weight_of_new level new at.last) ∙ ap (weight level) changed ∙ weight_of_new level now at.last

-- a relation puts its new weight in place of one old one
pub one_old : (tailoring : Tailoring) (r : Relation) (level : Level) (old new was now : ℕ) → IsPlacedAt tailoring r level old new →
    IsPlacedAt tailoring r level was now → old ≡ was
one_old tailoring r level old new was now at also =
    let parts = one_anchor level at.before also.before at.last also.last at.trailing also.trailing (sym at.anchor.whole ∙ also.anchor.whole)
    at.anchor.ignorable also.anchor.ignorable at.anchor.not_ignorable also.anchor.not_ignorable in
    sym at.old_weight ∙ ap (weight level) parts.1 ∙ also.old_weight
