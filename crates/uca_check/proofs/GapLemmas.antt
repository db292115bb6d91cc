-- Lists of elements in which only a continuation directly after a lead has a gap (condition 1), element by element.
use Rattle.std.proofs.Common.{◌≡◌, ℕ, ◌+◌, ◌<◌, ⊎_elim, List, [], ◌∷◌, ◌++◌, length, take, drop, get_or, ap, sym, ◌∙◌, refl, subst, ◌↔◌, append_assoc, Bool, true, false, IsTrue}
use Rattle.std.proofs.lemmas.Bool.{false≢true}
use Rattle.std.proofs.lemmas.List.{same_from_push, take-append-drop, drop_more, get_or_default}
use Rattle.uca_weights.specs.declared.Element.{Element}
use Rattle.uca_weights.specs.Kinds.{IsContinuation}
use Rattle.uca_weights.proofs.Lists.{not_nil, by_last, taken_more}
use Rattle.uca_check.specs.WellFormed.{HasGap, IsLead, EndsWithLead}

abbrev pub AreGapless : List Element → Type 0
AreGapless elements = (before : List Element) (e : Element) (after : List Element) → elements ≡ before ++ e ∷ after → HasGap e → IsContinuation e × EndsWithLead before

pub none_gapless : AreGapless []
none_gapless before e after h gap = absurd (not_nil before e after h)

pub none_ends : EndsWithLead [] → ⊥
none_ends h = not_nil h.0 h.1 [] h.2

ends_push : (xs : List Element) (x : Element) → EndsWithLead (xs ++ x ∷ []) ↔ IsLead x
ends_push xs x = (
  (λ h. subst IsLead (sym (same_from_push xs h.0 x h.1 h.2).1) h.3),
  λ h. (xs, x, refl, h),
)

gapless_push : (xs : List Element) (x : Element) → AreGapless xs → (HasGap x → IsContinuation x × EndsWithLead xs) → AreGapless (xs ++ x ∷ [])
gapless_push xs x earlier last before e after h gap =
    ⊎_elim
    (λ none.
    let same = same_from_push xs before x e (h ∙ ap (λ rest. before ++ e ∷ rest) none) in
    let here = last (subst HasGap (sym same.1) gap) in
    (subst IsContinuation same.1 here.0, subst EndsWithLead same.0 here.1))
    (λ (some : (front : List Element) × (back : Element) × (after ≡ front ++ back ∷ [])).
    let same = same_from_push xs (before ++ e ∷ some.0) x some.1 (h ∙ ap (λ rest. before ++ e ∷ rest) some.2 ∙ sym (append_assoc before (e ∷ some.0) (some.1 ∷ []))) in
    earlier before e some.0 same.0 gap)
    (by_last after)

-- an element with a gap is a continuation after a lead
gap_found : (xs : List Element) (i : ℕ) (x : Element) → i < length xs → x ≡ get_or xs i x → AreGapless xs → HasGap x → IsContinuation x × EndsWithLead (take i xs)
gap_found xs i x within there h gap =
    h (take i xs) x (drop (i + 1) xs) (sym (take-append-drop i xs) ∙ ap (λ rest. take i xs ++ rest) (drop_more xs i x within ∙ ap (λ y. y ∷ drop (i + 1) xs) (sym there))) gap

-- the loop's step: one more element without a gap, or with one that it may have there
pub gapless_step : (xs : List Element) (i : ℕ) (d x : Element) (behind lead stands : Bool) → i < length xs → x ≡ get_or xs i d → AreGapless (take i xs) → IsTrue behind ↔ EndsWithLead (take i xs)
    → IsTrue stands ↔ (HasGap x → IsContinuation x × IsTrue behind) → stands ≡ true → IsTrue lead ↔ IsLead x
    → AreGapless (take (i + 1) xs) × (IsTrue lead ↔ EndsWithLead (take (i + 1) xs))
gapless_step xs i d x behind lead stands within there gapless ends may stand is_lead =
    subst (λ front. AreGapless front × (IsTrue lead ↔ EndsWithLead front)) (sym (taken_more xs i x within (there ∙ get_or_default xs i d x within))) (
      gapless_push (take i xs) x gapless (λ gap. let p = may.0 stand gap in (p.0, ends.0 p.1)),
      ((λ h. (ends_push (take i xs) x).1 (is_lead.0 h)), λ h. is_lead.1 ((ends_push (take i xs) x).0 h)),
    )

-- and one that may not
pub gap_step : (xs : List Element) (i : ℕ) (d x : Element) (behind stands : Bool) → i < length xs → x ≡ get_or xs i d → IsTrue behind ↔ EndsWithLead (take i xs)
    → IsTrue stands ↔ (HasGap x → IsContinuation x × IsTrue behind) → stands ≡ false → AreGapless xs → ⊥
gap_step xs i d x behind stands within there ends may not meets =
    false≢true (sym not ∙ may.1 (λ gap. let p = gap_found xs i x within (there ∙ get_or_default xs i d x within) meets gap in (p.0, ends.1 p.1)))
