-- The least and the greatest primary of variable elements (condition 4): one element more, and elements between them.
use Rattle.std.proofs.Common.{◌≡◌, ℕ, ◌<◌, ◌≤◌, min, max, ◌⊎◌, inl, inr, ⊎_elim, List, [], ◌∷◌, ◌++◌, Option, Some, None, true, false, sym, ◌∙◌, refl, ◌↔◌, arith}
use Rattle.std.specs.List.{AllByRecursion}
use Rattle.std.proofs.lemmas.Bool.{false≢true, cases_lt}
use Rattle.uca_weights.specs.declared.Element.{Element}
use Rattle.uca_weights.proofs.Lists.{each_push, each_weaker, each_any}
use Rattle.uca_check.specs.declared.wf4.VariableRange.{VariableRange}
use Rattle.uca_check.specs.WellFormed.{IsVariable, IsVariableBetween}
use Rattle.uca_check.specs.Searches.{IsVariableRange, IsVariableRangeIfAny, StandsApart}

iff_push : {A B : Type 0} (Q : Element → Type 0) (all : List Element) (e : Element) → A ↔ AllByRecursion Q all → B ↔ (A × Q e) → B ↔ AllByRecursion Q (all ++ e ∷ [])
iff_push Q all e old new = (
  (λ b. let parts = new.0 b in (each_push Q all e).1 (old.0 parts.0, parts.1)),
  λ h. let parts = (each_push Q all e).0 h in new.1 (old.1 parts.0, parts.1),
)

-- one more variable element
pub span_with : (all : List Element) (range : VariableRange) (e : Element) (least greatest : ℕ) → IsVariable e → least ≡ min range.least e.primary → greatest ≡ max range.greatest e.primary → IsVariableRange all range → IsVariableRange (all ++ e ∷ []) (record { least = least; greatest = greatest })
span_with all range e least greatest is l g old = record {
  least = λ n. iff_push (λ v. IsVariable v → n < v.primary) all e (old.least n) (λ h. (omega arith, λ _. omega arith), λ h. let less = h.1 is in omega arith);
  greatest = λ n. iff_push (λ v. IsVariable v → v.primary < n) all e (old.greatest n) (λ h. (omega arith, λ _. omega arith), λ h. let less = h.1 is in omega arith);
}

-- the first variable element
pub span_of_first : (all : List Element) (e : Element) → IsVariable e → AllByRecursion (λ v. IsVariable v → ⊥) all → IsVariableRange (all ++ e ∷ []) (record { least = e.primary; greatest = e.primary })
span_of_first all e is none = record {
  least = λ n. ((λ h. (each_push (λ v. IsVariable v → n < v.primary) all e).1 (each_weaker (λ v. IsVariable v → ⊥) (λ v. IsVariable v → n < v.primary) (λ v not one. absurd (not one)) all none, λ _. h)), λ h. ((each_push (λ v. IsVariable v → n < v.primary) all e).0 h).1 is);
  greatest = λ n. ((λ h. (each_push (λ v. IsVariable v → v.primary < n) all e).1 (each_weaker (λ v. IsVariable v → ⊥) (λ v. IsVariable v → v.primary < n) (λ v not one. absurd (not one)) all none, λ _. h)), λ h. ((each_push (λ v. IsVariable v → v.primary < n) all e).0 h).1 is);
}

not_variable : (e : Element) → e.mark ≡ false → IsVariable e → ⊥
not_variable e not is = false≢true (sym not ∙ is)

-- an element that is not variable changes nothing
pub span_without : (all : List Element) (range : Option VariableRange) (e : Element) → e.mark ≡ false → IsVariableRangeIfAny all range → IsVariableRangeIfAny (all ++ e ∷ []) range
span_without all None e not none = (each_push (λ v. IsVariable v → ⊥) all e).1 (none, not_variable e not)
span_without all (Some range) e not old = record {
  least = λ n. iff_push (λ v. IsVariable v → n < v.primary) all e (old.least n) (λ h. (h, λ is. absurd (not_variable e not is)), λ h. h.0);
  greatest = λ n. iff_push (λ v. IsVariable v → v.primary < n) all e (old.greatest n) (λ h. (h, λ is. absurd (not_variable e not is)), λ h. h.0);
}

-- ---- Elements between

abbrev pub Between : Element → Element → Element → Type 0
Between e v w = IsVariable v → IsVariable w → v.primary ≤ e.primary → e.primary ≤ w.primary → IsVariable e

pub variable_between : (all : List Element) (e : Element) → IsVariable e → IsVariableBetween all e
variable_between all e is = each_any (λ v. AllByRecursion (Between e v) all) (λ v. each_any (Between e v) (λ w _ _ _ _. is) all) all

pub none_between : (all : List Element) (e : Element) → AllByRecursion (λ v. IsVariable v → ⊥) all → IsVariableBetween all e
none_between all e none = each_weaker (λ v. IsVariable v → ⊥) (λ v. AllByRecursion (Between e v) all) (λ v not. each_any (Between e v) (λ w is _ _ _. absurd (not is)) all) all none

below_all : (all : List Element) (e : Element) → AllByRecursion (λ v. IsVariable v → e.primary < v.primary) all → IsVariableBetween all e
below_all all e below = each_weaker (λ v. IsVariable v → e.primary < v.primary) (λ v. AllByRecursion (Between e v) all) (λ v less. each_any (Between e v) (λ w is _ low _. absurd (let l = less is in omega arith)) all) all below

above_all : (all : List Element) (e : Element) → AllByRecursion (λ w. IsVariable w → w.primary < e.primary) all → IsVariableBetween all e
above_all all e above = each_any (λ v. AllByRecursion (Between e v) all) (λ v. each_weaker (λ w. IsVariable w → w.primary < e.primary) (Between e v) (λ w less _ is _ high. absurd (let l = less is in omega arith)) all above) all

pub outside_between : (all : List Element) (range : VariableRange) (e : Element) → IsVariableRange all range → (e.primary < range.least) ⊎ (range.greatest < e.primary) → IsVariableBetween all e
outside_between all range e is (inl low) = below_all all e ((is.least e.primary).0 low)
outside_between all range e is (inr high) = above_all all e ((is.greatest e.primary).0 high)

pub between_outside : (all : List Element) (range : VariableRange) (e : Element) → IsVariableRange all range → e.mark ≡ false → IsVariableBetween all e → (e.primary < range.least) ⊎ (range.greatest < e.primary)
between_outside all range e is not h =
    ⊎_elim (λ high. inr high)
    (λ (within : e.primary ≤ range.greatest).
    let after : (v : Element) → AllByRecursion (Between e v) all → IsVariable v → e.primary < v.primary = λ v each one.
    ⊎_elim (λ less. less)
    (λ (low : v.primary ≤ e.primary).
    let above : AllByRecursion (λ w. IsVariable w → w.primary < e.primary) all =
    each_weaker (Between e v) (λ w. IsVariable w → w.primary < e.primary)
    (λ w between two. ⊎_elim (λ less. less) (λ (high : e.primary ≤ w.primary). absurd (not_variable e not (between one two low high))) (cases_lt w.primary e.primary)) all each in
    let less = (is.greatest e.primary).1 above in absurd (omega arith))
    (cases_lt e.primary v.primary) in
    inl ((is.least e.primary).1 (each_weaker (λ v. AllByRecursion (Between e v) all) (λ v. IsVariable v → e.primary < v.primary) after all h)))
    (cases_lt range.greatest e.primary)

pub apart_iff : (all : List Element) (range : Option VariableRange) → IsVariableRangeIfAny all range → (e : Element) → StandsApart range e ↔ IsVariableBetween all e
apart_iff all range is e = (forth range is, back range is)
  where
    forth : (range : Option VariableRange) → IsVariableRangeIfAny all range → StandsApart range e → IsVariableBetween all e
    forth range is (inl marked) = variable_between all e marked
    forth None is (inr _) = none_between all e is
    forth (Some s) is (inr outside) = outside_between all s e is outside

    back : (range : Option VariableRange) → IsVariableRangeIfAny all range → IsVariableBetween all e → StandsApart range e
    back None is h = inr tt
    back (Some s) is h = elim e.mark as (λ b. e.mark ≡ b → StandsApart (Some s) e) [ true ↦ λ marked. inl marked | false ↦ λ not. inr (between_outside all s e is not h) ] refl
