-- What a pass over rows finds: the first row without a property, if there is one.
use Rattle.std.proofs.Common.{◌≡◌, ◌≤◌, ℕ, zero, suc, ◌+◌, ◌<◌, ⊎_elim, Bool, true, false, not, IsTrue, get_or, sym, subst, List, [], ◌∷◌, length, Option, Some, None, ap, refl, MatchOption, arith, ◌↔◌}
use Rattle.std.specs.List.{AllByRecursion, AllWithin, HoldsAt}
use Rattle.std.proofs.lemmas.Bool.{cases_lt, false≢true}
use Rattle.std.proofs.lemmas.List.Elements.{recursion_from_All, All-from_all_within, at_read}
use Rattle.uca_weights.specs.declared.Element.{Element}
use Rattle.uca_weights.proofs.Lists.{each_weaker}
use Rattle.uca_values.specs.Content.{Entry}
use Rattle.uca_check.specs.WellFormed.{IsFirstWithout}
use Rattle.uca_check.specs.Searches.{FindsFirstWithout}

pub first_at : (P : Entry → Type 0) (rows : List Entry) (i : ℕ) → i < length rows → HoldsAt (λ row. P row → ⊥) rows i → AllWithin P rows 0 i → IsFirstWithout P rows (i + 1)
first_at P [] i within fails earlier = absurd (omega arith)
first_at P (r ∷ rows) zero within fails earlier = record { before = []; entry = r; after = rows; split = refl; place = refl; earlier = tt; without = fails r }
first_at P (r ∷ rows) (suc i) within fails earlier =
    let rest = first_at P rows i (omega arith) fails (λ k d low high. earlier (suc k) d (omega arith) (omega arith)) in
    record {
      before = r ∷ rest.before;
      entry = rest.entry;
      after = rest.after;
      split = ap (λ rs. r ∷ rs) rest.split;
      place = omega (arith, rest.place);
      earlier = (earlier zero r (omega arith) (omega arith), rest.earlier);
      without = rest.without;
    }

-- one more row has the property
pub within_more : (P : Entry → Type 0) (rows : List Entry) (i : ℕ) (r : Entry) → i < length rows → r ≡ get_or rows i r → AllWithin P rows 0 i → P r → AllWithin P rows 0 (i + 1)
within_more P rows i r within there earlier here k d low high =
    ⊎_elim
    (λ (less : k < i). earlier k d low less)
    (λ (not : i ≤ k). let same : i ≡ k = omega arith in subst (λ j. P (get_or rows j d)) same (at_read rows P i r within there here d))
    (cases_lt k i)

-- a test that says whether the property holds
abbrev pub Tested : Type 0 → Bool → Type 0
Tested P fails = (holds : Bool) × (fails ≡ not holds) × (IsTrue holds ↔ P)

pub fails_tested : (P : Type 0) → Tested P true → P → ⊥
fails_tested P t p = true_not_true t.0 (sym t.1) (t.2.1 p)
  where
    true_not_true : (holds : Bool) → not holds ≡ true → holds ≡ true → ⊥
    true_not_true true e h = false≢true e
    true_not_true false e h = false≢true h

pub holds_tested : (P : Type 0) → Tested P false → P
holds_tested P t = t.2.0 (false_not t.0 (sym t.1))
  where
    false_not : (holds : Bool) → not holds ≡ false → holds ≡ true
    false_not true e = refl
    false_not false e = absurd (false≢true (sym e))

pub first_found : (P : Entry → Type 0) (rows : List Entry) (found : Option ℕ) → MatchOption found (AllWithin P rows 0 (length rows)) (λ i. (i < length rows) × HoldsAt (λ row. P row → ⊥) rows i × AllWithin P rows 0 i) → FindsFirstWithout P rows found
first_found P rows None h = recursion_from_All P rows (All-from_all_within P rows h)
first_found P rows (Some i) h = (h.0, first_at P rows i h.0 h.1 h.2)

-- what two properties that agree find
finds_same : (P Q : Entry → Type 0) → ((row : Entry) → P row ↔ Q row) → (rows : List Entry) (found : Option ℕ) → FindsFirstWithout P rows found → FindsFirstWithout Q rows found
finds_same P Q same rows None h = each_weaker P Q (λ row. (same row).0) rows h
finds_same P Q same rows (Some i) h =
    let first = h.1 in (
      h.0,
      record {
        before = first.before;
        entry = first.entry;
        after = first.after;
        split = first.split;
        place = first.place;
        earlier = each_weaker P Q (λ row. (same row).0) first.before first.earlier;
        without = λ q. first.without ((same first.entry).1 q);
      },
    )

-- rows whose elements have properties that agree
pub finds_each : (P : Element → Type 0) (Q : Element → Type 0) → ((e : Element) → P e ↔ Q e) → (rows : List Entry) (found : Option ℕ) → FindsFirstWithout (λ row. AllByRecursion P row.elements) rows found → FindsFirstWithout (λ row. AllByRecursion Q row.elements) rows found
finds_each P Q same rows found h =
    finds_same (λ row. AllByRecursion P row.elements) (λ row. AllByRecursion Q row.elements)
    (λ row. (each_weaker P Q (λ e. (same e).0) row.elements, each_weaker Q P (λ e. (same e).1) row.elements)) rows found h
