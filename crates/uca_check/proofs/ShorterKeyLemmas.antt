-- Keys by the positions of their rows, and the last code points of keys.
use Rattle.std.proofs.Common.{◌≡◌, ◌≢◌, ℕ, ◌+◌, ◌-◌, ◌<◌, ◌≤◌, ⊎_elim, List, [], ◌∷◌, ◌++◌, length, get_or, take, Bool, IsTrue, Contains, ap, sym, ◌∙◌, subst, ◌↔◌, arith}
use Rattle.std.proofs.lemmas.Bool.{cases_lt}
use Rattle.std.proofs.lemmas.List.{same_from_push, get_or-map, length-map, take_all}
use Rattle.std.proofs.lemmas.List.Elements.{Contains-get_or, at_from_Contains}
use Rattle.std.proofs.lemmas.Slice.Eq.{bytes_eq-Decides}
use Rattle.std.specs.Str.{bytes_eq}
use Rattle.uca_weights.proofs.Lists.{taken_more}
use Rattle.uca_values.specs.Content.{Entry, keys_of}
use Rattle.uca_check.specs.WellFormed.{MeetsWF5}

-- whether the row at a position has the key
pub key_there : (rows : List Entry) (at : ℕ) (row : Entry) (key own : List ℕ) → at < length rows → row ≡ get_or rows at row → own ≡ row.key → get_or (keys_of rows) at key ≡ own
key_there rows at row key own within there is = get_or-map (λ (r : Entry). r.key) rows at row key within ∙ ap (λ (r : Entry). r.key) (sym there) ∙ sym is

pub key_tested : (rows : List Entry) (at : ℕ) (row : Entry) (key own : List ℕ) (test : Bool) → at < length rows → row ≡ get_or rows at row → own ≡ row.key → test ≡ bytes_eq own key → IsTrue test ↔ (get_or (keys_of rows) at key ≡ key)
key_tested rows at row key own test within there is e =
    let here = key_there rows at row key own within there is in (
      (λ h. here ∙ (bytes_eq-Decides own key).0 (sym e ∙ h)),
      (λ h. e ∙ (bytes_eq-Decides own key).1 (sym here ∙ h)),
    )

-- ---- The search from one row outwards

abbrev pub IsNotAt : List Entry → List ℕ → ℕ → Type 0
IsNotAt rows key k = get_or (keys_of rows) k key ≡ key → ⊥

pub further : (rows : List Entry) (key : List ℕ) (from step k : ℕ)
    → ((j : ℕ) → j < length rows → from < j + step → j < from + step → IsNotAt rows key j)
    → (step ≤ from → IsNotAt rows key (from - step)) → (from + step < length rows → IsNotAt rows key (from + step))
    → k < length rows → from < k + (step + 1) → k < from + (step + 1) → IsNotAt rows key k
further rows key from step k nearer before behind within low high =
    ⊎_elim
    (λ (less : from < k + step). ⊎_elim (λ (near : k < from + step). nearer k within less near)
    (λ (not : from + step ≤ k). let here : k ≡ from + step = omega arith in subst (IsNotAt rows key) (sym here) (behind (omega arith)))
    (cases_lt k (from + step)))
    (λ (not : k + step ≤ from). let here : k ≡ from - step = omega arith in subst (IsNotAt rows key) (sym here) (before (omega arith)))
    (cases_lt from (k + step))

-- a key that is read is there
pub key_found : (rows : List Entry) (key : List ℕ) (at : ℕ) → at < length rows → get_or (keys_of rows) at key ≡ key → Contains (keys_of rows) key
key_found rows key at within there =
    let inside : at < length (keys_of rows) = omega (arith, within, length-map rows (λ (r : Entry). r.key)) in
    subst (Contains (keys_of rows)) there (Contains-get_or (keys_of rows) at key inside)

-- a key that is at no position is not among the keys
pub key_missing : (rows : List Entry) (key : List ℕ) → ((k : ℕ) → k < length rows → IsNotAt rows key k) → ¬ (Contains (keys_of rows) key)
key_missing rows key none has =
    let at = at_from_Contains (keys_of rows) key has in
    none at.0 (omega (arith, at.1, length-map rows (λ (r : Entry). r.key))) (at.2 key)

-- ---- The last code point of a key

pub by_last : (key : List ℕ) (n last : ℕ) → n + 1 ≡ length key → last ≡ get_or key n last → key ≡ take n key ++ last ∷ []
by_last key n last whole there = sym (take_all (n + 1) key (omega arith)) ∙ taken_more key n last (omega arith) there

pub longer_meets : (class : ℕ → ℕ) (rows : List Entry) (row : Entry) (front : List ℕ) (last : ℕ) → row.key ≡ front ++ last ∷ [] → 2 ≤ length front → class last ≢ 0 → Contains (keys_of rows) front ↔ MeetsWF5 class rows row
longer_meets class rows row front last is few non = (
  (λ h. record { shorter = λ start point whole _ _. subst (Contains (keys_of rows)) (same_from_push front start last point (sym is ∙ whole)).0 h }),
  λ meets. meets.shorter front last is few non,
)
