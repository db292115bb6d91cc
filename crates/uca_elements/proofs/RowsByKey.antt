-- What is found at a key: the row that has it.
use Rattle.std.proofs.Common.{◌≡◌, ℕ, zero, suc, ◌<◌, List, [], ◌∷◌, length, map, get_or, true, Some, Contains, ◌↔◌, ◌⊎◌, inl, inr, ⊎_elim, nat_eq}
use Rattle.std.proofs.Common.{is_some, sym, ap, ap₂, subst, refl, ◌∙◌, arith}
use Rattle.std.proofs.lemmas.Bool.{and_parts, and_from, eqb-true, eq-eqb, cond_both, cond-true, cond-false, false≢true, false_from_ne_true}
use Rattle.std.proofs.lemmas.List.{length-map, get_or-map}
use Rattle.std.specs.List.{AllByRecursion}
use Rattle.uca_weights.specs.declared.Element.{Element}
use Rattle.uca_weights.proofs.Lists.{each_contained}
use Rattle.uca_values.specs.Content.{Entry, keys_of, AreDistinct}
use Rattle.uca_elements.specs.Rows.{IsKey, same_key, rows_of}
use Rattle.uca_elements.proofs.ReadingLemmas.{some_row}

pub same_key-true : (a b : List ℕ) → same_key a b ≡ true → a ≡ b
same_key-true [] [] h = refl
same_key-true [] (b ∷ y) h = absurd (false≢true h)
same_key-true (a ∷ x) [] h = absurd (false≢true h)
same_key-true (a ∷ x) (b ∷ y) h =
    let parts = and_parts (nat_eq a b) (same_key x y) h in
    ap₂ (λ c z. c ∷ z) (eqb-true a b parts.0) (same_key-true x y parts.1)

pub same_key-itself : (key : List ℕ) → same_key key key ≡ true
same_key-itself [] = refl
same_key-itself (a ∷ x) = and_from (nat_eq a a) (same_key x x) (eq-eqb a a refl) (same_key-itself x)

pub Contains-first : {X : Type 0} (x y : X) (xs : List X) → x ≡ y → Contains (x ∷ xs) y
Contains-first x y xs e = (0, omega arith, e)

pub Contains-later : {X : Type 0} (x y : X) (xs : List X) → Contains xs y → Contains (x ∷ xs) y
Contains-later x y xs h = (suc h.0, omega (arith, h.1), h.2)

pub Contains-cases : {X : Type 0} (x y : X) (xs : List X) → Contains (x ∷ xs) y → (x ≡ y) ⊎ Contains xs y
Contains-cases x y xs h = go h.0 h.1 h.2
  where
    go : (k : ℕ) → k < length (x ∷ xs) → get_or (x ∷ xs) k y ≡ y → (x ≡ y) ⊎ Contains xs y
    go zero within e = inl e
    go (suc k) within e = inr (k, omega arith, e)

Contains-map : {X Y : Type 0} (f : X → Y) (xs : List X) (x : X) → Contains xs x → Contains (map f xs) (f x)
Contains-map f xs x h = (h.0, subst (λ n. h.0 < n) (sym (length-map xs f)) h.1, get_or-map f xs h.0 x (f x) h.1 ∙ ap f h.2)

-- what is found at a key is a row
pub row_of_found : (table : List Entry) (key : List ℕ) (elements : List Element) → rows_of table key ≡ Some elements →
    Contains table (record { key = key; elements = elements })
row_of_found [] key elements found = cc
row_of_found (r ∷ table) key elements at_key =
    let here : Entry = record { key = key; elements = elements } in
    cond_both (same_key r.key key) (Some r.elements) (rows_of table key) (λ o. o ≡ Some elements → Contains (r ∷ table) here)
    (λ same found. let same_elements : r.elements ≡ elements = cc in
    let same_row : r ≡ here = λ i. record { key = same_key-true r.key key same i; elements = same_elements i } in Contains-first r here table same_row)
    (λ other found. Contains-later r here table (row_of_found table key elements found))
    at_key

-- what is true of each row is true of the one that is found at a key
pub at_row : (P : Entry → Type 0) (table : List Entry) (key : List ℕ) (row : List Element) → AllByRecursion P table →
    rows_of table key ≡ Some row → P (record { key = key; elements = row })
at_row P table key row all found = each_contained P table (record { key = key; elements = row }) all (row_of_found table key row found)

-- where keys are distinct, a row is found at its key
pub found_of_row : (table : List Entry) → AreDistinct table → (row : Entry) → Contains table row → rows_of table row.key ≡ Some row.elements
found_of_row [] distinct row h = absurd (omega (arith, h.1))
found_of_row (r ∷ table) distinct row h =
    ⊎_elim
    (λ same. cond-true (same_key r.key row.key) (Some r.elements) (rows_of table row.key)
    (subst (λ s. same_key r.key s.key ≡ true) same (same_key-itself r.key)) ∙ ap (λ s. Some s.elements) same)
    (λ later.
    let other : same_key r.key row.key ≡ true →
    ⊥ = λ same. distinct.0 (subst (λ key. Contains (keys_of table) key) (sym (same_key-true r.key row.key same))
    (Contains-map (λ (s : Entry). s.key) table row later)) in
    cond-false (same_key r.key row.key) (Some r.elements) (rows_of table row.key) (false_from_ne_true (same_key r.key row.key) other)
    ∙ found_of_row table distinct.1 row later)
    (Contains-cases r row table h)

pub rows_by_key : (table : List Entry) → AreDistinct table → (key : List ℕ) (elements : List Element) →
    (rows_of table key ≡ Some elements) ↔ Contains table (record { key = key; elements = elements })
rows_by_key table distinct key elements =
    (row_of_found table key elements, λ h. found_of_row table distinct (record { key = key; elements = elements }) h)

key_of_contained : (table : List Entry) (key : List ℕ) → Contains (keys_of table) key → IsKey (rows_of table) key
key_of_contained [] key h = absurd (omega (arith, h.1))
key_of_contained (r ∷ table) key h =
    cond_both (same_key r.key key) (Some r.elements) (rows_of table key) (λ o. is_some o ≡ true)
    (λ same. refl)
    (λ other. ⊎_elim
    (λ here. absurd (false≢true (sym other ∙ subst (λ k. same_key r.key k ≡ true) here (same_key-itself r.key))))
    (λ later. key_of_contained table key later)
    (Contains-cases r.key key (keys_of table) h))

-- a list is a key exactly where some row has it
pub key_iff : (table : List Entry) (key : List ℕ) → IsKey (rows_of table) key ↔ Contains (keys_of table) key
key_iff table key = (
  (λ h. let found = some_row (rows_of table) key h in
      Contains-map (λ (s : Entry). s.key) table (record { key = key; elements = found.0 }) (row_of_found table key found.0 found.1)),
  key_of_contained table key,
)
