-- The rows of a list by their positions.
use Rattle.std.proofs.Common.{◌≡◌, ℕ, zero, suc, ◌+◌, ◌<◌, ◌≤◌, List, [], ◌∷◌, ◌++◌, length, take, drop, get_or, min, Bool, true, false, ◌&&◌, cond}
use Rattle.std.proofs.Common.{◌↔◌, IsTrue, Some, None, nat_eq, is_some, sym, ap, subst, refl, ◌∙◌, arith, add-one, take_at, take-append-drop}
use Rattle.std.proofs.lemmas.Bool.{cond-true, cond-false}
use Rattle.std.proofs.lemmas.List.{take_more, take_min, same_from_push}
use Rattle.std.proofs.lemmas.Slice.Eq.{bytes_eq-Decides}
use Rattle.std.proofs.Math.Seq.{drop-cons}
use Rattle.std.specs.Str.{bytes_eq}
use Rattle.uca_values.specs.Content.{Entry}
use Rattle.uca_elements.specs.Rows.{rows_of, same_key, IsKey}
use Rattle.uca_elements.specs.Lookups.{BeginsSomeKey, BeginsNoKey}
use Rattle.uca_match.specs.RowLists.{key_at, node_text}
use Rattle.uca_match.specs.declared.row_list.RowNode.{RowNode}

-- ---- Keys

pub same_key_is : (a b : List ℕ) → same_key a b ≡ bytes_eq a b
same_key_is [] [] = refl
same_key_is [] (y ∷ b) = refl
same_key_is (x ∷ a) [] = refl
same_key_is (x ∷ a) (y ∷ b) = elim (nat_eq x y) as (λ t. (t && same_key a b) ≡ (t && bytes_eq a b)) [ true ↦ same_key_is a b | false ↦ refl ]

same_from_test : (a b : List ℕ) → same_key a b ≡ true → a ≡ b
same_from_test a b h = (bytes_eq-Decides a b).0 (sym (same_key_is a b) ∙ h)

test_from_same : (a b : List ℕ) → a ≡ b → same_key a b ≡ true
test_from_same a b h = same_key_is a b ∙ (bytes_eq-Decides a b).1 h

pub key_at_past : (rows : List Entry) (i : ℕ) → length rows ≤ i → key_at rows i ≡ []
key_at_past [] i h = refl
key_at_past (r ∷ rows) zero h = absurd (omega arith)
key_at_past (r ∷ rows) (suc i) h = key_at_past rows i (omega arith)

pub key_at_row : (rows : List Entry) (i : ℕ) (r : Entry) → i < length rows → r ≡ get_or rows i r → key_at rows i ≡ r.key
key_at_row [] i r h e = absurd (omega arith)
key_at_row (s ∷ rows) zero r h e = ap (λ t. t.key) (sym e)
key_at_row (s ∷ rows) (suc i) r h e = key_at_row rows i r (omega arith) e

take_nil : (n : ℕ) → take {A = ℕ} n [] ≡ []
take_nil zero = refl
take_nil (suc n) = refl

-- what a node stands for
pub node_past : (rows : List Entry) (node : RowNode) → length rows ≤ node.row → [] ≡ node_text rows node
node_past rows node h = sym (ap (take node.len) (key_at_past rows node.row h) ∙ take_nil node.len)

pub node_row : (rows : List Entry) (node : RowNode) (r : Entry) (key : List ℕ) (n len : ℕ) → node.row < length rows → r ≡ get_or rows node.row r →
    key ≡ r.key → n ≡ length key → len ≡ min node.len n → take len key ≡ node_text rows node
node_row rows node r key n len within there same all e =
    ap (λ m. take m key) (e ∙ ap (min node.len) all)
    ∙ take_min node.len key
    ∙ ap (take node.len) (same ∙ sym (key_at_row rows node.row r within there))

-- ---- A key that begins with some code points

pub begins_is : (key start : List ℕ) (c x : ℕ) (test : Bool) → length start < length key → x ≡ get_or key (length start) x → x ≡ c →
    test ≡ bytes_eq (take (length start) key) start → IsTrue test ↔ (take (length start + 1) key ≡ start ++ c ∷ [])
begins_is key start c x test longer there same e =
    let more = take_more key (length start) x longer ∙ ap (λ y. take (length start) key ++ y ∷ []) (sym there ∙ same) in (
      (λ h. more ∙ ap (λ xs. xs ++ c ∷ []) ((bytes_eq-Decides (take (length start) key) start).0 (sym e ∙ h))),
      (λ h. e ∙ (bytes_eq-Decides (take (length start) key) start).1 (same_from_push (take (length start) key) start c c (sym more ∙ h)).0),
    )

pub begins_later : (rows : List Entry) (i : ℕ) (r : Entry) (key start : List ℕ) (c : ℕ) (test : Bool) → i < length rows → r ≡ get_or rows i r →
    key ≡ r.key → IsTrue test ↔ (take (length start + 1) key ≡ start ++ c ∷ []) → IsTrue test ↔ (take (length start + 1) (key_at rows i) ≡ start ++ c ∷ [])
begins_later rows i r key start c test within there same e =
    subst (λ k. IsTrue test ↔ (take (length start + 1) k ≡ start ++ c ∷ [])) (same ∙ sym (key_at_row rows i r within there)) e

-- the key of a row is a key
key_of_row : (rows : List Entry) (i : ℕ) → i < length rows → IsKey (rows_of rows) (key_at rows i)
key_of_row [] i h = absurd (omega arith)
key_of_row (r ∷ rows) zero h = ap is_some (cond-true (same_key r.key r.key) (Some r.elements) (rows_of rows r.key) (test_from_same r.key r.key refl))
key_of_row (r ∷ rows) (suc i) h =
    elim (same_key r.key (key_at rows i)) as (λ b. IsTrue (is_some (cond b (Some r.elements) (rows_of rows (key_at rows i)))))
    [ true ↦ refl | false ↦ key_of_row rows i (omega arith) ]

pub begins_some : (rows : List Entry) (i : ℕ) (begin : List ℕ) → i < length rows → take (length begin) (key_at rows i) ≡ begin →
    BeginsSomeKey (rows_of rows) begin
begins_some rows i begin within h =
    let whole : key_at rows i ≡ begin ++ drop (length begin) (key_at rows i) = sym (take-append-drop (length begin) (key_at rows i))
    ∙ ap (λ front. front ++ drop (length begin) (key_at rows i)) h in
    (drop (length begin) (key_at rows i), subst (λ key. IsKey (rows_of rows) key) whole (key_of_row rows i within))

pub begins_none : (rows : List Entry) (begin : List ℕ) → ((k : ℕ) → k < length rows → take (length begin) (key_at rows k) ≡ begin → ⊥) →
    BeginsNoKey (rows_of rows) begin
begins_none [] begin none found = absurd (cc)
begins_none (r ∷ rows) begin none found =
    elim (same_key r.key (begin ++ found.0)) as
    (λ b. same_key r.key (begin ++ found.0) ≡ b → IsTrue (is_some (cond b (Some r.elements) (rows_of rows (begin ++ found.0)))) → ⊥) [
      | true ↦ λ e h. none 0 (omega arith) (ap (take (length begin)) (same_from_test r.key (begin ++ found.0) e)
          ∙ take_at begin found.0 (length begin) refl)
      | false ↦ λ e h. begins_none rows begin (λ k within begins. none (suc k) (omega arith) begins) (found.0, h)
    ] refl found.1

-- ---- The elements of a key

pub row_here : (rows : List Entry) (i : ℕ) (r : Entry) (key : List ℕ) (test : Bool) → i < length rows → r ≡ get_or rows i r →
    test ≡ bytes_eq r.key key → test ≡ true → rows_of (drop i rows) key ≡ Some r.elements
row_here rows i r key test within there e h =
    ap (λ left. rows_of left key) (drop-cons rows i r within ∙ ap (λ s. s ∷ drop (suc i) rows) (sym there))
    ∙ cond-true (same_key r.key key) (Some r.elements) (rows_of (drop (suc i) rows) key) (same_key_is r.key key ∙ sym e ∙ h)

pub row_later : (rows : List Entry) (i : ℕ) (r : Entry) (key : List ℕ) (test : Bool) → i < length rows → r ≡ get_or rows i r →
    test ≡ bytes_eq r.key key → test ≡ false → rows_of (drop i rows) key ≡ rows_of (drop (i + 1) rows) key
row_later rows i r key test within there e h =
    ap (λ left. rows_of left key) (drop-cons rows i r within ∙ ap (λ s. s ∷ drop (suc i) rows) (sym there))
    ∙ cond-false (same_key r.key key) (Some r.elements) (rows_of (drop (suc i) rows) key) (same_key_is r.key key ∙ sym e ∙ h)
    ∙ ap (λ n. rows_of (drop n rows) key) (sym (add-one i))
