-- What the beginnings of keys say: one code point more, and a list with which no key begins.
use Rattle.std.proofs.Common.{◌≡◌, ℕ, ◌+◌, ◌<◌, List, [], ◌∷◌, ◌++◌, length, take, drop, get_or, true, false, Option, Some, None, is_some, refl, sym, ap, subst}
use Rattle.std.proofs.Common.{◌∙◌, take-append-drop}
use Rattle.std.proofs.lemmas.Bool.{false_from_ne_true}
use Rattle.std.proofs.lemmas.List.{append-nil, take_more}
use Rattle.uca_elements.specs.Rows.{Keys}
use Rattle.uca_elements.specs.Lookups.{BeginsNoKeyIn}

-- one more code point of a key
pub taken_more : (key : List ℕ) (i point : ℕ) → i < length key → point ≡ get_or key i point → take (i + 1) key ≡ take i key ++ point ∷ []
taken_more key i point within is = take_more key i point within ∙ ap (λ c. take i key ++ c ∷ []) (sym is)

-- a list with whose beginning no key begins has no value
pub no_value : {V : Type 0} (values : List ℕ → Option V) (key : List ℕ) (i point : ℕ) → i < length key → point ≡ get_or key i point →
    BeginsNoKeyIn (λ k. is_some (values k)) (take i key ++ point ∷ []) → values key ≡ None
no_value {V} values key i point within is none = go (values key) refl
  where
    go : (value : Option V) → values key ≡ value → values key ≡ None
    go None e = e
    go (Some value) e =
        let begin : take (i + 1) key ≡ take i key ++ point ∷ [] = taken_more key i point within is in
        let whole : key ≡ (take i key ++ point ∷ []) ++ drop (i + 1) key = sym (take-append-drop (i + 1) key)
        ∙ ap (λ front. front ++ drop (i + 1) key) begin in
        absurd (none (drop (i + 1) key, subst (λ k. is_some (values k) ≡ true) whole (ap is_some e)))

-- a list with which no key begins is not a key itself
pub no_key_itself : (keys : Keys) (key : List ℕ) → BeginsNoKeyIn keys key → keys key ≡ false
no_key_itself keys key none = false_from_ne_true (keys key) (λ is. none ([], subst (λ k. keys k ≡ true) (sym (append-nil key)) is))
