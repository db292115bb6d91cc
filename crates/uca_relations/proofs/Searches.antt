-- Going through relations in turn: for a target that is a text, and for one that occurs in it.
use Rattle.std.proofs.Common.{◌≡◌, ◌≢◌, ◌↔◌, ℕ, ◌+◌, ◌<◌, List, ◌∷◌, length, drop, get_or, sym, subst, inl, inr, ⊎_elim}
use Rattle.std.proofs.lemmas.List.{drop_more}
use Rattle.uca_text.specs.Occurring.{OccursInOrder}
use Rattle.uca_relations.specs.declared.Relation.{Relation}
use Rattle.uca_relations.specs.Relations.{IsTarget, IsUntouched}

-- a test of all relations is one of those that are left
pub target_further : (relations : List Relation) (text : List ℕ) (i : ℕ) (r : Relation) → i < length relations → r ≡ get_or relations i r → r.target.points ≢ text
    → (IsTarget relations text ↔ IsTarget (drop i relations) text) → IsTarget relations text ↔ IsTarget (drop (i + 1) relations) text
target_further relations text i r has is other so_far =
    let more : drop i relations ≡ r ∷ drop (i + 1) relations = subst (λ (z : Relation). drop i relations ≡ z ∷ drop (i + 1) relations) (sym is) (drop_more relations i r has) in
    let here = subst (λ (s : List Relation). IsTarget relations text ↔ IsTarget s text) more so_far in
    (λ h. ⊎_elim (λ first. absurd (other first)) (λ later. later) (here.0 h), λ h. here.1 (inr h))

pub target_here : (relations : List Relation) (text : List ℕ) (i : ℕ) (r : Relation) → i < length relations → r ≡ get_or relations i r → r.target.points ≡ text
    → (IsTarget relations text ↔ IsTarget (drop i relations) text) → IsTarget relations text
target_here relations text i r has is same so_far =
    let more : drop i relations ≡ r ∷ drop (i + 1) relations = subst (λ (z : Relation). drop i relations ≡ z ∷ drop (i + 1) relations) (sym is) (drop_more relations i r has) in
    (subst (λ (s : List Relation). IsTarget relations text ↔ IsTarget s text) more so_far).1 (inl same)

pub untouched_further : (relations : List Relation) (text : List ℕ) (i : ℕ) (r : Relation) → i < length relations → r ≡ get_or relations i r → ¬ (OccursInOrder r.target.points text)
    → (IsUntouched relations text ↔ IsUntouched (drop i relations) text) → IsUntouched relations text ↔ IsUntouched (drop (i + 1) relations) text
untouched_further relations text i r has is none so_far =
    let more : drop i relations ≡ r ∷ drop (i + 1) relations = subst (λ (z : Relation). drop i relations ≡ z ∷ drop (i + 1) relations) (sym is) (drop_more relations i r has) in
    let here = subst (λ (s : List Relation). IsUntouched relations text ↔ IsUntouched s text) more so_far in
    (λ h. (here.0 h).1, λ h. here.1 (none, h))
