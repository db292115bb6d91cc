-- The texts that rules affect.
use Rattle.std.proofs.Common.{◌≡◌, ℕ, Bool, true, false, List, [], ◌∷◌, ◌==◌, ◌&&◌, true≢false, refl, sym}
use Rattle.std.specs.Prelude.{◌↔◌, IsTrue, not}
use Rattle.std.specs.Bool.{Decides}
use Rattle.std.proofs.lemmas.Bool.{or_from, or_parts}
use Rattle.std.proofs.lemmas.Bool.Decides.{Decides-eqb, Decides-and, Decides-or, not_from_Decides}
use Rattle.uca_weights.proofs.Tests.{by_cases}
use Rattle.uca_text.specs.Occurring.{OccursInOrder}
use Rattle.uca_relations.specs.declared.Relation.{Relation}
use Rattle.uca_relations.specs.Relations.{IsUntouched}
use Rattle.uca_changes.specs.AffectedTexts.{occurs_in_order, is_affected}

-- the test finds what occurs in order
pub occurs_decides : (xs ys : List ℕ) → Decides (occurs_in_order xs ys) (OccursInOrder xs ys)
occurs_decides [] ys = (λ yes_. tt, λ occurs. refl)
occurs_decides (x ∷ xs) [] = (λ never. absurd (true≢false (sym never)), λ never. absurd never)
occurs_decides (x ∷ xs) (y ∷ ys) =
    Decides-or (x == y && occurs_in_order xs ys) (occurs_in_order (x ∷ xs) ys)
    (Decides-and (x == y) (occurs_in_order xs ys) (Decides-eqb x y) (occurs_decides xs ys)) (occurs_decides (x ∷ xs) ys)

-- no target occurs in a text that the rules leave as it is
pub affects_none : (relations : List Relation) (text : List ℕ) → IsUntouched relations text → is_affected relations text ≡ false
affects_none [] text none = refl
affects_none (r ∷ relations) text none =
    or_from (occurs_in_order r.target.points text) (is_affected relations text)
    (by_cases (occurs_in_order r.target.points text) (λ found. absurd (none.0 ((occurs_decides r.target.points text).0 found))) (λ is. is))
    (affects_none relations text none.1)

-- and only in such a text none occurs
pub leaves_others : (relations : List Relation) (text : List ℕ) → is_affected relations text ≡ false → IsUntouched relations text
leaves_others [] text none = tt
leaves_others (r ∷ relations) text none =
    let parts = or_parts (occurs_in_order r.target.points text) (is_affected relations text) none in
    (not_from_Decides (occurs_in_order r.target.points text) (occurs_decides r.target.points text) parts.0, leaves_others relations text parts.1)

-- rules affect a text unless they leave it as it is
pub affected_unless : (relations : List Relation) (text : List ℕ) (untouched : Bool) → (IsTrue untouched ↔ IsUntouched relations text) →
    not untouched ≡ is_affected relations text
affected_unless relations text true same = sym (affects_none relations text (same.0 refl))
affected_unless relations text false same =
    sym (by_cases (is_affected relations text) (λ is. is) (λ none. absurd (true≢false (sym (same.1 (leaves_others relations text none))))))
