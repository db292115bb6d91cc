-- Where code points lead, and the text there.
use Rattle.std.proofs.Common.{◌≡◌, ℕ, ◌<◌, List, [], ◌∷◌, ◌++◌, length, Option, Some, None, option_and_then, slice_index_or, sym, ap, subst, refl}
use Rattle.std.proofs.Common.{◌∙◌, append_assoc, append-nil}
use Rattle.std.proofs.lemmas.Option.{option_and_then_some, same_Some}
use Rattle.uca_match.specs.Tries.{NodeContent, node_at, walk, AreNodes}

-- ---- Code points in two parts

option_again : (o : Option ℕ) → option_and_then (λ m. Some m) o ≡ o
option_again None = refl
option_again (Some m) = refl

pub walk-append : (nodes : List NodeContent) (n : ℕ) (a b : List ℕ) → walk nodes n (a ++ b) ≡ option_and_then (λ m. walk nodes m b) (walk nodes n a)
walk-append nodes n [] b = refl
walk-append nodes n (c ∷ a) b =
    elim ((node_at nodes n).leads c) as
    (λ o. option_and_then (λ m. walk nodes m (a ++ b)) o ≡ option_and_then (λ m. walk nodes m b) (option_and_then (λ m. walk nodes m a) o)) [
      | None ↦ refl
      | Some m ↦ walk-append nodes m a b
    ]

-- one more code point
pub walk_push : (nodes : List NodeContent) (n : ℕ) (front : List ℕ) (c : ℕ) →
    walk nodes n (front ++ c ∷ []) ≡ option_and_then (λ m. (node_at nodes m).leads c) (walk nodes n front)
walk_push nodes n [] c = option_again ((node_at nodes n).leads c)
walk_push nodes n (d ∷ front) c =
    elim ((node_at nodes n).leads d) as
    (λ o. option_and_then (λ m. walk nodes m (front ++ c ∷ [])) o
    ≡ option_and_then (λ m. (node_at nodes m).leads c) (option_and_then (λ m. walk nodes m front) o)) [
      | None ↦ refl
      | Some m ↦ walk_push nodes m front c
    ]

-- ---- Texts

-- where the code points lead, and the text there
pub walk_text : (nodes : List NodeContent) (texts : List (List ℕ)) → AreNodes nodes texts → (n m : ℕ) (key : List ℕ) → n < length nodes →
    walk nodes n key ≡ Some m → (m < length nodes) × (slice_index_or texts m [] ≡ slice_index_or texts n [] ++ key)
walk_text nodes texts shape n m [] within leads =
    let same = same_Some n m leads in
    (subst (λ k. k < length nodes) same within, ap (λ k. slice_index_or texts k []) (sym same) ∙ sym (append-nil (slice_index_or texts n [])))
walk_text nodes texts shape n m (c ∷ key) within leads =
    option_and_then_some (λ k. walk nodes k key) ((node_at nodes n).leads c) m leads (λ k first rest.
    let edge = shape.edges n c k within first in
    let later = walk_text nodes texts shape k m key (subst (λ l. k < l) shape.same edge.within) rest in
    (later.0, later.1 ∙ ap (λ text. text ++ key) edge.text ∙ append_assoc (slice_index_or texts n []) (c ∷ []) key))

pub walk_root : (nodes : List NodeContent) (texts : List (List ℕ)) → AreNodes nodes texts → (m : ℕ) (key : List ℕ) → walk nodes 0 key ≡ Some m →
    (m < length nodes) × (slice_index_or texts m [] ≡ key)
walk_root nodes texts shape m key leads =
    let there = walk_text nodes texts shape 0 m key shape.some leads in
    (there.0, there.1 ∙ ap (λ text. text ++ key) shape.root)

pub one_path : (nodes : List NodeContent) (texts : List (List ℕ)) → AreNodes nodes texts → (m : ℕ) (a b : List ℕ) → walk nodes 0 a ≡ Some m →
    walk nodes 0 b ≡ Some m → a ≡ b
one_path nodes texts shape m a b first second =
    sym (walk_root nodes texts shape m a first).1 ∙ (walk_root nodes texts shape m b second).1
