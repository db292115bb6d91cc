-- What is true of each member of a list, by the parts of the list before and after it.
use Rattle.std.proofs.Common.{◌≡◌, List, [], ◌∷◌, ◌++◌, refl, ap, subst}
use Rattle.std.specs.List.{AllByRecursion}
use Rattle.uca_weights.proofs.Lists.{each_parts}

-- what is true of a member at each split is true of each member
pub each_by_parts : {X : Type 0} (P : X → Type 0) (xs : List X) → ((before : List X) (x : X) (after : List X) → xs ≡ before ++ x ∷ after → P x) →
    AllByRecursion P xs
each_by_parts P [] holds = tt
each_by_parts P (x ∷ xs) holds = (
  holds [] x xs refl,
  each_by_parts P xs (λ before y after whole. holds (x ∷ before) y after (ap (λ ys. x ∷ ys) whole)),
)

-- what is true of each member is true of the member at a split
pub of_part : {X : Type 0} (P : X → Type 0) (xs before : List X) (x : X) (after : List X) → AllByRecursion P xs → xs ≡ before ++ x ∷ after → P x
of_part P xs before x after all whole =
    let parts = each_parts P before (x ∷ after) (subst (AllByRecursion P) whole all) in parts.1.0

-- what follows from two properties of each member
pub each_of_both : {X : Type 0} (P Q R : X → Type 0) → ((x : X) → P x → Q x → R x) → (xs : List X) → AllByRecursion P xs → AllByRecursion Q xs →
    AllByRecursion R xs
each_of_both P Q R both [] first second = tt
each_of_both P Q R both (x ∷ xs) first second = (both x first.0 second.0, each_of_both P Q R both xs first.1 second.1)
