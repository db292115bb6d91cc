-- Members of a level's list, and their order.
use Rattle.std.proofs.Common.{◌≡◌, ◌⊎◌, inl, inr, true, false, List, [], ◌∷◌, ◌++◌, refl, sym, ap, arith, subst}
use Rattle.std.proofs.lemmas.Bool.{cases_eq}
use Rattle.std.proofs.lemmas.Bool.Decides.{nat_tests}
use Rattle.std.specs.List.{AllByRecursion}
use Rattle.uca_plans.specs.declared.drafts.DraftWeight.{DraftWeight}
use Rattle.uca_plans.specs.declared.drafts.DraftWeight.TheVariants.{Base, New}
use Rattle.uca_plans.specs.Lists.{same_weight, before_weight, after_weight}
use Rattle.uca_plans.specs.ListLaws.{IsAmong, StandsBefore, AreApart}

-- ---- Equal weights

-- the test of two weights says whether they are the same
pub same_or_other : (v w : DraftWeight) → ((same_weight v w ≡ true) × (v ≡ w)) ⊎ ((same_weight v w ≡ false) × (v ≡ w → ⊥))
same_or_other (Base v) (Base w) = elim (cases_eq v w) [
  | inl same ↦ inl (grind (arith, nat_tests), ap Base same)
  | inr other ↦ inr (grind (arith, nat_tests), λ e. other (cc))
]
same_or_other (Base v) (New n) = inr (refl, λ e. cc)
same_or_other (New m) (Base w) = inr (refl, λ e. cc)
same_or_other (New m) (New n) = elim (cases_eq m n) [
  | inl same ↦ inl (grind (arith, nat_tests), ap New same)
  | inr other ↦ inr (grind (arith, nat_tests), λ e. other (cc))
]

-- the test of a weight and itself
pub same_itself : (v w : DraftWeight) → v ≡ w → same_weight v w ≡ true
same_itself v w same = elim (same_or_other v w) [
  | inl both ↦ both.0
  | inr other ↦ absurd (other.1 same)
]

-- ---- Members

-- what is true of each is true of a member
pub of_each : {A : Type 0} (P : A → Type 0) (xs : List A) (x : A) → AllByRecursion P xs → IsAmong xs x → P x
of_each P [] x all among = absurd among
of_each P (y ∷ xs) x all (inl here) = subst P here all.0
of_each P (y ∷ xs) x all (inr there) = of_each P xs x all.1 there

-- what is true of each member is true of each
pub each_of : {A : Type 0} (P : A → Type 0) (xs : List A) → ((x : A) → IsAmong xs x → P x) → AllByRecursion P xs
each_of P [] each = tt
each_of P (x ∷ xs) each = (each x (inl refl), each_of P xs (λ y among. each y (inr among)))

-- what comes before another is a member
pub first_among : (ms : List DraftWeight) (v w : DraftWeight) → StandsBefore ms v w → IsAmong ms v
first_among [] v w stands = stands
first_among (m ∷ ms) v w (inl here) = inl here.0
first_among (m ∷ ms) v w (inr there) = inr (first_among ms v w there)

-- what comes after another is a member
pub second_among : (ms : List DraftWeight) (v w : DraftWeight) → StandsBefore ms v w → IsAmong ms w
second_among [] v w stands = stands
second_among (m ∷ ms) v w (inl here) = inr here.1
second_among (m ∷ ms) v w (inr there) = inr (second_among ms v w there)

-- what comes after the first is a member of the rest
pub after_first : (m : DraftWeight) (ms : List DraftWeight) (v w : DraftWeight) → StandsBefore (m ∷ ms) v w → IsAmong ms w
after_first m ms v w (inl here) = here.1
after_first m ms v w (inr there) = second_among ms v w there

-- equal weights are members together
pub among_same : (ms : List DraftWeight) (v w : DraftWeight) → v ≡ w → IsAmong ms v → IsAmong ms w
among_same ms v w same among = subst (λ x. IsAmong ms x) same among

-- where no member comes twice, none comes before itself
pub not_before_itself : (ms : List DraftWeight) (v : DraftWeight) → AreApart ms → StandsBefore ms v v → ⊥
not_before_itself [] v apart stands = stands
not_before_itself (m ∷ ms) v apart (inl here) = apart.0 (among_same ms v m (sym here.0) here.1)
not_before_itself (m ∷ ms) v apart (inr there) = not_before_itself ms v apart.1 there

-- ---- Lists cut at a member

-- a list is the members before one, that one, and those after it
pub weight_split : (w : DraftWeight) (ms : List DraftWeight) → IsAmong ms w → before_weight w ms ++ w ∷ after_weight w ms ≡ ms
weight_split w [] among = absurd among
weight_split w (m ∷ ms) among = elim (same_or_other w m) [
  | inl same ↦ rw same.0 (ap (λ x. x ∷ ms) same.1)
  | inr other ↦ rw other.0 (ap (λ xs. m ∷ xs) (weight_split w ms (later other.1 among)))
]
  where
    -- another than the first is a later one
    later : (w ≡ m → ⊥) → IsAmong (m ∷ ms) w → IsAmong ms w
    later other (inl here) = absurd (other (sym here))
    later other (inr there) = there
