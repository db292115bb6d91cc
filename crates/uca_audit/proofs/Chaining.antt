-- The conditions of an audit by their numbers: what is met after each one, and how an error of a part is passed on.
use Rattle.std.proofs.Common.{◌≡◌, ◌⊎◌, ⊎_elim, inl, inr, ℕ, ◌+◌, ◌<◌, ◌==◌, if◌then◌else◌, Result, Ok, Err, refl, ap, sym, subst, ◌∙◌, arith}
use Rattle.std.specs.Result.{IsErrAnd}
use Rattle.std.proofs.lemmas.Bool.{cases_lt}
use Rattle.uca_tailorings.specs.declared.conditions.Condition.{Condition}
use Rattle.uca_tailorings.specs.declared.conditions.Condition.TheVariants.{BaseIllFormed, TailoredIllFormed, Header, Uncovered, RowChanged, RowMissing, RowExtra, Anchor, NotPlaced, NotFresh, NotNearest}
use Rattle.uca_tailorings.specs.Tailorings.{Tailoring, Meets, IsAccepted}
use Rattle.uca_audit.specs.declared.faults.AuditFault.{AuditFault}
use Rattle.uca_audit.specs.Refusals.{number_of, IsFirstRefusal, IsMemory}
use Rattle.uca_audit.specs.inside.Chaining.{MeetsBelow, Fails, Settles, Passes}

-- the condition of a number
abbrev condition_of : ℕ → Condition
condition_of n =
    if n == 1 then BaseIllFormed else
    if n == 2 then TailoredIllFormed else
    if n == 3 then Header else
    if n == 4 then Uncovered else
    if n == 5 then RowChanged else
    if n == 6 then RowMissing else
    if n == 7 then RowExtra else
    if n == 8 then Anchor else
    if n == 9 then NotPlaced else
    if n == 10 then NotFresh else
    NotNearest

-- it is the one that has the number
condition_of_number : (condition : Condition) → condition_of (number_of condition) ≡ condition
condition_of_number BaseIllFormed = refl
condition_of_number TailoredIllFormed = refl
condition_of_number Header = refl
condition_of_number Uncovered = refl
condition_of_number RowChanged = refl
condition_of_number RowMissing = refl
condition_of_number RowExtra = refl
condition_of_number Anchor = refl
condition_of_number NotPlaced = refl
condition_of_number NotFresh = refl
condition_of_number NotNearest = refl

-- no two conditions have one number
one_of_number : (one other : Condition) → number_of one ≡ number_of other → one ≡ other
one_of_number one other same = sym (condition_of_number one) ∙ (ap condition_of same ∙ condition_of_number other)

-- numbers are above 0
number_from_1 : (condition : Condition) → 0 < number_of condition
number_from_1 BaseIllFormed = omega arith
number_from_1 TailoredIllFormed = omega arith
number_from_1 Header = omega arith
number_from_1 Uncovered = omega arith
number_from_1 RowChanged = omega arith
number_from_1 RowMissing = omega arith
number_from_1 RowExtra = omega arith
number_from_1 Anchor = omega arith
number_from_1 NotPlaced = omega arith
number_from_1 NotFresh = omega arith
number_from_1 NotNearest = omega arith

-- and below 12
number_below_12 : (condition : Condition) → number_of condition < 12
number_below_12 BaseIllFormed = omega arith
number_below_12 TailoredIllFormed = omega arith
number_below_12 Header = omega arith
number_below_12 Uncovered = omega arith
number_below_12 RowChanged = omega arith
number_below_12 RowMissing = omega arith
number_below_12 RowExtra = omega arith
number_below_12 Anchor = omega arith
number_below_12 NotPlaced = omega arith
number_below_12 NotFresh = omega arith
number_below_12 NotNearest = omega arith

-- no condition comes before the first
pub meets_none : (tailoring : Tailoring) → MeetsBelow tailoring 1
meets_none tailoring other below = absurd (omega (arith, below, number_from_1 other))

-- one more condition is met
pub meets_more : (tailoring : Tailoring) (condition : Condition) → MeetsBelow tailoring (number_of condition) → Meets tailoring condition →
    MeetsBelow tailoring (number_of condition + 1)
meets_more tailoring condition so_far met other below =
    ⊎_elim (λ lower. so_far other lower) (λ not. subst (Meets tailoring) (one_of_number condition other (omega arith)) met)
    (cases_lt (number_of other) (number_of condition))

-- all conditions are met
pub meets_all : (tailoring : Tailoring) → MeetsBelow tailoring 12 → IsAccepted tailoring
meets_all tailoring met condition = met condition (number_below_12 condition)

-- a condition fails after those that are met, or an allocation failed
pub refused_at : (tailoring : Tailoring) (condition : Condition) (fault : AuditFault) → MeetsBelow tailoring (number_of condition) →
    Fails tailoring condition fault ⊎ IsMemory fault
    → IsFirstRefusal tailoring fault ⊎ IsMemory fault
refused_at tailoring condition fault so_far (inl fails) = inl (record { condition = condition; number = fails.number; lower = so_far; fails = fails.place })
refused_at tailoring condition fault so_far (inr memory) = inr memory

-- a condition fails after those that are met, or an allocation failed, and this error is passed on
pub passes_refused : {A : Type 0} (tailoring : Tailoring) (n : ℕ) (condition : Condition) (result : Result A AuditFault) (given : AuditFault)
    → IsErrAnd result (λ fault. fault ≡ given)
    → MeetsBelow tailoring (number_of condition) → Fails tailoring condition given ⊎ IsMemory given → Passes tailoring n result
passes_refused tailoring n condition (Ok x) given passed_on so_far fails = absurd passed_on
passes_refused tailoring n condition (Err fault) given passed_on so_far fails =
    refused_at tailoring condition fault so_far (subst (λ f. Fails tailoring condition f ⊎ IsMemory f) (sym passed_on) fails)

-- an error of a part of the audit is passed on
pub passes_failed : {A : Type 0} (tailoring : Tailoring) (n : ℕ) (result : Result A AuditFault) (given : AuditFault) → IsErrAnd result (λ fault. fault ≡ given)
    → IsFirstRefusal tailoring given ⊎ IsMemory given → Passes tailoring n result
passes_failed tailoring n (Ok x) given passed_on refused = absurd passed_on
passes_failed tailoring n (Err fault) given passed_on refused = subst (λ f. IsFirstRefusal tailoring f ⊎ IsMemory f) (sym passed_on) refused

-- the last condition of a part is met, or its error is that of the part
pub passes_last : {A : Type 0} (tailoring : Tailoring) (condition : Condition) (result : Result A AuditFault) → MeetsBelow tailoring (number_of condition)
    → Settles tailoring condition result → Passes tailoring (number_of condition + 1) result
passes_last tailoring condition (Ok x) so_far met = meets_more tailoring condition so_far met
passes_last tailoring condition (Err fault) so_far fails = refused_at tailoring condition fault so_far fails
