-- The conditions on a change by their numbers: what is met after each one, and what is returned where one fails.
use Rattle.std.proofs.Common.{◌≡◌, ◌⊎◌, ⊎_elim, inl, ℕ, ◌+◌, ◌<◌, ◌==◌, if◌then◌else◌, refl, ap, sym, subst, ◌∙◌, arith}
use Rattle.std.proofs.lemmas.Bool.{cases_lt}
use Rattle.uca_changes.specs.declared.conditions.ChangeCondition.{ChangeCondition}
use Rattle.uca_changes.specs.declared.conditions.ChangeCondition.TheVariants.{OldIllFormed, NewIllFormed, RangeChanged, Uncovered, RowChanged, RowMissing, RowExtra, PointChanged, SettingChanged}
use Rattle.uca_changes.specs.Changes.{Change, Meets, IsAcceptedChange, number_of}
use Rattle.uca_changes.specs.declared.faults.ChangeFault.{ChangeFault}
use Rattle.uca_changes.specs.declared.faults.ChangeFault.TheVariants.{NotMet, Memory}
use Rattle.uca_changes.specs.declared.faults.ChangePlace.{ChangePlace}
use Rattle.uca_editions.specs.ChangeRefusals.{FailsFirstAt, IsFirstRefusal}
use Rattle.uca_editions.specs.inside.Chaining.{MeetsBelow}

-- the condition of a number
abbrev condition_of : ℕ → ChangeCondition
condition_of n =
    if n == 1 then OldIllFormed else
    if n == 2 then NewIllFormed else
    if n == 3 then RangeChanged else
    if n == 4 then Uncovered else
    if n == 5 then RowChanged else
    if n == 6 then RowMissing else
    if n == 7 then RowExtra else
    if n == 8 then PointChanged else
    SettingChanged

-- it is the one that has the number
condition_of_number : (condition : ChangeCondition) → condition_of (number_of condition) ≡ condition
condition_of_number OldIllFormed = refl
condition_of_number NewIllFormed = refl
condition_of_number RangeChanged = refl
condition_of_number Uncovered = refl
condition_of_number RowChanged = refl
condition_of_number RowMissing = refl
condition_of_number RowExtra = refl
condition_of_number PointChanged = refl
condition_of_number SettingChanged = refl

-- no two conditions have one number
one_of_number : (one other : ChangeCondition) → number_of one ≡ number_of other → one ≡ other
one_of_number one other same = sym (condition_of_number one) ∙ (ap condition_of same ∙ condition_of_number other)

-- numbers are below 10
number_below_10 : (condition : ChangeCondition) → number_of condition < 10
number_below_10 OldIllFormed = omega arith
number_below_10 NewIllFormed = omega arith
number_below_10 RangeChanged = omega arith
number_below_10 Uncovered = omega arith
number_below_10 RowChanged = omega arith
number_below_10 RowMissing = omega arith
number_below_10 RowExtra = omega arith
number_below_10 PointChanged = omega arith
number_below_10 SettingChanged = omega arith

-- one more condition is met
pub meets_more : (change : Change) (condition : ChangeCondition) → MeetsBelow change (number_of condition) → Meets change condition →
    MeetsBelow change (number_of condition + 1)
meets_more change condition so_far met other below =
    ⊎_elim (λ lower. so_far other lower) (λ not. subst (Meets change) (one_of_number condition other (omega arith)) met)
    (cases_lt (number_of other) (number_of condition))

-- all conditions are met
pub meets_all : (change : Change) → MeetsBelow change 10 → IsAcceptedChange change
meets_all change met condition = met condition (number_below_10 condition)

-- a condition fails at a place, after those that are met
pub refused_at : (change : Change) (condition : ChangeCondition) (place : ChangePlace) (fault : ChangeFault) → MeetsBelow change (number_of condition)
    → fault ≡ NotMet condition place → FailsFirstAt change condition place → IsFirstRefusal change fault ⊎ (fault ≡ Memory)
refused_at change condition place fault so_far is fails = inl (record { condition = condition; place = place; is = is; lower = so_far; fails = fails })
