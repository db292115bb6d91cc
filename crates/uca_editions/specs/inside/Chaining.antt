-- How an audit of a change goes from one condition to the next, and what it looks up on the way.
use Rattle.std.specs.Prelude.{◌≡◌, ◌⊎◌, ℕ, ◌<◌, List, Result, MatchResult}
use Rattle.uca_values.specs.Content.{TableContent}
use Rattle.uca_elements.specs.Rows.{Rows, rows_of}
use Rattle.uca_changes.specs.Changes.{Change, Meets, number_of}
use Rattle.uca_changes.specs.declared.conditions.ChangeCondition.{ChangeCondition}
use Rattle.uca_changes.specs.declared.faults.ChangeFault.{ChangeFault}
use Rattle.uca_changes.specs.declared.faults.ChangeFault.TheVariants.{Memory}
use Rattle.uca_editions.specs.ChangeRefusals.{IsFirstRefusal}

-- each row of the table is found at its key, and nothing else is
abbrev pub FindsRowsOf : TableContent → Rows → Type 0
FindsRowsOf table found = (key : List ℕ) → found key ≡ rows_of table.rows key

-- all conditions of lower numbers are met
abbrev pub MeetsBelow : Change → ℕ → Type 0
MeetsBelow change n = (other : ChangeCondition) → number_of other < n → Meets change other

-- all conditions of lower numbers are met, or the error is that of the first one that is not; or an allocation failed
abbrev pub Passes : {A : Type 0} → Change → ℕ → Result A ChangeFault → Type 0
Passes change n result = MatchResult result (λ _. MeetsBelow change n) (λ fault. IsFirstRefusal change fault ⊎ (fault ≡ Memory))
