-- What is true of each call that a command makes of a file system.
use Rattle.std.specs.Prelude.{⊤, ℕ, List, Bool, Result}
use Rattle.uca_host.specs.declared.files.opens.OpenFault.{OpenFault}
use Rattle.uca_host.specs.declared.files.opens.MakeFault.{MakeFault}

-- The calls of a file system, whose states are of O. It opens a file of a name, says whether two names are of one file, and
-- makes a file for a name. A file that was made is kept under the name, or removed. Each says what is true of the state
-- before the call, of its arguments and its result, and of the state after it.
pub record FileCalls (O F M : Type 0) : Type 1 where
  pub gives : O → List ℕ → Result F OpenFault → O → Type 0
  pub compares : O → List ℕ → List ℕ → Bool → O → Type 0
  pub makes : O → List ℕ → Result M MakeFault → O → Type 0
  pub keeps : O → M → List ℕ → Result (Unit {0}) MakeFault → O → Type 0
  pub removes : O → M → O → Type 0

-- nothing is said of a call
abbrev pub unsaid_calls : {O F M : Type 0} → FileCalls O F M
unsaid_calls = record {
  gives = λ _ _ _ _. ⊤;
  compares = λ _ _ _ _ _. ⊤;
  makes = λ _ _ _ _. ⊤;
  keeps = λ _ _ _ _ _. ⊤;
  removes = λ _ _ _. ⊤;
}
