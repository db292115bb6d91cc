-- What follows where nothing is made of a table and a data file that were read.
use Rattle.std.proofs.Common.{◌≡◌, true, false, Result, Ok, Err, refl}
use Rattle.std.specs.Prelude.{IfOk, IfErr, MatchResult}
use Rattle.uca_run_parts.specs.declared.faults.RunFault.{RunFault}
use Rattle.uca_run_parts.specs.declared.faults.RunFault.TheVariants.{Digits, Memory}
use Rattle.uca_run_parts.specs.EachLine.{ended_before_input}
use Rattle.uca_weights.specs.declared.Asked.{Asked}
use Rattle.uca_run_parts.specs.Files.{TableAndData, ended_by_file}
use Rattle.uca_key_runs.specs.Keys.{IfTaken}
use Rattle.uca_key_runs.specs.inside.Collations.{IsNoCollation}

-- a run returns that error where nothing is said of its end by memory
pub no_collation : (asked : Asked) (files : TableAndData) (fault : RunFault) (Runs : RunFault → Type 0) → Runs Memory → IsNoCollation asked files fault
    → IfTaken {A = Unit {0}} asked.numbers files (Err fault) (Runs fault)
no_collation asked files Memory Runs memory is = (is, memory)
no_collation asked files (Digits row) Runs memory is = is
no_collation asked files _ Runs memory is = absurd is

module _ {A : Type 0} (asked : Asked) (files : TableAndData) where
  -- no file is rejected by itself
  pub no_file : (result : Result A RunFault) → IfErr result (IsNoCollation asked files) → ended_by_file result ≡ false
  no_file (Ok x) refused = refl
  no_file (Err (Digits row)) refused = refl
  no_file (Err Memory) refused = refl
  no_file (Err _) refused = absurd refused

  -- and an error comes before the input
  pub before_input : (result : Result A RunFault) → IfErr result (IsNoCollation asked files) → IfErr result (λ _. ended_before_input result ≡ true)
  before_input (Ok x) refused = tt
  before_input (Err (Digits row)) refused = refl
  before_input (Err Memory) refused = refl
  before_input (Err _) refused = absurd refused

module _ {A : Type 0} where
  -- what is known of each outcome
  pub both_outcomes : (result : Result A RunFault) (P : A → Type 0) (Q : RunFault → Type 0) → IfOk result P → IfErr result Q → MatchResult result P Q
  both_outcomes (Ok x) P Q made refused = made
  both_outcomes (Err fault) P Q made refused = refused
