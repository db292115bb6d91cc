-- How runs end that read files first.
use Rattle.std.proofs.Common.{◌≡◌, true, false, ◌||◌, Bool, Option, Some, None, IfSome, Result, Ok, Err, OnOk, is_err, refl, sym, ◌∙◌}
use Rattle.std.specs.Prelude.{⊤}
use Rattle.uca_run_parts.specs.declared.faults.RunFault.{RunFault}
use Rattle.uca_run_parts.specs.declared.faults.RunFault.TheVariants.{File, Digits, Memory}
use Rattle.uca_run_parts.specs.Files.{ended_by_file}
use Rattle.uca_run_parts.specs.EachLine.{ended_before_input}
use Rattle.uca_run_parts.specs.Runs.{is_input_read, ended_by_output}

-- ---- Before the input

-- a file's error is none of the output, and none of the input
pub no_write_before : (A B : Type 0) (fault : RunFault) → ended_before_input {A = B} (Err fault) ≡ true → ended_by_output {A = A} (Err fault) ≡ false
no_write_before A B (File role cause) before = refl
no_write_before A B (Digits row) before = refl
no_write_before A B Memory before = refl
no_write_before A B _ before = let never : ⊥ = cc in absurd never

pub no_input_before : (A B : Type 0) (fault : RunFault) → ended_before_input {A = B} (Err fault) ≡ true → is_input_read {A = A} (Err fault) ≡ false
no_input_before A B (File role cause) before = refl
no_input_before A B (Digits row) before = refl
no_input_before A B Memory before = refl
no_input_before A B _ before = let never : ⊥ = cc in absurd never

-- a file's error comes before the input
pub file_before : (A B : Type 0) (fault : RunFault) → ended_by_file {A = A} (Err fault) ≡ true → ended_before_input {A = B} (Err fault) ≡ true
file_before A B (File role cause) file = refl
file_before A B _ file = let never : ⊥ = cc in absurd never

-- what failed before has failed, and no more
pub as_before : (failed now : Bool) → now ≡ false → failed ≡ (failed || now)
as_before true now same = refl
as_before false now same = sym same

-- where nothing fails, what has failed is what had failed before
pub still_failed : (before old now : Bool) → now ≡ (old || false) → old ≡ before → now ≡ before
still_failed before true now step same = step ∙ same
still_failed before false now step same = step ∙ same

-- what is true of all bytes
pub whatever_bytes : {X : Type 0} (known : Option X) → IfSome known (λ bytes. ⊤)
whatever_bytes None = tt
whatever_bytes (Some bytes) = tt

-- nothing is both
pub not_both : {X : Type 0} (b : Bool) → b ≡ false → b ≡ true → X
not_both true one other = let never : ⊥ = cc in absurd never
not_both false one other = let never : ⊥ = cc in absurd never

-- what holds at Ok, where no error is returned
pub at_ok : {T E : Type 0} (r : Result T E) (P : Type 0) → is_err r ≡ false → OnOk r P → P
at_ok (Ok x) P h p = p
at_ok (Err e) P h p = let never : ⊥ = cc in absurd never
