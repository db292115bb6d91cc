-- The files of a run, from what each of them means and what is returned after they are read.
use Rattle.std.proofs.Common.{◌≡◌, ℕ, List, [], ◌∷◌, Bool, true, false, if◌then◌else◌, ◌&&◌, ◌||◌, Option, Some, None, IfSome, IsSomeAnd, Result, Ok, Err, refl, ap, subst, sym, ◌∙◌}
use Rattle.std.specs.Prelude.{MatchOption}
use Rattle.uca_weights.specs.Streams.{SourceState}
use Rattle.uca_run_parts.specs.declared.faults.FileFault.{FileFault}
use Rattle.uca_run_parts.specs.declared.faults.RunFault.{RunFault}
use Rattle.uca_run_parts.specs.declared.faults.RunFault.TheVariants.{File}
use Rattle.uca_run_parts.specs.declared.faults.Role.{Role}
use Rattle.uca_run_parts.specs.declared.faults.Role.TheVariants as roles
use Rattle.uca_run_parts.specs.Files.{MeansOne, OverFile, Reading, Done, Then, Over, HaveFailed, IsStop, fault_of, is_role, ended_by_file, is_file_read}
use Rattle.uca_run_parts.specs.ReadFiles.{IsRefused}

-- ---- Roles of errors

-- a role is itself
pub same_role : (role : Role) → is_role role role ≡ true
same_role roles.Table = refl
same_role roles.Data = refl
same_role roles.Rules = refl
same_role roles.Certificate = refl
same_role roles.Base = refl
same_role roles.Tailored = refl
same_role roles.Old = refl
same_role roles.OldData = refl
same_role roles.New = refl
same_role roles.NewData = refl
same_role roles.Changes = refl
same_role roles.Book = refl

-- an error of this role is a failed read if its cause is one
pub read_of_role : (role : Role) (new old reads : Bool) → new ≡ (old || reads) → new ≡ (old || (is_role role role && reads))
read_of_role role new old reads same = same ∙ ap (λ b. old || (b && reads)) (sym (same_role role))

-- what is not an error of a file has no role
pub no_fault : {A : Type 0} (role : Role) (result : Result A RunFault) → ended_by_file result ≡ false → fault_of role result ≡ None
no_fault role (Ok x) h = refl
no_fault role (Err (File other fault)) h = let never : ⊥ = cc in absurd never
no_fault role (Err _) h = refl

-- and no failed read of a file
pub no_file_read : {A : Type 0} (role : Role) (result : Result A RunFault) → ended_by_file result ≡ false → is_file_read role result ≡ false
no_file_read role (Ok x) h = refl
no_file_read role (Err (File other fault)) h = let never : ⊥ = cc in absurd never
no_file_read role (Err _) h = refl

-- an error has its role also where the other results have another type
pub same_fault : (A B : Type 0) (role : Role) (fault : RunFault) → fault_of {A = A} role (Err fault) ≡ fault_of {A = B} role (Err fault)
same_fault A B role (File other cause) = refl
same_fault A B role _ = refl

-- and is a failed read of that role
pub same_read : (A B : Type 0) (role : Role) (fault : RunFault) → is_file_read {A = A} role (Err fault) ≡ is_file_read {A = B} role (Err fault)
same_read A B role (File other cause) = refl
same_read A B role _ = refl

-- ---- One file

-- what is returned where the file means a value
pub over_value : {A V : Type 0} (role : Role) (old new : SourceState) (Means : List ℕ → V → Type 0)
    (Refuses : List ℕ → Option (List ℕ) → FileFault → Type 0) (K : V → Type 0) (result : Result A RunFault) (value : V)
    → fault_of role result ≡ None → IfSome old.remaining (λ bytes. Means bytes value) → K value
    → OverFile role old new Means Refuses K result
over_value role old new Means Refuses K result value none means holds =
    subst (λ o. MatchOption o (MeansOne Means old.remaining K) (λ fault. IfSome old.remaining (λ bytes. Refuses bytes new.remaining fault)))
    (sym none) (record { value = value; means = means; holds = holds })

-- what is returned where it is rejected
pub over_rejected : (A : Type 0) {V : Type 0} (role : Role) (old new : SourceState) (Means : List ℕ → V → Type 0)
    (Refuses : List ℕ → Option (List ℕ) → FileFault → Type 0) (K : V → Type 0) (fault : RunFault)
    → IsRefused role old new Refuses fault → OverFile {A = A} role old new Means Refuses K (Err fault)
over_rejected A role old new Means Refuses K fault is =
    let own : fault_of {A = A} role (Err fault) ≡ Some is.0 =
    subst (λ f. fault_of {A = A} role (Err f) ≡ Some is.0) (sym is.1) (ap (λ b. if b then Some is.0 else None) (same_role role)) in
    subst (λ o. MatchOption o (MeansOne Means old.remaining K) (λ f. IfSome old.remaining (λ bytes. Refuses bytes new.remaining f)))
    (sym own) is.2

-- of a value more may hold
pub known_weaker : {V : Type 0} (known left : Option (List ℕ)) (cause : Option FileFault) (Means : List ℕ → V → Type 0)
    (Refuses : List ℕ → Option (List ℕ) → FileFault → Type 0) (K L : V → Type 0) → ((v : V) → K v → L v)
    → MatchOption cause (MeansOne Means known K) (λ fault. IfSome known (λ bytes. Refuses bytes left fault))
    → MatchOption cause (MeansOne Means known L) (λ fault. IfSome known (λ bytes. Refuses bytes left fault))
known_weaker known left None Means Refuses K L weaker over = record { value = over.value; means = over.means; holds = weaker over.value over.holds }
known_weaker known left (Some fault) Means Refuses K L weaker over = over

-- ---- All files of a run

-- what is true of their meaning may be changed, and so may the result, where it is the same for the files
pub over_weaker : {A B C : Type 0} (reading : Reading C) (olds news : List SourceState) (K L : C → Type 0)
    (one : Result A RunFault) (other : Result B RunFault) → ((role : Role) → fault_of role one ≡ fault_of role other)
    → ((content : C) → K content → L content) → Over reading olds news K one → Over reading olds news L other
over_weaker (Done content) [] [] K L one other same weaker over = weaker content over
over_weaker (Done content) (old ∷ olds) news K L one other same weaker over = absurd over
over_weaker (Done content) [] (new ∷ news) K L one other same weaker over = absurd over
over_weaker (Then role Means Refuses next) [] news K L one other same weaker over = absurd over
over_weaker (Then role Means Refuses next) (old ∷ olds) [] K L one other same weaker over = absurd over
over_weaker (Then role Means Refuses next) (old ∷ olds) (new ∷ news) K L one other same weaker over =
    subst (λ o. MatchOption o (MeansOne Means old.remaining (λ value. Over (next value) olds news L other))
    (λ fault. IfSome old.remaining (λ bytes. Refuses bytes new.remaining fault))) (same role)
    (known_weaker old.remaining new.remaining (fault_of role one) Means Refuses
    (λ value. Over (next value) olds news K one) (λ value. Over (next value) olds news L other)
    (λ value. over_weaker (next value) olds news K L one other same weaker) over)

-- a run that ended by its files says nothing of what they mean
pub ended_by_files : {C : Type 0} (A B : Type 0) (reading : Reading C) (olds news : List SourceState) (K : C → Type 0) (fault : RunFault)
    → Over {A = B} reading olds news (λ content. ⊥) (Err fault) → Over {A = A} reading olds news K (Err fault)
ended_by_files A B reading olds news K fault over =
    over_weaker reading olds news (λ content. ⊥) K (Err fault) (Err fault) (λ role. same_fault B A role fault) (λ content never. absurd never) over

-- what is returned under what all of them mean
pub runs_over_all : {A B C : Type 0} (reading : Reading C) (olds news : List SourceState) (K L : C → Type 0) (files : B) (result : Result A RunFault)
    → ended_by_file result ≡ false → ((content : C) → K content → L content) → Over {A = B} reading olds news K (Ok files) → Over reading olds news L result
runs_over_all reading olds news K L files result no_file weaker over =
    over_weaker reading olds news K L (Ok files) result (λ role. sym (no_fault role result no_file)) weaker over

-- ---- Which sources have failed

-- those that a result says, with anything else that it says
pub failed_alike : {A B : Type 0} (of : List Role) (olds news : List SourceState) (one : Result A RunFault) (other : Result B RunFault)
    → ((role : Role) → is_file_read role one ≡ is_file_read role other) → HaveFailed of olds news one → HaveFailed of olds news other
failed_alike [] [] [] one other same failed = tt
failed_alike [] (old ∷ olds) news one other same failed = absurd failed
failed_alike [] [] (new ∷ news) one other same failed = absurd failed
failed_alike (role ∷ of) [] news one other same failed = absurd failed
failed_alike (role ∷ of) (old ∷ olds) [] one other same failed = absurd failed
failed_alike (role ∷ of) (old ∷ olds) (new ∷ news) one other same failed =
    (failed.0 ∙ ap (λ b. old.failed || b) (same role), failed_alike of olds news one other same failed.1)

-- a run ended by its files
pub failed_by_files : (A B : Type 0) (of : List Role) (olds news : List SourceState) (fault : RunFault)
    → HaveFailed {A = B} of olds news (Err fault) → HaveFailed {A = A} of olds news (Err fault)
failed_by_files A B of olds news fault failed = failed_alike of olds news (Err fault) (Err fault) (λ role. same_read B A role fault) failed

-- or by none of them
pub failed_by_no_file : {A B : Type 0} (of : List Role) (olds news : List SourceState) (files : B) (result : Result A RunFault)
    → HaveFailed {A = B} of olds news (Ok files) → ended_by_file result ≡ false → HaveFailed of olds news result
failed_by_no_file of olds news files result failed no_file =
    failed_alike of olds news (Ok files) result (λ role. sym (no_file_read role result no_file)) failed

-- nothing is added
pub stays : (b : Bool) → b ≡ (b || false)
stays true = refl
stays false = refl

-- ---- What is read of files that mean something

-- reading stops
pub stops : {V : Type 0} (known : Option (List ℕ)) (Means : List ℕ → V → Type 0) (value : V) (fault : RunFault)
    → IfSome known (λ bytes. (v : V) → Means bytes v → IsStop fault) → IsSomeAnd known (λ bytes. Means bytes value) → IsStop fault
stops None Means value fault only have = absurd have
stops (Some bytes) Means value fault only have = only value have

-- or it gives this
pub reads : {V : Type 0} (known : Option (List ℕ)) (Means : List ℕ → V → Type 0) (read value : V)
    → IfSome known (λ bytes. (v : V) → Means bytes v → read ≡ v) → IsSomeAnd known (λ bytes. Means bytes value) → read ≡ value
reads None Means read value only have = absurd have
reads (Some bytes) Means read value only have = only value have
