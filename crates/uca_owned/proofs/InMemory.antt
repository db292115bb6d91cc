-- Errors of files whose bytes are in memory.
use Rattle.std.proofs.Common.{◌≡◌, ◌∙◌, ◌⊎◌, inl, inr, ℕ, List, [], Option, None, Some, IsSomeAnd, sym, subst}
use Rattle.uca_values.specs.declared.faults.FaultKind.{FaultKind}
use Rattle.uca_values.specs.declared.faults.FaultKind.TheVariants as kinds
use Rattle.uca_lines.specs.declared.files.FileForm.{FileForm}
use Rattle.uca_lines.specs.declared.files.TheConstants.{TABLE_FORM}
use Rattle.uca_lines.specs.FileStops.{IsStop}
use Rattle.uca_lines.specs.Files.{FailsIn, Refuses, RefusesLine, StopsAt}

of_left : {K S : Type 0} (form : FileForm K) (Says : List (List ℕ) → S → Type 0) (bytes : List ℕ) (left : Option (List ℕ)) (number : ℕ)
    → IsSomeAnd left (λ rest. FailsIn form Says bytes rest number) → StopsAt form Says bytes number
of_left form Says bytes None number h = absurd h
of_left form Says bytes (Some rest) number h = record { said = h.said; rest = h.rest; reaches = h.reaches }

-- where a line is rejected, all lines before it are acceptable
pub line_stopped : {K S : Type 0} (form : FileForm K) (Says : List (List ℕ) → S → Type 0) (Cause : S → List ℕ → K → Type 0)
    (bytes : List ℕ) (left : Option (List ℕ)) (number : ℕ) (kind : K) → RefusesLine form Says Cause bytes left number kind → StopsAt form Says bytes number
line_stopped form Says Cause bytes left number kind (inl (read, fails)) = of_left form Says bytes left number fails
line_stopped form Says Cause bytes left number kind (inr (inl (memory, stops))) = stops
line_stopped form Says Cause bytes left number kind (inr (inr h)) = record { said = h.said; rest = h.rest; reaches = h.reaches }

-- and so they are where a file is rejected
stopped : {K S : Type 0} (form : FileForm K) (Says : List (List ℕ) → S → Type 0) (Cause : S → List ℕ → K → Type 0) (IsUnfinished : S → Type 0)
    (bytes : List ℕ) (left : Option (List ℕ)) (number : ℕ) (kind : K) → Refuses form Says Cause IsUnfinished bytes left number kind
    → StopsAt form Says bytes number
stopped form Says Cause IsUnfinished bytes left number kind (inl h) = line_stopped form Says Cause bytes left number kind h
stopped form Says Cause IsUnfinished bytes left number kind (inr h) = record { said = h.said; rest = []; reaches = h.reaches }

-- so the error may be one of memory in place of another one
pub or_memory : {S : Type 0} (Says : List (List ℕ) → S → Type 0) (Cause : S → List ℕ → FaultKind → Type 0) (IsUnfinished : S → Type 0)
    (bytes : List ℕ) (left : Option (List ℕ)) (line told_line : ℕ) (kind told : FaultKind) → told_line ≡ line → (told ≡ kind) ⊎ (told ≡ kinds.Memory)
    → Refuses TABLE_FORM Says Cause IsUnfinished bytes left line kind → Refuses TABLE_FORM Says Cause IsUnfinished bytes left told_line told
or_memory Says Cause IsUnfinished bytes left line told_line kind told same (inl as_it_is) h =
    subst (λ number. Refuses TABLE_FORM Says Cause IsUnfinished bytes left number told) (sym same)
    (subst (λ k. Refuses TABLE_FORM Says Cause IsUnfinished bytes left line k) (sym as_it_is) h)
or_memory Says Cause IsUnfinished bytes left line told_line kind told same (inr memory) h =
    subst (λ number. Refuses TABLE_FORM Says Cause IsUnfinished bytes left number told) (sym same)
    (inl (inr (inl (memory, stopped TABLE_FORM Says Cause IsUnfinished bytes left line kind h))))

-- a stop is then one of memory
pub memory_of : (kind told : FaultKind) → (told ≡ kind) ⊎ (told ≡ kinds.Memory) → (kind ≡ kinds.Read → told ≡ kinds.Memory) → IsStop kind
    → told ≡ kinds.Memory
memory_of kind told either read (inl is_read) = read is_read
memory_of kind told (inl as_it_is) read (inr is_memory) = as_it_is ∙ is_memory
memory_of kind told (inr memory) read (inr is_memory) = memory
