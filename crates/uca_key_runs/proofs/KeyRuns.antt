-- Whole runs of keys: what goes out of a header and of the lines after it, and what the files and a run after them give.
use Rattle.std.proofs.Common.{◌≡◌, ◌∙◌, ℕ, ◌+◌, ◌-◌, ◌^◌, ◌<◌, ◌≤◌, List, ◌++◌, ◌||◌, min, false, length, Bool, true, Option, Some, None, Result, Ok, Err, IfSome, refl, ap, ap₂, arith, subst, sym}
use Rattle.std.specs.List.{flat_map}
use Rattle.std.specs.Io.KnownBytes.{Appends}
use Rattle.std.proofs.KnownBytes.{Appends-trans}
use Rattle.std.proofs.Math.Seq.{take-append-add}
use Rattle.std.proofs.lemmas.List.{length-append, take-append-le}
use Rattle.uca_weights.specs.declared.Asked.{Asked}
use Rattle.uca_weights.specs.Streams.{SourceState, SinkState}
use Rattle.uca_text.specs.Texts.{NfdText}
use Rattle.uca_lines.specs.Lines.{lines_of}
use Rattle.uca_run_parts.specs.declared.faults.Role.{Role}
use Rattle.uca_run_parts.specs.declared.faults.RunFault.{RunFault}
use Rattle.uca_run_parts.specs.declared.faults.RunFault.TheVariants.{Digits, Input, Memory, Write}
use Rattle.uca_run_parts.proofs.FilesLemmas.{failed_by_no_file, runs_over_all, stays}
use Rattle.uca_run_parts.specs.EachLine.{PrintsEach, WritesEach, ended_before_input}
use Rattle.uca_run_parts.specs.Files.{HaveFailed, Over, Reading, TableAndData, ended_by_file}
use Rattle.uca_run_parts.specs.Input.{clean_lines}
use Rattle.uca_run_parts.specs.Runs.{FailsToWrite, PartWentOut, ended_by_output, is_input_read}
use Rattle.uca_number_keys.specs.Tables.{TakesTable}
use Rattle.uca_order.specs.Keyings.{Keying, keying, text_of}
use Rattle.uca_key_runs.specs.inside.KeyParts.{ended_after}
use Rattle.uca_key_runs.specs.KeysRun.{RunsUnder, WritesAfter}

-- ---- Counts

count_is_exact : (first count all : ℕ) → first ≤ 128 → count < all → all ≤ 2 ^ 63 → min (first + count) (2 ^ 64 - 1) ≡ first + count
count_is_exact first count all small less short = omega (arith, small, less, short)

more_went_out : (front back : List ℕ) (count : ℕ) → count < length back → length front + count < length (front ++ back)
more_went_out front back count less = omega (arith, length-append front back, less)

less_of_more : (front back : List ℕ) (count : ℕ) → count < length front → count < length (front ++ back)
less_of_more front back count less = omega (arith, length-append front back, less)

-- ---- The end of a run

module _ {A : Type 0} (first : ℕ) where
  -- the kind of the end is as before
  pub same_before_input : (end : Result A RunFault) → ended_before_input (ended_after first end) ≡ ended_before_input end
  same_before_input (Ok x) = refl
  same_before_input (Err (Write written)) = refl
  same_before_input (Err _) = refl

  same_by_output : (end : Result A RunFault) → ended_by_output (ended_after first end) ≡ ended_by_output end
  same_by_output (Ok x) = refl
  same_by_output (Err (Write written)) = refl
  same_by_output (Err _) = refl

  same_input_read : (end : Result A RunFault) → is_input_read (ended_after first end) ≡ is_input_read end
  same_input_read (Ok x) = refl
  same_input_read (Err (Write written)) = refl
  same_input_read (Err _) = refl

  -- what has failed after it
  pub input_after : (end result : Result A RunFault) (old new : Bool) → result ≡ ended_after first end → (ended_by_output end ≡ false → new ≡ (old || is_input_read end))
      → ended_by_output result ≡ false → new ≡ (old || is_input_read result)
  input_after end result old new same failed none =
      failed (sym (same_by_output end) ∙ sym (ap ended_by_output same) ∙ none) ∙ ap (λ b. old || b) (sym (same_input_read end) ∙ sym (ap is_input_read same))

  pub out_after : (end result : Result A RunFault) (old mid new : Bool) → result ≡ ended_after first end → mid ≡ (old || false)
      → new ≡ (mid || ended_by_output end) → new ≡ (old || ended_by_output result)
  out_after end result old mid new same first_failed failed =
      failed ∙ ap₂ (λ a b. a || b) (first_failed ∙ sym (stays old)) (sym (same_by_output end) ∙ sym (ap ended_by_output same))

-- ---- The bytes that went out

module _ (header : List ℕ) (read_of : List ℕ → NfdText) (bytes_of : List ℕ → List ℕ) (small : length header ≤ 128) where
  -- the header went out, and then so much of the lines
  after_bytes : {A : Type 0} (bytes : List ℕ) (left begun mid now : Option (List ℕ)) (end : Result A RunFault)
      → length (flat_map bytes_of (clean_lines read_of (lines_of bytes))) ≤ 2 ^ 63 → Appends begun mid header
      → WritesEach read_of bytes_of bytes left mid now end → WritesAfter header read_of bytes_of bytes left begun now (ended_after (length header) end)
  after_bytes bytes left begun mid now (Ok x) short first writes = (writes.0, Appends-trans begun mid now header _ first writes.1)
  after_bytes bytes left begun mid now (Err (Input number kind)) short first writes = (writes.0, writes.1, Appends-trans begun mid now header _ first writes.2)
  after_bytes bytes left begun mid now (Err (Write written)) short first writes =
      let text = flat_map bytes_of (clean_lines read_of (lines_of bytes)) in
      subst (PartWentOut begun now (header ++ text)) (sym (count_is_exact (length header) written (length text) small writes.1 short))
      (subst (Appends begun now) (sym (take-append-add header text written)) (Appends-trans begun mid now header _ first writes.0), more_went_out header text written writes.1)
  after_bytes bytes left begun mid now (Err _) short first writes = absurd writes

  pub after : {A : Type 0} (known left begun mid now : Option (List ℕ)) (end : Result A RunFault)
      → ((bytes : List ℕ) → length (flat_map bytes_of (clean_lines read_of (lines_of bytes))) ≤ 2 ^ 63) → Appends begun mid header
      → IfSome known (λ bytes. WritesEach read_of bytes_of bytes left mid now end)
      → IfSome known (λ bytes. WritesAfter header read_of bytes_of bytes left begun now (ended_after (length header) end))
  after None left begun mid now end short first writes = tt
  after (Some bytes) left begun mid now end short first writes = after_bytes bytes left begun mid now end (short bytes) first writes

  -- a part of the header went out
  part_bytes : (bytes : List ℕ) (left begun now : Option (List ℕ)) (fault : RunFault)
      → FailsToWrite Write begun now header fault → WritesAfter {A = Unit {0}} header read_of bytes_of bytes left begun now (Err fault)
  part_bytes bytes left begun now fault failed =
      let written = failed.0 in
      let text = flat_map bytes_of (clean_lines read_of (lines_of bytes)) in
      subst (λ f. WritesAfter {A = Unit {0}} header read_of bytes_of bytes left begun now (Err f)) (sym failed.1)
      (subst (Appends begun now) (sym (take-append-le written header text (omega (arith, failed.2.1)))) failed.2.0, less_of_more header text written failed.2.1)

  pub part_of_header : (known left begun now : Option (List ℕ)) (fault : RunFault)
      → FailsToWrite Write begun now header fault → IfSome known (λ bytes. WritesAfter {A = Unit {0}} header read_of bytes_of bytes left begun now (Err fault))
  part_of_header None left begun now fault failed = tt
  part_of_header (Some bytes) left begun now fault failed = part_bytes bytes left begun now fault failed

-- ---- After the files

-- a run that ended by its lines lacked no memory for rows, and took the table
pub runs_under : {A : Type 0} (header : List ℕ) (bytes_of : Keying → List ℕ → List ℕ) (asked : Asked) (input input_new : SourceState) (out out_new : SinkState)
    (result : Result A RunFault) (files : TableAndData) → TakesTable asked.numbers files.table files.properties → ended_before_input result ≡ false
    → IfSome input.remaining (λ bytes. WritesAfter header (text_of (keying asked files.table files.properties)) (bytes_of (keying asked files.table files.properties)) bytes input_new.remaining out.contents out_new.contents result)
    → RunsUnder header bytes_of asked input input_new out out_new result files
runs_under header bytes_of asked input input_new out out_new (Ok x) files takes lines runs = (takes, runs)
runs_under header bytes_of asked input input_new out out_new (Err (Digits row)) files takes lines runs = let never : ⊥ = cc in absurd never
runs_under header bytes_of asked input input_new out out_new (Err Memory) files takes lines runs = let never : ⊥ = cc in absurd never
runs_under header bytes_of asked input input_new out out_new (Err _) files takes lines runs = (takes, runs)

-- a run over files that were read
pub after_files : {A B C : Type 0} (reading : Reading C) (of : List Role) (K Runs : C → Type 0) (olds news : List SourceState) (input input_new : SourceState)
    (out out_new : SinkState) (files : B) (result : Result A RunFault) → ended_by_file result ≡ false → ((content : C) → K content → Runs content)
    → Over {A = B} reading olds news K (Ok files) → HaveFailed {A = B} of olds news (Ok files)
    → (ended_before_input result ≡ true → (out_new ≡ out) × (input_new ≡ input))
    → (ended_by_output result ≡ false → input_new.failed ≡ (input.failed || is_input_read result)) → out_new.failed ≡ (out.failed || ended_by_output result)
    → PrintsEach reading of Runs olds news input input_new out out_new result
after_files {A} {B} reading of K Runs olds news input input_new out out_new files result no_file weaker over failed nothing input_failed out_failed = record {
  runs = runs_over_all {A = A} {B = B} reading olds news K Runs files result no_file weaker over;
  nothing_written = nothing;
  input_failed = input_failed;
  failed = failed_by_no_file {A = A} {B = B} of olds news files result failed no_file;
  out_failed = out_failed;
}
