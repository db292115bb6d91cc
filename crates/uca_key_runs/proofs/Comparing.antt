-- What a run of compare returns, from what is written of two texts.
use Rattle.std.proofs.Common.{◌≡◌, ℕ, List, true, false, Option, Result, Ok, Err, OnOk, IfErr, subst, sym}
use Rattle.std.specs.Io.KnownBytes.{Appends}
use Rattle.uca_weights.specs.declared.Asked.{Asked}
use Rattle.uca_weights.specs.Streams.{SinkState}
use Rattle.uca_text.specs.Limits.{IsAccepted}
use Rattle.uca_run_parts.specs.declared.faults.RunFault.{RunFault}
use Rattle.uca_run_parts.specs.declared.faults.RunFault.TheVariants.{File, Digits, Input, StoredKey, Write, Memory, Text, Tailor, Changes, CertificateWrite, Open, SameAs, Words}
use Rattle.uca_order.specs.Keyings.{Keying, keying, bytes_compared, text_of}
use Rattle.uca_number_keys.specs.Tables.{TakesTable}
use Rattle.uca_run_parts.specs.Files.{TableAndData}
use Rattle.uca_run_parts.specs.Runs.{FailsToWrite, PartWentOut}
use Rattle.uca_key_runs.specs.CompareRun.{WritesComparison, RunsCompare, comparison_line}

-- what is written where both texts are within the limits
pub writes_line : (c : Keying) (left right : List ℕ) (begun now : Option (List ℕ)) (text : List ℕ) (result : Result (Unit {0}) RunFault)
    → IsAccepted (text_of c left) × IsAccepted (text_of c right) → text ≡ comparison_line (bytes_compared c left right)
    → OnOk result (Appends begun now text) → IfErr result (FailsToWrite Write begun now text) → WritesComparison c left right begun now result
writes_line c left right begun now text (Ok x) both same written failed = (both.0, both.1, subst (Appends begun now) same written)
writes_line c left right begun now text (Err fault) both same written failed =
    subst (λ f. WritesComparison {A = Unit {0}} c left right begun now (Err f)) (sym failed.1)
    (both.0, both.1, subst (λ t. PartWentOut begun now t failed.0) same failed.2)

-- what is written of two texts is what a run returns for them, if the table is taken
pub run_compares : (asked : Asked) (left right : List ℕ) (out out_new : SinkState) (files : TableAndData) (result : Result (Unit {0}) RunFault)
    → TakesTable asked.numbers files.table files.properties
    → WritesComparison (keying asked files.table files.properties) left right out.contents out_new.contents result → RunsCompare asked left right out out_new result files
run_compares asked left right out out_new files (Ok x) takes writes = (takes, writes)
run_compares asked left right out out_new files (Err fault) takes writes = by_fault fault writes
  where
    by_fault : (fault : RunFault) → WritesComparison {A = Unit {0}} (keying asked files.table files.properties) left right out.contents out_new.contents (Err fault)
        → RunsCompare {A = Unit {0}} asked left right out out_new (Err fault) files
    by_fault (File role cause) writes = (takes, writes)
    by_fault (Input line kind) writes = (takes, writes)
    by_fault (StoredKey line kind) writes = (takes, writes)
    by_fault (Write written) writes = (takes, writes)
    by_fault (Digits row) writes = absurd writes
    by_fault Memory writes = absurd writes
    by_fault (Text false cause) writes = (takes, writes)
    by_fault (Text true cause) writes = (takes, writes)
    by_fault (Tailor cause) writes = (takes, writes)
    by_fault (Changes cause) writes = (takes, writes)
    by_fault (CertificateWrite written) writes = (takes, writes)
    by_fault (Open role) writes = (takes, writes)
    by_fault (SameAs role) writes = (takes, writes)
    by_fault (Words cause) writes = (takes, writes)
