-- What a run of fingerprint returns and writes.
use Rattle.std.specs.Prelude.{◌≡◌, ℕ, List, [], ◌∷◌, ◌++◌, ◌||◌, Bool, true, false, Option, Result, Ok, Err}
use Rattle.std.specs.Io.KnownBytes.{Appends}
use Rattle.hex.specs.Hex.{encode_lower}
use Rattle.sha2.specs.Sha256.{sha256}
use Rattle.uca_weights.specs.declared.Asked.{Asked}
use Rattle.uca_weights.specs.Streams.{SourceState, SinkState}
use Rattle.uca_weights.specs.AskedSettings.{settings_by}
use Rattle.uca_fingerprint.specs.Fingerprints.{compact_fingerprint_text, fingerprint_text}
use Rattle.uca_run_parts.specs.declared.faults.Role.{Role}
use Rattle.uca_run_parts.specs.declared.faults.RunFault.{RunFault}
use Rattle.uca_run_parts.specs.declared.faults.RunFault.TheVariants.{Write}
use Rattle.uca_run_parts.specs.Files.{HaveFailed, Over, Reading, table_and_data_roles}
use Rattle.uca_run_parts.specs.Runs.{PartWentOut, ended_before_output, ended_by_output}
use Rattle.uca_fingerprint_runs.specs.SummedFiles.{BookedContent, SummedContent, booked_files, booked_roles, summed_files}

-- the fingerprint of what texts are keyed by under files that were summed
abbrev pub fingerprint_under : Asked → SummedContent → List ℕ
fingerprint_under asked files = sha256 (fingerprint_text (settings_by asked files.table.header.setting) files.table_sum files.data_sum)

-- its line: lower-case hexadecimal digits and LF
abbrev pub fingerprint_line : Asked → SummedContent → List ℕ
fingerprint_line asked files = encode_lower (fingerprint_under asked files) ++ 10 ∷ []

-- a text is written by a writer that had `begun` and has `now`, or as much of it as an error of the writer leaves
abbrev pub WritesText : {A : Type 0} → List ℕ → Option (List ℕ) → Option (List ℕ) → Result A RunFault → Type 0
WritesText text begun now (Ok x) = Appends begun now text
WritesText text begun now (Err (Write written)) = PartWentOut begun now text written
WritesText text begun now (Err _) = ⊥

-- the fingerprint of compact keys of what texts are keyed by, under files that were summed
abbrev pub compact_fingerprint_under : Asked → BookedContent → List ℕ
compact_fingerprint_under asked read = sha256 (compact_fingerprint_text (fingerprint_under asked read.files) read.book_sum)

-- its line
abbrev pub compact_fingerprint_line : Asked → BookedContent → List ℕ
compact_fingerprint_line asked read = encode_lower (compact_fingerprint_under asked read) ++ 10 ∷ []

-- A run that writes the line of what some files mean: what it writes if the bytes of its files are known. And for any
-- files and output, when nothing is written, and what has failed.
pub record PrintsLine {A C : Type 0} (reading : Reading C) (of : List Role) (line : C → List ℕ) (olds news : List SourceState) (out out_new : SinkState)
    (result : Result A RunFault) : Type 0 where
  pub runs : Over reading olds news (λ files. WritesText (line files) out.contents out_new.contents result) result
  pub nothing_written : ended_before_output result ≡ true → out_new ≡ out
  pub failed : HaveFailed of olds news result
  pub out_failed : out_new.failed ≡ (out.failed || ended_by_output result)

-- a run of fingerprint, without a book or with one
abbrev pub PrintsFingerprint : {A : Type 0} → Bool → Asked → List SourceState → List SourceState → SinkState → SinkState → Result A RunFault → Type 0
PrintsFingerprint false asked = PrintsLine summed_files table_and_data_roles (fingerprint_line asked)
PrintsFingerprint true asked = PrintsLine booked_files booked_roles (compact_fingerprint_line asked)
