-- What a run of compare returns and writes.
use Rattle.std.specs.Prelude.{◌≡◌, ℕ, ◌+◌, ◌||◌, List, [], ◌∷◌, true, false, Option, Result, Ok, Err}
use Rattle.std.specs.declared.cmp.Ordering.{Ordering}
use Rattle.std.specs.declared.cmp.Ordering.TheVariants.{Less, Equal, Greater}
use Rattle.std.specs.Io.KnownBytes.{Appends}
use Rattle.uca_weights.specs.declared.Asked.{Asked}
use Rattle.uca_weights.specs.Streams.{SourceState, SinkState}
use Rattle.uca_text.specs.Limits.{IsAccepted}
use Rattle.uca_text.specs.Faults.{IsCause}
use Rattle.uca_order.specs.Levels.{Comparison}
use Rattle.uca_run_parts.specs.declared.faults.RunFault.{RunFault}
use Rattle.uca_run_parts.specs.declared.faults.RunFault.TheVariants.{Write, Memory, Text}
use Rattle.uca_run_parts.specs.Files.{TableAndData, Over, HaveFailed, table_and_data, table_and_data_roles}
use Rattle.uca_run_parts.specs.Runs.{PartWentOut, ended_before_output, ended_by_output}
use Rattle.uca_order.specs.Keyings.{Keying, keying, bytes_compared, text_of}
use Rattle.uca_key_runs.specs.Keys.{IfTaken}

-- `<`, `=` or `>`
abbrev pub sign_of : Ordering → ℕ
sign_of Less = 60
sign_of Equal = 61
sign_of Greater = 62

-- the sign, one space, and the difference level as a digit
abbrev pub comparison_line : Comparison → List ℕ
comparison_line comparison = sign_of comparison.order ∷ 32 ∷ (48 + comparison.level) ∷ 10 ∷ []

-- What is written of two texts by a writer that had `begun` and has `now`. It is how they compare level by level, or
-- as much of it as an error of the writer leaves. Or the right text is rejected, or before it the left one.
abbrev pub WritesComparison : {A : Type 0} → Keying → List ℕ → List ℕ → Option (List ℕ) → Option (List ℕ) → Result A RunFault → Type 0
WritesComparison c left right begun now (Ok x) = IsAccepted (text_of c left) × IsAccepted (text_of c right) × Appends begun now (comparison_line (bytes_compared c left right))
WritesComparison c left right begun now (Err (Text false fault)) = IsCause (text_of c left) fault
WritesComparison c left right begun now (Err (Text true fault)) = IsAccepted (text_of c left) × IsCause (text_of c right) fault
WritesComparison c left right begun now (Err (Write written)) = IsAccepted (text_of c left) × IsAccepted (text_of c right) × PartWentOut begun now (comparison_line (bytes_compared c left right)) written
WritesComparison c left right begun now (Err _) = ⊥

-- What is written under a table and properties that are taken. An allocation that failed for looking up rows says
-- nothing of the texts, and nothing was written.
abbrev pub WritesCompared : {A : Type 0} → Asked → List ℕ → List ℕ → SinkState → SinkState → Result A RunFault → TableAndData → Type 0
WritesCompared asked left right out out_new (Err Memory) files = out_new ≡ out
WritesCompared asked left right out out_new result files = WritesComparison (keying asked files.table files.properties) left right out.contents out_new.contents result

-- What a run of compare returns under a table and properties.
abbrev pub RunsCompare : {A : Type 0} → Asked → List ℕ → List ℕ → SinkState → SinkState → Result A RunFault → TableAndData → Type 0
RunsCompare asked left right out out_new result files =
    IfTaken asked.numbers files result (WritesCompared asked left right out out_new result files)

-- what a run of compare uses: the settings that are asked for, and the two texts
pub record Comparing : Type 0 where
  pub asked : Asked
  pub left : List ℕ
  pub right : List ℕ

-- what a run of compare uses, from its parts
abbrev pub comparing : Asked → List ℕ → List ℕ → Comparing
comparing asked left right = record { asked = asked; left = left; right = right }

-- A run of compare: what it returns if the bytes of its files are known. And for any files and output, when nothing is
-- written, and what has failed.
pub record Compares {A : Type 0} (used : Comparing) (olds news : List SourceState) (out out_new : SinkState)
    (result : Result A RunFault) : Type 0 where
  pub runs : Over table_and_data olds news
      (RunsCompare used.asked used.left used.right out out_new result) result
  pub nothing_written : ended_before_output result ≡ true → out_new ≡ out
  pub failed : HaveFailed table_and_data_roles olds news result
  pub out_failed : out_new.failed ≡ (out.failed || ended_by_output result)
