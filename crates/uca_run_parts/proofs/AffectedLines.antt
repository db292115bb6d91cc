-- The lines that are affected.
use Rattle.std.proofs.Common.{◌≡◌, ℕ, ◌^◌, ◌<◌, ◌≤◌, ◌||◌, Bool, true, false, List, [], ◌∷◌, Result, Ok, Err, length, if◌then◌else◌, refl, ap, sym, subst, ◌∙◌, arith, length-append}
use Rattle.std.specs.Prelude.{⊤, IsTrue}
use Rattle.uca_weights.specs.declared.Numbers.{Numbers}
use Rattle.uca_weights.specs.Streams.{SourceState, SinkState}
use Rattle.uca_text.specs.Texts.{NfdText}
use Rattle.uca_lines.specs.Lines.{ended}
use Rattle.uca_changes.proofs.AffectedTexts.{affects_none, leaves_others}
use Rattle.uca_run_parts.specs.declared.faults.RunFault.{RunFault}
use Rattle.uca_run_parts.specs.declared.faults.RunFault.TheVariants.{Memory}
use Rattle.uca_run_parts.specs.AffectedRun.{Affecting, AffectedTextsAreTheOthers, PrintsAffected, RunsAffected, if_so, line_if}
use Rattle.uca_run_parts.specs.EachLine.{RunsEach, ended_before_input}
use Rattle.uca_run_parts.specs.Input.{line_text}
use Rattle.uca_run_parts.specs.ReadFiles.{ReadsFiles}
use Rattle.uca_run_parts.specs.Runs.{is_input_read, ended_by_output}
use Rattle.uca_run_parts.proofs.FilesLemmas.{failed_by_no_file, runs_over_all}
use Rattle.uca_run_parts.proofs.Running.{file_before}
use Rattle.uca_run_parts.proofs.WholeRuns.{ended_before, ended_by_lines}

pub affected_are_the_others : AffectedTextsAreTheOthers
affected_are_the_others relations text = (leaves_others relations text, affects_none relations text)

-- what a test of a text gives, where the result is known
pub test_gives : (is_so : List ℕ → Bool) (text : NfdText) (points : List ℕ) (answer told : Bool) → answer ≡ is_so text.points → answer ≡ told
    → text.points ≡ points → is_so points ≡ told
test_gives is_so text points answer told is same at = ap is_so (sym at) ∙ sym is ∙ same

-- nothing is written of a line that is not affected
pub nothing_affected : (is_so : List ℕ → Bool) (text line : List ℕ) → is_so text ≡ false → if_so is_so text line ≡ []
nothing_affected is_so text line none = ap (λ b. if b then ended line else []) none

-- another line is written whole
pub line_affected : (is_so : List ℕ → Bool) (text line : List ℕ) → is_so text ≡ true → if_so is_so text line ≡ ended line
line_affected is_so text line so = ap (λ b. if b then ended line else []) so

-- a line is short
pub affected_is_short : (line : List ℕ) → length line ≤ 4194304 → length (ended line) < 2 ^ 43
affected_is_short line short = omega (arith, short, length-append line (10 ∷ []))

-- ---- Whole runs

module _ (affecting : Affecting) (numbers : Numbers) where
  -- what is written by what the files mean
  abbrev pub WritesAffected : {A : Type 0} → SourceState → SourceState → SinkState → SinkState → Result A RunFault → affecting.Content → Type 0
  WritesAffected input input_new out out_new result files =
      let read_of = line_text numbers (affecting.properties files) in RunsEach read_of (line_if (affecting.affects files) read_of) input input_new out out_new result

  -- a run that ended by its lines lacked no memory for looking texts up
  by_lines : {A : Type 0} (input input_new : SourceState) (out out_new : SinkState) (result : Result A RunFault) (files : affecting.Content)
      → ended_before_input result ≡ false → WritesAffected input input_new out out_new result files
      → RunsAffected affecting numbers input input_new out out_new result files
  by_lines input input_new out out_new (Ok x) files lines writes = (lines, writes)
  by_lines input input_new out out_new (Err Memory) files lines writes = let never : ⊥ = cc in absurd never
  by_lines input input_new out out_new (Err _) files lines writes = (lines, writes)

  module _ {A : Type 0} (olds news : List SourceState) (content_of : A → affecting.Content) (input : SourceState) (out : SinkState) where
    abbrev Reads : Result A RunFault → Type 0
    Reads read = ReadsFiles affecting.files affecting.file_roles olds news content_of read

    -- one of the files was rejected
    pub not_read : (fault : RunFault) → Reads (Err fault) → PrintsAffected {A = ⊤} affecting numbers olds news input input out out (Err fault)
    not_read fault reads =
        ended_before affecting.files affecting.file_roles (λ content. ⊥) (RunsAffected {A = ⊤} affecting numbers input input out out (Err fault)) olds news
        ⊤ A input out fault (λ content never. absurd never) reads.read (file_before A A fault reads.of_files) reads.failed

    -- memory for looking texts up was lacking
    pub no_memory : (read : A) → IsTrue affecting.takes_memory → Reads (Ok read)
        → PrintsAffected {A = ⊤} affecting numbers olds news input input out out (Err Memory)
    no_memory read takes reads =
        let same = λ (content : affecting.Content). content_of read ≡ content in
        ended_before affecting.files affecting.file_roles same (RunsAffected {A = ⊤} affecting numbers input input out out (Err Memory)) olds news
        ⊤ A input out Memory (λ content is. takes)
        (runs_over_all {A = A} {B = A} affecting.files olds news same same read (Err Memory) refl (λ content is. is) reads.read)
        refl (failed_by_no_file {A = A} {B = A} affecting.file_roles olds news read (Err Memory) reads.failed refl)

    -- the affected lines were written, or not all of them
    pub lines_printed : {R : Type 0} (input_new : SourceState) (out_new : SinkState) (read : A) (result : Result R RunFault) → Reads (Ok read)
        → WritesAffected input input_new out out_new result (content_of read) → ended_before_input result ≡ false
        → (ended_by_output result ≡ false → input_new.failed ≡ (input.failed || is_input_read result))
        → out_new.failed ≡ (out.failed || ended_by_output result) → PrintsAffected affecting numbers olds news input input_new out out_new result
    lines_printed input_new out_new read result reads writes lines =
        ended_by_lines affecting.files affecting.file_roles (λ content. content_of read ≡ content)
        (RunsAffected affecting numbers input input_new out out_new result) olds news {B = A} input input_new out out_new read result lines
        (λ content same. by_lines input input_new out out_new result content lines (subst (WritesAffected input input_new out out_new result) same writes))
        reads.read reads.failed
