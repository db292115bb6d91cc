-- The lines of an input and their texts, one after another.
use Rattle.std.proofs.Common.{◌≡◌, ℕ, suc, ◌+◌, ◌<◌, ◌≤◌, true, false, List, [], ◌∷◌, length, Option, None, Err, add-one, ap, subst, sym, ◌∙◌, length-append}
use Rattle.std.specs.Io.KnownBytes.{Consumes, IsAtEnd, prepend_known}
use Rattle.uca_weights.specs.Streams.{SourceState}
use Rattle.uca_text.specs.Texts.{NfdText}
use Rattle.uca_lines.specs.Lines.{is_lf, Lacks, ended}
use Rattle.uca_lines.specs.LineReader.{LineState, left_of}
use Rattle.uca_lines.specs.NextLine.{SaysOfBytes, IsWithinLimit}
use Rattle.uca_lines.specs.declared.lines.LineFault.{LineFault}
use Rattle.uca_lines.specs.declared.lines.LineFault.TheVariants as line_fault
use Rattle.uca_run_parts.specs.declared.faults.InputKind.{InputKind}
use Rattle.uca_run_parts.specs.declared.faults.InputKind.TheVariants.{Memory}
use Rattle.uca_run_parts.specs.Input.{cause_of}
use Rattle.uca_run_parts.specs.LinesSoFar.{IsAfter, IsNext, OnKnown}
use Rattle.uca_run_parts.specs.Texts.{LinesState, HasRead, HasLine, HasCleanLine, HasNoText, HasTextCause, line_kind}
use Rattle.uca_run_parts.proofs.LinesSoFar.{known_ended, known_cut, known_line_error, known_text_error, known_memory, known_clean}

-- ---- The next line

module _ (read_of : List ℕ → NfdText) (start : Option (List ℕ)) (before : List (List ℕ)) (lines : LinesState) (input : SourceState) (read : HasRead read_of start before lines input) where
  -- an LF ended each line so far
  uncut : lines.is_cut ≡ false → OnKnown start (left_of lines.reader input) (λ bytes left. IsAfter read_of bytes left false before)
  uncut none = subst (λ is_cut. OnKnown start (left_of lines.reader input) (λ bytes left. IsAfter read_of bytes left is_cut before)) none read.after

  module _ (now : LineState) (unread : SourceState) (line : List ℕ) (none : lines.is_cut ≡ false) where
    -- a line, and the LF that ends it
    pub ended_line : Consumes (left_of lines.reader input) (left_of now unread) (ended line) → Lacks is_lf line → now.number ≡ lines.reader.number + 1
        → HasLine read_of start before (record { reader = now; line = line; is_cut = lines.is_cut }) unread
    ended_line takes lacks next = record {
      next = subst (λ is_cut. OnKnown start (left_of now unread) (λ bytes left. IsNext read_of bytes left is_cut before line)) (sym none)
          (known_ended read_of start (left_of lines.reader input) (left_of now unread) before line (uncut none) takes lacks);
      count = next ∙ ap (λ n. n + 1) read.count;
    }

    -- a last line, which no LF ends
    pub cut_line : Consumes (left_of lines.reader input) (left_of now unread) line × IsAtEnd (left_of now unread) → 0 < length line → Lacks is_lf line
        → now.number ≡ lines.reader.number + 1 → HasLine read_of start before (record { reader = now; line = line; is_cut = true }) unread
    cut_line takes some lacks next = record {
      next = known_cut read_of start (left_of lines.reader input) (left_of now unread) before line (uncut none) takes some lacks;
      count = next ∙ ap (λ n. n + 1) read.count;
    }

    -- the line is not read
    pub no_line : (fault : LineFault) → SaysOfBytes (left_of lines.reader input) (left_of now unread) line 4194304 (Err fault) → IsWithinLimit lines.reader.number (Err fault)
        → Lacks is_lf line → length line ≤ 4194304 → (fault ≡ line_fault.Read → now.pending ≡ []) → HasNoText read_of start before unread (suc (length before)) (line_kind fault)
    no_line fault says within lacks short failed =
        known_line_error read_of start (left_of lines.reader input) (left_of now unread) unread.remaining before line fault (uncut none) says
        (subst (λ n. IsWithinLimit n (Err fault)) read.count within) lacks short (λ h. ap (λ xs. prepend_known xs unread.remaining) (failed h))

-- ---- What is found in it

module _ (read_of : List ℕ → NfdText) (start : Option (List ℕ)) (before : List (List ℕ)) (lines : LinesState) (input : SourceState) (line : HasLine read_of start before lines input) where
  -- the line that was read gives no text
  pub no_text : (number : ℕ) (kind : InputKind) → number ≡ length before + 1 → HasTextCause read_of (length before) lines.line kind → HasNoText read_of start before input number kind
  no_text number kind place cause =
      subst (λ n. HasNoText read_of start before input n kind) (sym (place ∙ add-one (length before)))
      (known_text_error read_of start (left_of lines.reader input) input.remaining before lines.line lines.is_cut kind line.next cause)

  -- it has no error
  pub clean_line : cause_of read_of (length before) lines.line ≡ None → HasCleanLine read_of start before lines input
  clean_line clean = record {
    read = record {
      after = known_clean read_of start (left_of lines.reader input) before lines.line lines.is_cut line.next clean;
      count = line.count ∙ sym (length-append before (lines.line ∷ []));
    };
    memory = subst (λ n. HasNoText read_of start before input n Memory) (sym (line.count ∙ add-one (length before)))
        (known_memory read_of start (left_of lines.reader input) input.remaining before lines.line lines.is_cut line.next);
  }
