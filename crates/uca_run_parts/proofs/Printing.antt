-- What holds after the next line of a run that writes some bytes for each line.
use Rattle.std.proofs.Common.{◌≡◌, ℕ, ◌+◌, ◌*◌, ◌^◌, ◌<◌, ◌≤◌, List, [], ◌∷◌, ◌++◌, length, Bool, false, Option, Some, None, IfSome, Err, refl, ap, subst, arith, sym, ◌∙◌, append-nil}
use Rattle.std.specs.List.{flat_map}
use Rattle.std.proofs.lemmas.Grind.{flat_map-append}
use Rattle.uca_weights.specs.Streams.{SourceState, SinkState}
use Rattle.uca_text.specs.Texts.{NfdText}
use Rattle.uca_lines.specs.LineReader.{left_of}
use Rattle.uca_lines.specs.Lines.{lines_of}
use Rattle.uca_lines.specs.OutputBuffer.{BufferState, IsBuffered}
use Rattle.uca_run_parts.specs.declared.faults.InputKind.TheVariants.{Memory}
use Rattle.uca_run_parts.specs.declared.faults.RunFault.{RunFault}
use Rattle.uca_run_parts.specs.declared.faults.RunFault.TheVariants.{Input, Write}
use Rattle.uca_run_parts.specs.Input.{clean_from, clean_lines}
use Rattle.uca_run_parts.specs.EachLineSoFar.{HasWritten, IsStopped, WritesText}
use Rattle.uca_run_parts.specs.LinesSoFar.{IsAfter, OnKnown}
use Rattle.uca_run_parts.specs.Runs.{PartWentOut, ended_by_output}
use Rattle.uca_run_parts.specs.Texts.{LinesState, HasRead, HasCleanLine, ReadsCleanLine}

-- ---- Counts

-- so much was written that the count of all bytes fits
pub small_enough : (n all line : ℕ) → all ≤ n * 2 ^ 43 → n < 1000000 → line < 2 ^ 43 → all + line < 2 ^ 64
small_enough n all line small few short = omega (arith, small, few, short)

pub still_small : (n m old new line : ℕ) → old ≤ n * 2 ^ 43 → m ≡ n + 1 → line < 2 ^ 43 → new ≡ old + line → new ≤ m * 2 ^ 43
still_small n m old new line small next short count = omega (arith, small, next, short, count)

-- what is no error of the output
pub no_write : (A B : Type 0) (fault : RunFault) → ended_by_output {A = A} (Err fault) ≡ false → ended_by_output {A = B} (Err fault) ≡ false
no_write A B (Write written) h = h
no_write A B _ h = refl

-- ---- The bytes of one more line

module _ (read_of : List ℕ → NfdText) (bytes_of : List ℕ → List ℕ) where
  bytes-push : (before : List (List ℕ)) (line : List ℕ) → flat_map bytes_of (before ++ line ∷ []) ≡ flat_map bytes_of before ++ bytes_of line
  bytes-push before line = flat_map-append _ before (line ∷ []) ∙ ap (λ more. flat_map bytes_of before ++ more) (append-nil (bytes_of line))

  -- the output goes on after these lines
  goes_on : (start left : Option (List ℕ)) (before : List (List ℕ)) (is_cut : Bool)
      → OnKnown start left (λ bytes rest. IsAfter read_of bytes rest is_cut before)
      → IfSome start (λ bytes. (rest : List ℕ) × (flat_map bytes_of (clean_lines read_of (lines_of bytes)) ≡ flat_map bytes_of before ++ rest))
  goes_on None left before is_cut after = tt
  goes_on (Some bytes) None before is_cut after = absurd after
  goes_on (Some bytes) (Some left) before is_cut after =
      let more = clean_from read_of (length before) (lines_of left) in
      (flat_map bytes_of more, ap (flat_map bytes_of) after.clean ∙ flat_map-append _ before more)

  -- the next line has an error
  pub no_line : (start begun : Option (List ℕ)) (before : List (List ℕ)) (lines : LinesState) (input : SourceState) (buffer : BufferState) (out : SinkState) (fault : RunFault)
      → ReadsCleanLine read_of start before lines input (Err fault) → IsBuffered begun out.contents (flat_map bytes_of before) buffer
      → IsStopped read_of bytes_of start begun before input buffer out fault
  no_line start begun before lines input buffer out (Input number kind) reads written = (reads, written)
  no_line start begun before lines input buffer out _ reads written = absurd reads

  module _ (start begun : Option (List ℕ)) (before : List (List ℕ)) (lines : LinesState) (input : SourceState) (t : HasCleanLine read_of start before lines input)
      (piece : List ℕ) (is : piece ≡ bytes_of lines.line) where
    -- the bytes of the lines so far
    written_line : flat_map bytes_of before ++ piece ≡ flat_map bytes_of (before ++ lines.line ∷ [])
    written_line = ap (λ p. flat_map bytes_of before ++ p) is ∙ sym (bytes-push before lines.line)

    -- those of the line were written
    pub line_written : (now : LinesState) (held : BufferState) (sink : SinkState) → now ≡ lines → IsBuffered begun sink.contents (flat_map bytes_of before ++ piece) held
        → HasWritten read_of bytes_of start begun (before ++ lines.line ∷ []) now input held sink
    line_written now held sink same written = record {
      read = subst (λ l. HasRead read_of start (before ++ lines.line ∷ []) l input) (sym same) t.read;
      written = subst (λ output. IsBuffered begun sink.contents output held) written_line written;
    }

    -- those of the line were not written, or not all of them
    pub not_written : (buffer held : BufferState) (out sink : SinkState) (fault : RunFault) → IsBuffered begun out.contents (flat_map bytes_of before) buffer
        → WritesText {A = Unit {0}} begun (flat_map bytes_of before) piece lines.reader.number buffer out held sink (Err fault)
        → IsStopped read_of bytes_of start begun before input held sink fault
    not_written buffer held out sink (Input number kind) written stops =
        let at_number = subst (λ n. IsStopped read_of bytes_of start begun before input buffer out (Input n Memory)) (sym stops.0) (t.memory, written) in
        let at_kind = subst (λ k. IsStopped read_of bytes_of start begun before input buffer out (Input number k)) (sym stops.1) at_number in
        let at_buffer = subst (λ b. IsStopped read_of bytes_of start begun before input b out (Input number kind)) (sym stops.2) at_kind in
        subst (λ s. IsStopped read_of bytes_of start begun before input held s (Input number kind)) (sym stops.3) at_buffer
    not_written buffer held out sink (Write written) before_it stops = record {
      text = flat_map bytes_of (before ++ lines.line ∷ []);
      went_out = subst (λ output. PartWentOut begun sink.contents output written) written_line stops;
      begins = goes_on start (left_of lines.reader input) (before ++ lines.line ∷ []) lines.is_cut t.read.after;
    }
    not_written buffer held out sink _ written stops = absurd stops
