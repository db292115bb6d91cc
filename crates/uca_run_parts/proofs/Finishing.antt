-- How a run begins and ends that writes some bytes for each line.
use Rattle.std.proofs.Common.{◌≡◌, ℕ, ◌+◌, ◌<◌, ◌≤◌, List, [], ◌++◌, true, false, Option, Some, None, IfSome, Result, Ok, Err, refl, ap, subst, sym, ◌∙◌, arith, length, length-append}
use Rattle.std.specs.Io.KnownBytes.{Appends}
use Rattle.std.specs.List.{flat_map}
use Rattle.std.proofs.lemmas.Grind.{flat_map-append}
use Rattle.std.proofs.lemmas.List.{take-append-le, length-drop}
use Rattle.uca_weights.specs.Streams.{SourceState, SinkState}
use Rattle.uca_weights.specs.Writes.{WentOut}
use Rattle.uca_text.specs.Texts.{NfdText}
use Rattle.uca_lines.specs.Lines.{lines_of}
use Rattle.uca_lines.specs.Buffered.{FailsToWriteThrough, count_of}
use Rattle.uca_lines.specs.OutputBuffer.{BufferState, IsBuffered}
use Rattle.uca_lines.proofs.BufferedLemmas.{none_buffered}
use Rattle.uca_run_parts.specs.declared.faults.RunFault.{RunFault}
use Rattle.uca_run_parts.specs.declared.faults.RunFault.TheVariants.{File, Digits, Input, Write, Memory}
use Rattle.uca_run_parts.specs.declared.faults.InputKind.{InputKind}
use Rattle.uca_run_parts.specs.Files.{ended_by_file}
use Rattle.uca_run_parts.specs.Input.{clean_lines}
use Rattle.uca_run_parts.specs.Runs.{IsInputFault, PartWentOut, ended_by_output}
use Rattle.uca_run_parts.specs.EachLine.{WritesEach, ended_before_input}
use Rattle.uca_run_parts.specs.LinesSoFar.{AreAll}
use Rattle.uca_run_parts.specs.Texts.{LinesState, HasRead}
use Rattle.uca_run_parts.specs.EachLineSoFar.{HasWritten, IsPartOfOutput, WritesRest}

-- a buffer counts the bytes of its text
pub count_is : (begun now : Option (List ℕ)) (text : List ℕ) (buffer : BufferState) → IsBuffered begun now text buffer → length text ≡ count_of buffer
count_is begun now text buffer h = omega (arith, h.went_out.1, ap length h.held, length-drop buffer.written text)

-- of a longer text as much went out
part_of_more : (begun now : Option (List ℕ)) (text more : List ℕ) (n : ℕ) → PartWentOut begun now text n → PartWentOut begun now (text ++ more) n
part_of_more begun now text more n (went, few) =
    let within : n ≤ length text = omega arith in
    (subst (λ (l : List ℕ). Appends begun now l) (sym (take-append-le n text more within)) went, omega (arith, length-append text more))

-- where a piece does not go out whole, neither does the text that ends with it
pub piece_fails : {piece : List ℕ} {buffer : BufferState} {out now : SinkState} {written : ℕ} (begun : Option (List ℕ)) (before : List ℕ)
    → FailsToWriteThrough piece buffer out now written → IsBuffered begun out.contents before buffer → PartWentOut begun now.contents (before ++ piece) written
piece_fails {piece} {buffer} {out} {now} {written} begun before fails h =
    ((fails.went_out begun before h).0, omega (arith, fails.not_all, count_is begun out.contents before buffer h, length-append before piece))

-- where what waits does not go out whole, neither does its text
pub rest_fails : (begun now end : Option (List ℕ)) (text : List ℕ) (buffer : BufferState) (written : ℕ) → WentOut begun end text written
    → written < buffer.written + length buffer.held → IsBuffered begun now text buffer → PartWentOut begun end text written
rest_fails begun now end text buffer written went some h = (went.0, omega (arith, some, count_is begun now text buffer h))

module _ (read_of : List ℕ → NfdText) (bytes_of : List ℕ → List ℕ) where
  -- the whole output: the bytes of each line before the first one with an error
  abbrev output_of : List ℕ → List ℕ
  output_of bytes = flat_map bytes_of (clean_lines read_of (lines_of bytes))

  -- nothing was written yet
  pub started : (lines : LinesState) (input : SourceState) (buffer : BufferState) (out : SinkState)
      → HasRead read_of input.remaining [] lines input → buffer.held ≡ [] → buffer.written ≡ 0
      → HasWritten read_of bytes_of input.remaining out.contents [] lines input buffer out
  started lines input buffer out read held written = record { read = read; written = none_buffered out.contents buffer held written }

  -- part of what begins the output is part of the output
  part_of : (start begun now : Option (List ℕ)) (written : ℕ) → IsPartOfOutput read_of bytes_of start begun now written
      → IfSome start (λ bytes. PartWentOut begun now (output_of bytes) written)
  part_of None begun now written part = tt
  part_of (Some bytes) begun now written part =
      subst (λ output. PartWentOut begun now output written) (sym part.begins.1) (part_of_more begun now part.text part.begins.0 written part.went_out)

  -- a write that failed before the end
  pub write_stays : (start begun left : Option (List ℕ)) (input : SourceState) (buffer : BufferState) (out : SinkState) (end : Result (Unit {0}) RunFault)
      → WritesRest read_of bytes_of start begun input buffer out end → ended_by_output end ≡ true
      → IfSome start (λ bytes. WritesEach read_of bytes_of bytes left begun out.contents end)
  write_stays start begun left input buffer out (Ok x) rest h = let never : ⊥ = cc in absurd never
  write_stays start begun left input buffer out (Err (Write written)) rest h = part_of start begun out.contents written rest.1
  write_stays start begun left input buffer out (Err (Input number kind)) rest h = let never : ⊥ = cc in absurd never
  write_stays start begun left input buffer out (Err _) rest h = absurd rest.1

  -- all that was written went out
  all_out : (start begun now left : Option (List ℕ)) (x : Unit {0}) (all : List (List ℕ)) → IfSome start (λ bytes. AreAll read_of bytes all)
      → Appends begun now (flat_map bytes_of all) → IfSome start (λ bytes. WritesEach {A = Unit {0}} read_of bytes_of bytes left begun now (Ok x))
  all_out None begun now left x all are out = tt
  all_out (Some bytes) begun now left x all are out =
      (are.clean ∙ sym are.lines, subst (λ lines. Appends begun now (flat_map bytes_of lines)) (sym are.lines) out)

  stopped_out : (start begun now left : Option (List ℕ)) (before : List (List ℕ)) (number : ℕ) (kind : InputKind)
      → IfSome start (λ bytes. IsInputFault read_of bytes left before number kind) → Appends begun now (flat_map bytes_of before)
      → IfSome start (λ bytes. WritesEach {A = Unit {0}} read_of bytes_of bytes left begun now (Err (Input number kind)))
  stopped_out None begun now left before number kind fault out = tt
  stopped_out (Some bytes) begun now left before number kind fault out = (before, fault, out)

  pub flushed : (start begun : Option (List ℕ)) (input : SourceState) (buffer : BufferState) (out now : SinkState) (end : Result (Unit {0}) RunFault)
      → WritesRest read_of bytes_of start begun input buffer out end → ended_by_output end ≡ false
      → ((text : List ℕ) → IsBuffered begun out.contents text buffer → Appends begun now.contents text)
      → IfSome start (λ bytes. WritesEach read_of bytes_of bytes input.remaining begun now.contents end)
  flushed start begun input buffer out now (Ok x) rest h flush = all_out start begun now.contents input.remaining x rest.all rest.are_all (flush _ rest.written)
  flushed start begun input buffer out now (Err (Input number kind)) rest h flush =
      stopped_out start begun now.contents input.remaining rest.0 number kind rest.1.0 (flush _ rest.1.1)
  flushed start begun input buffer out now (Err (Write written)) rest h flush = let never : ⊥ = cc in absurd never
  flushed start begun input buffer out now (Err _) rest h flush = absurd rest.1

  -- a part of it did
  all_part : (start begun now : Option (List ℕ)) (all : List (List ℕ)) (written : ℕ) → IfSome start (λ bytes. AreAll read_of bytes all)
      → PartWentOut begun now (flat_map bytes_of all) written → IfSome start (λ bytes. PartWentOut begun now (output_of bytes) written)
  all_part None begun now all written are out = tt
  all_part (Some bytes) begun now all written are out =
      subst (λ output. PartWentOut begun now output written) (ap (flat_map bytes_of) (sym are.clean)) out

  stopped_part : (start begun now left : Option (List ℕ)) (before : List (List ℕ)) (number : ℕ) (kind : InputKind) (written : ℕ)
      → IfSome start (λ bytes. IsInputFault read_of bytes left before number kind) → PartWentOut begun now (flat_map bytes_of before) written
      → IfSome start (λ bytes. PartWentOut begun now (output_of bytes) written)
  stopped_part None begun now left before number kind written fault out = tt
  stopped_part (Some bytes) begun now left before number kind written fault out =
      subst (λ output. PartWentOut begun now output written) (sym (ap (flat_map bytes_of) fault.clean.1 ∙ flat_map-append _ before fault.clean.0))
      (part_of_more begun now (flat_map bytes_of before) (flat_map bytes_of fault.clean.0) written out)

  pub not_flushed : (start begun left : Option (List ℕ)) (input : SourceState) (buffer : BufferState) (out now : SinkState) (end : Result (Unit {0}) RunFault) (written : ℕ)
      → WritesRest read_of bytes_of start begun input buffer out end → ended_by_output end ≡ false
      → ((text : List ℕ) → IsBuffered begun out.contents text buffer → PartWentOut begun now.contents text written)
      → IfSome start (λ bytes. WritesEach {A = Unit {0}} read_of bytes_of bytes left begun now.contents (Err (Write written)))
  not_flushed start begun left input buffer out now (Ok x) written rest h flush = all_part start begun now.contents rest.all written rest.are_all (flush _ rest.written)
  not_flushed start begun left input buffer out now (Err (Input number kind)) written rest h flush =
      stopped_part start begun now.contents input.remaining rest.0 number kind written rest.1.0 (flush _ rest.1.1)
  not_flushed start begun left input buffer out now (Err (Write w)) written rest h flush = let never : ⊥ = cc in absurd never
  not_flushed start begun left input buffer out now (Err _) written rest h flush = absurd rest.1

  -- a run of lines ends by its lines alone
  pub of_lines : (start begun : Option (List ℕ)) (input : SourceState) (buffer : BufferState) (out : SinkState) (end : Result (Unit {0}) RunFault)
      → WritesRest read_of bytes_of start begun input buffer out end → ended_before_input end ≡ false
  of_lines start begun input buffer out (Ok x) rest = refl
  of_lines start begun input buffer out (Err (File role fault)) rest = absurd rest.1
  of_lines start begun input buffer out (Err (Digits row)) rest = absurd rest.1
  of_lines start begun input buffer out (Err Memory) rest = absurd rest.1
  of_lines start begun input buffer out (Err _) rest = refl

-- an end by the lines is not an error of a file
pub before_file : {A : Type 0} (end : Result A RunFault) → ended_before_input end ≡ false → ended_by_file end ≡ false
before_file (Ok x) h = refl
before_file (Err (File role fault)) h = let never : ⊥ = cc in absurd never
before_file (Err _) h = refl
