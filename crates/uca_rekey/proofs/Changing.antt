-- The lines whose keys were changed so far, and the next one.
use Rattle.std.proofs.Common.{◌≡◌, ℕ, suc, ◌+◌, ◌≤◌, Bool, true, false, List, [], ◌∷◌, ◌++◌, length, Option, Some, None, IfSome, Result, Ok, Err, inl, inr, refl, ap, sym, subst, subst₂, ◌∙◌, append-nil, arith, length-append}
use Rattle.std.specs.Prelude.{IfErr, IfOk, IsSomeAnd, MatchBool, MatchOption, OnOk, is_ok, if◌then◌else◌}
use Rattle.std.specs.Io.KnownBytes.{Appends}
use Rattle.std.specs.List.{flat_map}
use Rattle.std.proofs.lemmas.Grind.{flat_map-append}
use Rattle.uca_weights.specs.Streams.{SourceState, SinkState}
use Rattle.uca_lines.specs.Buffered.{HasWrittenThrough}
use Rattle.uca_lines.specs.Lines.{ended, lines_of}
use Rattle.uca_lines.specs.OutputBuffer.{BufferState, IsBuffered}
use Rattle.uca_lines.proofs.BufferedLemmas.{none_buffered}
use Rattle.uca_run_parts.specs.Print.{byte_digits}
use Rattle.uca_run_parts.specs.declared.faults.RunFault.{RunFault}
use Rattle.uca_run_parts.specs.declared.key_sizes.KeySizes.{KeySizes}
use Rattle.uca_run_parts.specs.declared.faults.RunFault.TheVariants.{Memory, StoredKey, Write}
use Rattle.uca_run_parts.specs.declared.faults.StoredKeyKind.{StoredKeyKind}
use Rattle.uca_run_parts.specs.declared.faults.StoredKeyKind.TheVariants as kinds
use Rattle.uca_run_parts.specs.Runs.{PartWentOut, ended_by_output}
use Rattle.uca_run_parts.proofs.Finishing.{count_is, piece_fails}
use Rattle.uca_rekey.specs.ChangedLines.{Headers, KeyChange, key_in, LineBecomes, LinesBecome, LinesBecomeAfter, with_key}
use Rattle.uca_rekey.specs.ChangeRun.{HasHeaderCause, IsChangeCause, IsLineFault, RunsChange, WritesAfterHeader, WritesChanged}
use Rattle.uca_rekey.specs.inside.ChangeSoFar.{ChangesLine, ChangesRest, EndsIf, HasChanged, HasNextChange, HasReadHeader, IsBegun, IsOfKey, WritesLine, WrittenState, header_pair}
use Rattle.uca_rekey.specs.inside.LinesInPlace.{HasRead, IsKeyCause, LinesState}
use Rattle.uca_rekey.proofs.LinesRead.{begins_with, line_fault, nothing_read, of_all, of_fault}

-- ---- The digits of a key

-- other bytes were written after them
pub rest_put : {A B : Type 0} (key put rest : List ℕ) (result : Result A B) (whole : List ℕ) → put ≡ flat_map byte_digits key
    → whole ≡ (if is_ok result then put ++ rest else put) → OnOk result (whole ≡ flat_map byte_digits key ++ rest)
rest_put key put rest (Ok x) whole digits is = is ∙ ap (λ (l : List ℕ). l ++ rest) digits
rest_put key put rest (Err e) whole digits is = tt

-- ---- A line

module _ (change : KeyChange) where
  -- the new line was made
  pub line_put : {A : Type 0} (line key new_key given put : List ℕ) (result : Result A StoredKeyKind) → key_in line ≡ Some key → change.becomes key (Some new_key)
      → given ≡ new_key → OnOk result (put ≡ with_key change.keeps_spaces line given) → OnOk result (LineBecomes change line put)
  line_put line key new_key given put (Ok x) has becomes same is = record {
    key = key;
    new_key = new_key;
    has = has;
    becomes = becomes;
    put = is ∙ ap (with_key change.keeps_spaces line) same;
  }
  line_put line key new_key given put (Err kind) has becomes same is = tt

  -- one more line
  lines_more : (before news : List (List ℕ)) (line new : List ℕ) → LinesBecome change before news → LineBecomes change line new
      → LinesBecome change (before ++ line ∷ []) (news ++ new ∷ [])
  lines_more [] [] line new all one = (one, tt)
  lines_more [] (n ∷ news) line new all one = absurd all
  lines_more (l ∷ before) [] line new all one = absurd all
  lines_more (l ∷ before) (n ∷ news) line new all one = (all.0, lines_more before news line new all.1 one)

  -- one more line, after a header or without one
  after_more : (headers : Option Headers) (before news : List (List ℕ)) (line new : List ℕ) → LinesBecomeAfter change headers before news
      → LineBecomes change line new → LinesBecomeAfter change headers (before ++ line ∷ []) (news ++ new ∷ [])
  after_more None before news line new all one = lines_more before news line new all one
  after_more (Some h) [] news line new all one = absurd all
  after_more (Some h) (l ∷ before) [] line new all one = absurd all
  after_more (Some h) (l ∷ before) (n ∷ news) line new all one = (all.0, all.1, lines_more before news line new all.2 one)

module _ (change : KeyChange) (headers : Option Headers) where
  -- the key of a line is not read
  pub change_cause_by_key : (before : List (List ℕ)) (line : List ℕ) (kind : StoredKeyKind) → IsKeyCause line kind → IsChangeCause change headers before line kind
  change_cause_by_key before line kinds.NoKey cause = cause
  change_cause_by_key before line kinds.Memory cause = tt
  change_cause_by_key before line kinds.NoImage cause = absurd cause
  change_cause_by_key before line kinds.OtherKey cause = absurd cause
  change_cause_by_key before line kinds.NoCompactKey cause = absurd cause
  change_cause_by_key before line kinds.Header cause = absurd cause
  change_cause_by_key before line kinds.TooLong cause = absurd cause
  change_cause_by_key before line kinds.Read cause = absurd cause

  -- no memory is left for the new line
  pub change_memory : {A : Type 0} (before : List (List ℕ)) (line : List ℕ) (result : Result A StoredKeyKind) → IfErr result (λ kind. kind ≡ kinds.Memory)
      → IfErr result (IsChangeCause change headers before line)
  change_memory before line (Ok x) is = tt
  change_memory before line (Err kind) is = subst (λ k. IsChangeCause change headers before line k) (sym is) tt

  -- the key becomes none
  pub key_none : (kind : StoredKeyKind) (before : List (List ℕ)) (line key : List ℕ) → kind ≡ change.none → IsOfKey kind → key_in line ≡ Some key
      → change.becomes key None → IsChangeCause change headers before line kind
  key_none kind before line key same of has becomes = go kind same of
    where
      other : IsSomeAnd (key_in line) (λ k. change.becomes k None)
      other = subst (λ o. IsSomeAnd o (λ k. change.becomes k None)) (sym has) becomes

      go : (k : StoredKeyKind) → k ≡ change.none → IsOfKey k → IsChangeCause change headers before line k
      go kinds.NoImage is of = (sym is, other)
      go kinds.OtherKey is of = (sym is, other)
      go kinds.NoCompactKey is of = (sym is, other)
      go kinds.NoKey is of = absurd of
      go kinds.Header is of = absurd of
      go kinds.TooLong is of = absurd of
      go kinds.Read is of = absurd of
      go kinds.Memory is of = absurd of

  -- ---- The next line

  module _ (start begun : Option (List ℕ)) (before news : List (List ℕ)) (lines : LinesState) (input : SourceState) (written : WrittenState) (out : SinkState)
      (so_far : HasChanged change headers start begun before news lines input written out) where
    -- no line is left
    pub all_changed : {A : Type 0} (x : A) (now : SourceState) (buffer : BufferState) → buffer ≡ written.buffer → IfSome start (λ bytes. lines_of bytes ≡ before)
        → ChangesRest {A = A} change headers start begun now buffer out (Ok x)
    all_changed x now buffer same all =
        (before, news, all, so_far.become, subst (λ (b : BufferState). IsBuffered begun out.contents (flat_map ended news) b) (sym same) so_far.text)

    -- the next line has no new line
    pub none_changed : (after : LinesState) (now : SourceState) (new : List ℕ) (held : WrittenState) (fault : RunFault) → held ≡ written
        → ChangesLine change headers start before after now new (Err fault) → ChangesRest {A = KeySizes} change headers start begun now held.buffer out (Err fault)
    none_changed after now new held (StoredKey number kind) same fault =
        (before, news, fault, so_far.become, subst (λ (w : WrittenState). IsBuffered begun out.contents (flat_map ended news) w.buffer) (sym same) so_far.text)
    none_changed after now new held _ same fault = absurd fault

    module _ (after : LinesState) (now : SourceState) (new : List ℕ) (next : HasNextChange change start before after now new) where
      text_more : flat_map ended news ++ ended new ≡ flat_map ended (news ++ new ∷ [])
      text_more = sym (flat_map-append ended news (new ∷ []) ∙ ap (λ l. flat_map ended news ++ l) (append-nil (ended new)))

      -- the new line was written
      pub line_changed : (held : WrittenState) (sink : SinkState) → HasWrittenThrough (ended new) written.buffer held.buffer out sink → held.number ≡ written.number + 1
          → HasChanged change headers start begun (before ++ next.line ∷ []) (news ++ new ∷ []) after now held sink
      line_changed held sink writes number = record {
        read = next.read;
        become = after_more change headers before news next.line new so_far.become next.becomes;
        text = subst (λ (text : List ℕ). IsBuffered begun sink.contents text held.buffer) text_more (writes.writes begun (flat_map ended news) so_far.text);
        count = omega (arith, number, so_far.count, length-append before (next.line ∷ []));
      }

      -- it was not
      pub change_not_written : (held : WrittenState) (sink : SinkState) (fault : RunFault) → WritesLine {A = Unit {0}} new written held out sink (Err fault)
          → ChangesRest {A = KeySizes} change headers start begun now held.buffer sink (Err fault)
      change_not_written held sink (Write count) stops = (
        before ++ next.line ∷ [],
        news ++ new ∷ [],
        begins_with start (before ++ next.line ∷ []) after now next.read,
        after_more change headers before news next.line new so_far.become next.becomes,
        subst (λ (text : List ℕ). PartWentOut begun sink.contents text count) text_more (piece_fails begun (flat_map ended news) stops so_far.text),
      )
      change_not_written held sink (StoredKey number kind) stops =
          let all = count_is begun out.contents (flat_map ended news) written.buffer so_far.text in
          let too_long : IsChangeCause change headers before next.line kind =
          subst (λ (k : StoredKeyKind). IsChangeCause change headers before next.line k) (sym stops.1)
          (inr (news, new, so_far.become, next.becomes, omega (arith, stops.2, all))) in
          let text = subst (λ (w : WrittenState). IsBuffered begun out.contents (flat_map ended news) w.buffer) (sym stops.3) so_far.text in (
            before,
            news,
            line_fault change headers start before next.line after now number kind next.read too_long (stops.0 ∙ ap suc so_far.count),
            so_far.become,
            subst (λ (s : SinkState). IsBuffered begun s.contents (flat_map ended news) held.buffer) (sym stops.4) text,
          )
      change_not_written held sink _ stops = absurd stops

  -- ---- The end

  module _ (start begun : Option (List ℕ)) (input : SourceState) (out : SinkState) (buffer : BufferState) where
    -- the new lines of some first lines did not go out whole
    first_lines : (now : SinkState) (written : ℕ) (before news : List (List ℕ)) → IfSome start (λ bytes. (rest : List (List ℕ)) × (lines_of bytes ≡ before ++ rest))
        → LinesBecomeAfter change headers before news → PartWentOut begun now.contents (flat_map ended news) written
        → IfSome start (λ bytes. WritesChanged {A = KeySizes} change headers bytes input.remaining begun now.contents (Err (Write written)))
    first_lines now written before news first become part = go start first
      where
        go : (s : Option (List ℕ)) → IfSome s (λ bytes. (rest : List (List ℕ)) × (lines_of bytes ≡ before ++ rest))
            → IfSome s (λ bytes. WritesChanged {A = KeySizes} change headers bytes input.remaining begun now.contents (Err (Write written)))
        go None first = tt
        go (Some bytes) first = (before, news, first.0, first.1, become, part)

    -- the writer had failed
    write_failed : (end : Result KeySizes RunFault) → ChangesRest change headers start begun input buffer out end → ended_by_output end ≡ true
        → IfSome start (λ bytes. WritesChanged {A = KeySizes} change headers bytes input.remaining begun out.contents end)
    write_failed (Ok x) rest write = let never : ⊥ = cc in absurd never
    write_failed (Err (StoredKey number kind)) rest write = let never : ⊥ = cc in absurd never
    write_failed (Err (Write written)) rest write = first_lines out written rest.0 rest.1 rest.2 rest.3 rest.4
    write_failed (Err _) rest write = absurd rest

    -- what waited did not go out whole
    part_flushed : (now : SinkState) (written : ℕ) → ((text : List ℕ) → IsBuffered begun out.contents text buffer → PartWentOut begun now.contents text written)
        → (end : Result KeySizes RunFault) → ChangesRest change headers start begun input buffer out end → ended_by_output end ≡ false
        → IfSome start (λ bytes. WritesChanged {A = KeySizes} change headers bytes input.remaining begun now.contents (Err (Write written)))
    part_flushed now written flush (Ok x) rest no_write =
        first_lines now written rest.0 rest.1 (of_all start rest.0 rest.2) rest.3 (flush (flat_map ended rest.1) rest.4)
    part_flushed now written flush (Err (StoredKey number kind)) rest no_write =
        first_lines now written rest.0 rest.1 (of_fault change headers start input.remaining rest.0 number kind rest.2) rest.3
        (flush (flat_map ended rest.1) rest.4)
    part_flushed now written flush (Err (Write count)) rest no_write = let never : ⊥ = cc in absurd never
    part_flushed now written flush (Err _) rest no_write = absurd rest

    -- it did
    whole_flushed : (now : SinkState) → ((text : List ℕ) → IsBuffered begun out.contents text buffer → Appends begun now.contents text)
        → (end : Result KeySizes RunFault) → ChangesRest change headers start begun input buffer out end → ended_by_output end ≡ false
        → IfSome start (λ bytes. WritesChanged {A = KeySizes} change headers bytes input.remaining begun now.contents end)
    whole_flushed now flush (Ok x) rest no_write = go start rest.2
      where
        go : (s : Option (List ℕ)) → IfSome s (λ bytes. lines_of bytes ≡ rest.0)
            → IfSome s (λ bytes. WritesChanged {A = KeySizes} change headers bytes input.remaining begun now.contents (Ok x))
        go None all = tt
        go (Some bytes) all = (rest.1, subst (λ (ls : List (List ℕ)). LinesBecomeAfter change headers ls rest.1) (sym all) rest.3, flush (flat_map ended rest.1) rest.4)
    whole_flushed now flush (Err (StoredKey number kind)) rest no_write = go start rest.2
      where
        go : (s : Option (List ℕ)) → IfSome s (λ bytes. IsLineFault change headers bytes input.remaining rest.0 number kind)
            → IfSome s (λ bytes. WritesChanged {A = KeySizes} change headers bytes input.remaining begun now.contents (Err (StoredKey number kind)))
        go None fault = tt
        go (Some bytes) fault = (rest.0, rest.1, fault, rest.3, flush (flat_map ended rest.1) rest.4)
    whole_flushed now flush (Err (Write written)) rest no_write = let never : ⊥ = cc in absurd never
    whole_flushed now flush (Err _) rest no_write = absurd rest

    -- what is returned and left at the end
    pub ends_changed : (now : SinkState) (end result : Result KeySizes RunFault) → ChangesRest change headers start begun input buffer out end
        → EndsIf (ended_by_output end) buffer out now end result
        → IfSome start (λ bytes. WritesChanged change headers bytes input.remaining begun now.contents result)
    ends_changed now end result rest ends = go (ended_by_output end) refl ends
      where
        go : (b : Bool) → ended_by_output end ≡ b → EndsIf b buffer out now end result
            → IfSome start (λ bytes. WritesChanged change headers bytes input.remaining begun now.contents result)
        go true write ended =
            subst₂ (λ (r : Result KeySizes RunFault) (s : SinkState). IfSome start (λ bytes. WritesChanged change headers bytes input.remaining begun s.contents r))
            (sym ended.0) (sym ended.1) (write_failed end rest write)
        go false no_write (inl whole) =
            subst (λ (r : Result KeySizes RunFault). IfSome start (λ bytes. WritesChanged change headers bytes input.remaining begun now.contents r))
            (sym whole.0) (whole_flushed now (whole.1 begun) end rest no_write)
        go false no_write (inr part) =
            subst (λ (r : Result KeySizes RunFault). IfSome start (λ bytes. WritesChanged change headers bytes input.remaining begun now.contents r))
            (sym part.1) (part_flushed now part.0 (part.2 begun) end rest no_write)

-- ---- The beginning, with a header and without one

module _ (change : KeyChange) (lines : LinesState) (input : SourceState) (written : WrittenState) (out : SinkState) (begun : IsBegun lines written) where
  -- nothing was read and nothing written
  pub changes_begun : HasChanged change None input.remaining out.contents [] [] lines input written out
  changes_begun = record {
    read = nothing_read input.remaining lines begun.pending begun.at_end;
    become = tt;
    text = none_buffered out.contents written.buffer begun.held begun.count;
    count = begun.number;
  }

  -- the header was read, and nothing written
  pub header_read : (header : List ℕ) (after : LinesState) (now : SourceState)
      → ((start : Option (List ℕ)) → HasRead start [] lines input → HasRead start (header ∷ []) after now)
      → HasReadHeader header input.remaining out.contents after now written out
  header_read header after now reads = record {
    read = reads input.remaining (nothing_read input.remaining lines begun.pending begun.at_end);
    text = none_buffered out.contents written.buffer begun.held begun.count;
    count = begun.number;
  }

module _ (change : KeyChange) (old to : List ℕ) (start begun : Option (List ℕ)) (lines : LinesState) (input : SourceState)
    (written held : WrittenState) (out sink : SinkState) (read : HasReadHeader old start begun lines input written out) where
  -- the new header was written
  pub new_header_written : HasWrittenThrough (ended to) written.buffer held.buffer out sink → held.number ≡ written.number + 1
      → HasChanged change (Some (header_pair old to)) start begun (old ∷ []) (to ∷ []) lines input held sink
  new_header_written writes number = record {
    read = read.read;
    become = (refl, refl, tt);
    text = subst (λ (text : List ℕ). IsBuffered begun sink.contents text held.buffer) (sym (append-nil (ended to))) (writes.writes begun [] read.text);
    count = omega (arith, number, read.count);
  }

  -- it was not
  pub new_header_not_written : (fault : RunFault) → length to ≤ 128 → WritesLine {A = Unit {0}} to written held out sink (Err fault)
      → ChangesRest {A = KeySizes} change (Some (header_pair old to)) start begun input held.buffer sink (Err fault)
  new_header_not_written (Write count) short stops = (
    old ∷ [],
    to ∷ [],
    begins_with start (old ∷ []) lines input read.read,
    (refl, refl, tt),
    subst (λ (text : List ℕ). PartWentOut begun sink.contents text count) (sym (append-nil (ended to))) (piece_fails begun [] stops read.text),
  )
  new_header_not_written (StoredKey number kind) short stops =
      absurd (omega (arith, short, stops.2, count_is begun out.contents [] written.buffer read.text, length-append to (10 ∷ [])))
  new_header_not_written _ short stops = absurd stops

-- ---- What a run returns

module _ (change : KeyChange) (input input_new : SourceState) (out out_new : SinkState) where
  -- it ended by its lines
  pub runs_change : {A : Type 0} (result : Result A RunFault)
      → IfSome input.remaining (λ bytes. WritesChanged change None bytes input_new.remaining out.contents out_new.contents result)
      → RunsChange change None input input_new out out_new result
  runs_change (Ok x) writes = writes
  runs_change (Err Memory) writes = tt
  runs_change (Err _) writes = writes

  module _ (headers : Headers) where
    -- what is written after a header is written by a run with a header
    after_header : {A : Type 0} (bytes : List ℕ) (result : Result A RunFault)
        → WritesChanged change (Some headers) bytes input_new.remaining out.contents out_new.contents result
        → WritesAfterHeader change headers bytes input_new.remaining out.contents out_new.contents result
    after_header bytes (Ok x) writes = writes
    after_header bytes (Err (StoredKey number kind)) writes = inr writes
    after_header bytes (Err _) writes = writes

    after_header_known : {A : Type 0} (start : Option (List ℕ)) (result : Result A RunFault)
        → IfSome start (λ bytes. WritesChanged change (Some headers) bytes input_new.remaining out.contents out_new.contents result)
        → IfSome start (λ bytes. WritesAfterHeader change headers bytes input_new.remaining out.contents out_new.contents result)
    after_header_known None result writes = tt
    after_header_known (Some bytes) result writes = after_header bytes result writes

    -- it ended by its lines, after the header
    pub runs_after_header : {A : Type 0} (result : Result A RunFault)
        → IfSome input.remaining (λ bytes. WritesChanged change (Some headers) bytes input_new.remaining out.contents out_new.contents result)
        → RunsChange change (Some headers) input input_new out out_new result
    runs_after_header {A} (Ok x) writes = after_header_known {A = A} input.remaining (Ok x) writes
    runs_after_header {A} (Err Memory) writes = tt
    runs_after_header {A} (Err (StoredKey number kind)) writes = after_header_known {A = A} input.remaining (Err (StoredKey number kind)) writes
    runs_after_header {A} (Err (Write written)) writes = after_header_known {A = A} input.remaining (Err (Write written)) writes
    runs_after_header {A} (Err fault) writes = after_header_known {A = A} input.remaining (Err fault) writes

-- the first line is not the header, or is not read
pub runs_without_header : (change : KeyChange) (headers : Headers) (kind : StoredKeyKind) (input input_new : SourceState) (out : SinkState)
    → IfSome input.remaining (λ bytes. HasHeaderCause headers.old bytes input_new.remaining (lines_of bytes) kind)
    → RunsChange {A = KeySizes} change (Some headers) input input_new out out (Err (StoredKey 1 kind))
runs_without_header change headers kind input input_new out cause = go input.remaining cause
  where
    go : (start : Option (List ℕ)) → IfSome start (λ bytes. HasHeaderCause headers.old bytes input_new.remaining (lines_of bytes) kind)
        → IfSome start (λ bytes. WritesAfterHeader {A = KeySizes} change headers bytes input_new.remaining out.contents out.contents (Err (StoredKey 1 kind)))
    go None cause = tt
    go (Some bytes) cause = inl (refl, cause, refl)

-- ---- What expands

-- bytes are the compact key of a key, or of none
pub key_or_none : {A : Type 0} (None_ : Type 0) (Key : List ℕ → Type 0) (new : List ℕ) (result : Result Bool A) → IfOk result (λ found. MatchBool found (Key new) None_)
    → IfOk result (λ found. MatchOption (if found then Some new else None) None_ Key)
key_or_none None_ Key new (Ok true) is = is
key_or_none None_ Key new (Ok false) is = is
key_or_none None_ Key new (Err e) is = tt
