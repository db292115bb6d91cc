-- The lines that were read so far, and the next one.
use Rattle.std.proofs.Common.{◌≡◌, ℕ, suc, ◌^◌, ◌<◌, Bool, true, false, List, [], ◌∷◌, ◌++◌, length, Option, Some, None, IfSome, Err, inl, refl, ap, sym, subst, ◌∙◌, append_assoc, append-nil, arith}
use Rattle.std.specs.Prelude.{MatchBool, ⊤}
use Rattle.std.specs.Io.KnownBytes.{Consumes, IsAtEnd, prepend_known}
use Rattle.std.specs.List.{flat_map, position_or_len}
use Rattle.std.proofs.lemmas.Bool.{MatchBool-at_false}
use Rattle.std.proofs.lemmas.Grind.{flat_map-append}
use Rattle.uca_weights.specs.Streams.{SourceState}
use Rattle.uca_lines.specs.Lines.{is_lf, Lacks, ended, lines_of}
use Rattle.uca_run_parts.specs.declared.faults.StoredKeyKind.{StoredKeyKind}
use Rattle.uca_run_parts.specs.declared.faults.StoredKeyKind.TheVariants as kinds
use Rattle.uca_run_parts.specs.Input.{is_stored_key_read}
use Rattle.uca_run_parts.specs.LinesSoFar.{OnKnown}
use Rattle.uca_run_parts.proofs.LineCuts.{first_line, lines_of-ended, lines_of-last}
use Rattle.uca_rekey.specs.ChangedLines.{Headers, KeyChange}
use Rattle.uca_rekey.specs.ChangeRun.{Begins, HasCause, IsChangeCause, IsLineFault}
use Rattle.uca_rekey.specs.inside.LinesInPlace.{FindsLine, HasRead, HasReadCause, IsAfter, IsNotRead, LinesState, left_of}

-- ---- A line that is read

-- the bytes of one more line
more_parts : (before : List (List ℕ)) (left line rest : List ℕ) → left ≡ line ++ 10 ∷ rest → flat_map ended before ++ left ≡ flat_map ended (before ++ line ∷ []) ++ rest
more_parts before left line rest is = rw is (rw (flat_map-append ended before (line ∷ [])) (simp (append_assoc, append-nil)))

-- one more line
more_lines : (before later : List (List ℕ)) (line : List ℕ) → before ++ line ∷ later ≡ (before ++ line ∷ []) ++ later
more_lines before later line = sym (append_assoc before (line ∷ []) later)

-- a line, and the LF that ends it
ended_after : (bytes left : List ℕ) (at_end : Bool) (before : List (List ℕ)) (line rest : List ℕ) → IsAfter bytes left at_end before → at_end ≡ false
    → left ≡ ended line ++ rest → Lacks is_lf line → IsAfter bytes rest false (before ++ line ∷ [])
ended_after bytes left at_end before line rest a more is lacks =
    let whole : left ≡ line ++ 10 ∷ rest = is ∙ append_assoc line (10 ∷ []) rest in
    record {
      parts = MatchBool-at_false _ _ more a.parts ∙ more_parts before left line rest whole;
      lines = a.lines ∙ ap (λ l. before ++ lines_of l) whole ∙ ap (λ ls. before ++ ls) (lines_of-ended line rest lacks) ∙ more_lines before (lines_of rest) line;
    }

-- a last line, which no LF ends
cut_after : (bytes left : List ℕ) (at_end : Bool) (before : List (List ℕ)) (line rest : List ℕ) → IsAfter bytes left at_end before
    → left ≡ line ++ rest → Lacks is_lf line → rest ≡ [] → 0 < length line → IsAfter bytes rest true (before ++ line ∷ [])
cut_after bytes left at_end before [] rest a is lacks none some = absurd (omega arith)
cut_after bytes left at_end before (b ∷ line) rest a is lacks none some =
    let whole : left ≡ b ∷ line = is ∙ ap (λ xs. (b ∷ line) ++ xs) none ∙ append-nil (b ∷ line) in
    let cut : lines_of left ≡ (b ∷ line) ∷ lines_of rest =
    ap lines_of whole ∙ lines_of-last b line lacks ∙ ap (λ xs. (b ∷ line) ∷ lines_of xs) (sym none) in
    record { parts = none; lines = a.lines ∙ ap (λ ls. before ++ ls) cut ∙ more_lines before (lines_of rest) (b ∷ line) }

module _ (start old : Option (List ℕ)) (at_end : Bool) (before : List (List ℕ)) (read : OnKnown start old (λ bytes left. IsAfter bytes left at_end before)) where
  -- a line was found
  pub line_read : (new : Option (List ℕ)) (ends : Bool) (line : List ℕ) → at_end ≡ false → ends ≡ false → Consumes old new (ended line) × Lacks is_lf line
      → OnKnown start new (λ bytes left. IsAfter bytes left ends (before ++ line ∷ []))
  line_read new ends line more more_now found = go start old new read found.0
    where
      go : (s o n : Option (List ℕ)) → OnKnown s o (λ bytes left. IsAfter bytes left at_end before) → Consumes o n (ended line)
          → OnKnown s n (λ bytes left. IsAfter bytes left ends (before ++ line ∷ []))
      go None o n after takes = tt
      go (Some bytes) None n after takes = absurd after
      go (Some bytes) (Some xs) None after takes = absurd takes
      go (Some bytes) (Some xs) (Some ys) after takes =
          subst (λ (e : Bool). IsAfter bytes ys e (before ++ line ∷ [])) (sym more_now) (ended_after bytes xs at_end before line ys after more takes found.1)

  -- a last line was
  pub last_read : (new : Option (List ℕ)) (ends : Bool) (line : List ℕ) → ends ≡ true → Consumes old new line × Lacks is_lf line × IsAtEnd new × (0 < length line)
      → OnKnown start new (λ bytes left. IsAfter bytes left ends (before ++ line ∷ []))
  last_read new ends line end found = go start old new read found.0 found.2
    where
      go : (s o n : Option (List ℕ)) → OnKnown s o (λ bytes left. IsAfter bytes left at_end before) → Consumes o n line → IsAtEnd n
          → OnKnown s n (λ bytes left. IsAfter bytes left ends (before ++ line ∷ []))
      go None o n after takes none = tt
      go (Some bytes) None n after takes none = absurd after
      go (Some bytes) (Some xs) None after takes none = absurd takes
      go (Some bytes) (Some xs) (Some ys) after takes none =
          subst (λ (e : Bool). IsAfter bytes ys e (before ++ line ∷ [])) (sym end) (cut_after bytes xs at_end before line ys after takes found.1 none found.3)

-- ---- A line that is not read

-- the first line of some bytes
begins : (xs : List ℕ) (P : List ℕ → Type 0) → 0 < length xs → ((line : List ℕ) → length line ≡ position_or_len is_lf xs → P line) → Begins (lines_of xs) P
begins [] P some holds = absurd (omega arith)
begins (b ∷ bytes) P some holds =
    let f = first_line b bytes in
    subst (λ (ls : List (List ℕ)). Begins ls P) (sym f.lines) (holds f.line f.long)

-- what is longer than a line is some bytes
longer_some : (xs : List ℕ) (n : ℕ) → n < position_or_len is_lf xs → 0 < length xs
longer_some [] n long = absurd (omega arith)
longer_some (b ∷ bytes) n long = omega arith

cause_found : (bytes xs : List ℕ) (at_end : Bool) (new unread : Option (List ℕ)) (before : List (List ℕ)) (line : List ℕ) (kind : StoredKeyKind)
    → IsAfter bytes xs at_end before → at_end ≡ false → FindsLine (Some xs) new unread line (Err kind) → HasReadCause bytes unread before (lines_of xs) kind
cause_found bytes xs at_end new unread before line kinds.TooLong after more found =
    begins xs (λ line. 2 ^ 30 < length line) (longer_some xs (2 ^ 30) found) (λ first long. omega (arith, long, found))
cause_found bytes xs at_end new None before line kinds.Read after more found = absurd found.1
cause_found bytes xs at_end new (Some ys) before line kinds.Read after more found = record {
  part = found.0;
  parts = MatchBool-at_false _ _ more after.parts ∙ ap (λ text. flat_map ended before ++ text) found.1;
  lacks = found.2;
}
cause_found bytes xs at_end new unread before line kinds.Memory after more found = begins xs (λ line. ⊤) found (λ first long. tt)
cause_found bytes xs at_end new unread before line kinds.NoKey after more found = absurd found
cause_found bytes xs at_end new unread before line kinds.NoImage after more found = absurd found
cause_found bytes xs at_end new unread before line kinds.OtherKey after more found = absurd found
cause_found bytes xs at_end new unread before line kinds.NoCompactKey after more found = absurd found
cause_found bytes xs at_end new unread before line kinds.Header after more found = absurd found

-- why no line was found
pub not_read : (start old new unread : Option (List ℕ)) (at_end : Bool) (before : List (List ℕ)) (line : List ℕ) (kind : StoredKeyKind)
    → OnKnown start old (λ bytes left. IsAfter bytes left at_end before) → at_end ≡ false → FindsLine old new unread line (Err kind)
    → IfSome start (λ bytes. IsNotRead bytes unread before kind)
not_read None old new unread at_end before line kind after more found = tt
not_read (Some bytes) None new unread at_end before line kind after more found = absurd after
not_read (Some bytes) (Some xs) new unread at_end before line kind after more found = record {
  rest = lines_of xs;
  lines = after.lines;
  cause = cause_found bytes xs at_end new unread before line kind after more found;
}

-- ---- The error of a line

module _ (change : KeyChange) (headers : Option Headers) where
  long_line : (before rest : List (List ℕ)) → Begins rest (λ line. 2 ^ 30 < length line) → Begins rest (λ line. IsChangeCause change headers before line kinds.TooLong)
  long_line before [] long = absurd long
  long_line before (line ∷ later) long = inl long

  no_memory : (before rest : List (List ℕ)) → Begins rest (λ line. ⊤) → Begins rest (λ line. IsChangeCause change headers before line kinds.Memory)
  no_memory before [] some = absurd some
  no_memory before (line ∷ later) some = tt

  unread_cause : (bytes : List ℕ) (left : Option (List ℕ)) (before rest : List (List ℕ)) (kind : StoredKeyKind)
      → HasReadCause bytes left before rest kind → HasCause change headers bytes left before rest kind
  unread_cause bytes left before rest kinds.TooLong cause = long_line before rest cause
  unread_cause bytes left before rest kinds.Read cause = cause
  unread_cause bytes left before rest kinds.Memory cause = no_memory before rest cause
  unread_cause bytes left before rest kinds.NoKey cause = absurd cause
  unread_cause bytes left before rest kinds.NoImage cause = absurd cause
  unread_cause bytes left before rest kinds.OtherKey cause = absurd cause
  unread_cause bytes left before rest kinds.NoCompactKey cause = absurd cause
  unread_cause bytes left before rest kinds.Header cause = absurd cause

  -- a line that is not read
  pub unread_fault : (start left : Option (List ℕ)) (before : List (List ℕ)) (number : ℕ) (kind : StoredKeyKind) → number ≡ suc (length before)
      → IfSome start (λ bytes. IsNotRead bytes left before kind) → IfSome start (λ bytes. IsLineFault change headers bytes left before number kind)
  unread_fault None left before number kind place unread = tt
  unread_fault (Some bytes) left before number kind place unread = record {
    rest = unread.rest;
    lines = unread.lines;
    place = place;
    cause = unread_cause bytes left before unread.rest kind unread.cause;
  }

  cause_there : (bytes : List ℕ) (left : Option (List ℕ)) (before later : List (List ℕ)) (line : List ℕ) (kind : StoredKeyKind) → IsChangeCause change headers before line kind
      → HasCause change headers bytes left before (line ∷ later) kind
  cause_there bytes left before later line kinds.NoKey cause = cause
  cause_there bytes left before later line kinds.NoImage cause = cause
  cause_there bytes left before later line kinds.OtherKey cause = cause
  cause_there bytes left before later line kinds.NoCompactKey cause = cause
  cause_there bytes left before later line kinds.Header cause = cause
  cause_there bytes left before later line kinds.TooLong cause = cause
  cause_there bytes left before later line kinds.Read cause = absurd cause
  cause_there bytes left before later line kinds.Memory cause = cause

  -- no cause of a line is the reader's
  pub cause_of_line : (before : List (List ℕ)) (line : List ℕ) (kind : StoredKeyKind) → IsChangeCause change headers before line kind → is_stored_key_read kind ≡ false
  cause_of_line before line kinds.NoKey cause = refl
  cause_of_line before line kinds.NoImage cause = refl
  cause_of_line before line kinds.OtherKey cause = refl
  cause_of_line before line kinds.NoCompactKey cause = refl
  cause_of_line before line kinds.Header cause = refl
  cause_of_line before line kinds.TooLong cause = refl
  cause_of_line before line kinds.Read cause = absurd cause
  cause_of_line before line kinds.Memory cause = refl

  -- the line that was read has a cause
  pub line_fault : (start : Option (List ℕ)) (before : List (List ℕ)) (line : List ℕ) (lines : LinesState) (input : SourceState) (number : ℕ) (kind : StoredKeyKind)
      → HasRead start (before ++ line ∷ []) lines input → IsChangeCause change headers before line kind → number ≡ suc (length before)
      → IfSome start (λ bytes. IsLineFault change headers bytes input.remaining before number kind)
  line_fault start before line lines input number kind read cause place = go start (left_of lines input) read
    where
      go : (s o : Option (List ℕ)) → OnKnown s o (λ bytes left. IsAfter bytes left lines.at_end (before ++ line ∷ []))
          → IfSome s (λ bytes. IsLineFault change headers bytes input.remaining before number kind)
      go None o after = tt
      go (Some bytes) None after = absurd after
      go (Some bytes) (Some xs) after = record {
        rest = line ∷ lines_of xs;
        lines = after.lines ∙ append_assoc before (line ∷ []) (lines_of xs);
        place = place;
        cause = cause_there bytes input.remaining before (lines_of xs) line kind cause;
      }

-- some lines come first
pub begins_with : (start : Option (List ℕ)) (before : List (List ℕ)) (lines : LinesState) (input : SourceState) → HasRead start before lines input
    → IfSome start (λ bytes. (rest : List (List ℕ)) × (lines_of bytes ≡ before ++ rest))
begins_with start before lines input read = go start (left_of lines input) read
  where
    go : (s o : Option (List ℕ)) → OnKnown s o (λ bytes left. IsAfter bytes left lines.at_end before) → IfSome s (λ bytes. (rest : List (List ℕ)) × (lines_of bytes ≡ before ++ rest))
    go None o after = tt
    go (Some bytes) None after = absurd after
    go (Some bytes) (Some xs) after = (lines_of xs, after.lines)

-- nothing was read
pub nothing_read : (known : Option (List ℕ)) (lines : LinesState) → lines.pending ≡ [] → lines.at_end ≡ false
    → OnKnown known (prepend_known lines.pending known) (λ bytes left. IsAfter bytes left lines.at_end [])
nothing_read None lines pending at_end = tt
nothing_read (Some xs) lines pending at_end =
    let none : xs ≡ lines.pending ++ xs = ap (λ l. l ++ xs) (sym pending) in
    record {
      parts = subst (λ (e : Bool). MatchBool e (lines.pending ++ xs ≡ []) (xs ≡ lines.pending ++ xs)) (sym at_end) none;
      lines = ap lines_of none;
    }

-- ---- All lines, and those before an error

-- all lines are some first lines
pub of_all : (start : Option (List ℕ)) (before : List (List ℕ)) → IfSome start (λ bytes. lines_of bytes ≡ before)
    → IfSome start (λ bytes. (rest : List (List ℕ)) × (lines_of bytes ≡ before ++ rest))
of_all None before all = tt
of_all (Some bytes) before all = ([], all ∙ sym (append-nil before))

-- so are the lines before an error
pub of_fault : (change : KeyChange) (headers : Option Headers) (start left : Option (List ℕ)) (before : List (List ℕ)) (number : ℕ) (kind : StoredKeyKind)
    → IfSome start (λ bytes. IsLineFault change headers bytes left before number kind) → IfSome start (λ bytes. (rest : List (List ℕ)) × (lines_of bytes ≡ before ++ rest))
of_fault change headers None left before number kind fault = tt
of_fault change headers (Some bytes) left before number kind fault = (fault.rest, fault.lines)
