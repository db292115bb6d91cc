-- The lines of an input that were read so far, and the next one.
use Rattle.std.proofs.Common.{◌≡◌, ℕ, suc, ◌+◌, ◌<◌, ◌≤◌, Bool, true, false, List, [], ◌∷◌, ◌++◌, length, Option, Some, None, IfSome, IsSomeAnd, Err, refl, ap, arith, subst, sym, ◌∙◌, append_assoc, append-nil, length-append}
use Rattle.std.specs.Io.KnownBytes.{Consumes, IsAtEnd, prepend_known}
use Rattle.std.specs.List.{flat_map, position_or_len}
use Rattle.std.proofs.lemmas.Grind.{flat_map-append}
use Rattle.uca_lines.specs.Lines.{is_lf, Lacks, ended, lines_of}
use Rattle.uca_lines.specs.NextLine.{SaysOfBytes, IsWithinLimit}
use Rattle.uca_lines.specs.declared.lines.LineFault.{LineFault}
use Rattle.uca_lines.specs.declared.lines.LineFault.TheVariants as line_fault
use Rattle.uca_text.specs.Texts.{NfdText}
use Rattle.uca_run_parts.specs.declared.faults.InputKind.{InputKind}
use Rattle.uca_run_parts.specs.declared.faults.InputKind.TheVariants.{Utf8, TooLong, LongRun, Read, Limit, Memory}
use Rattle.uca_run_parts.specs.Input.{cause_of, clean_from}
use Rattle.uca_run_parts.specs.LinesSoFar.{IsAfter, IsNext, OnKnown}
use Rattle.uca_run_parts.specs.Runs.{FailsAfter, HasLineCause, HasCause, IsInputFault}
use Rattle.uca_run_parts.specs.Texts.{HasTextCause, line_kind}
use Rattle.uca_run_parts.proofs.Causes.{beyond_limit, too_many_bytes}
use Rattle.uca_run_parts.proofs.LineCuts.{first_line, lines_of-ended, lines_of-last, some_line}

-- ---- The next line

-- the bytes of one more line
more_parts : (before : List (List ℕ)) (left line rest : List ℕ) → left ≡ line ++ 10 ∷ rest → flat_map ended before ++ left ≡ flat_map ended (before ++ line ∷ []) ++ rest
more_parts before left line rest is = rw is (rw (flat_map-append ended before (line ∷ [])) (simp (append_assoc, append-nil)))

-- a line, and the LF that ends it
ended_next : (read_of : List ℕ → NfdText) (bytes left : List ℕ) (before : List (List ℕ)) (line rest : List ℕ)
    → IsAfter read_of bytes left false before → left ≡ ended line ++ rest → Lacks is_lf line → IsNext read_of bytes rest false before line
ended_next read_of bytes left before line rest a is lacks =
    let whole : left ≡ line ++ 10 ∷ rest = is ∙ append_assoc line (10 ∷ []) rest in
    let cut : lines_of left ≡ line ∷ lines_of rest = ap lines_of whole ∙ lines_of-ended line rest lacks in
    record {
      parts = a.parts ∙ more_parts before left line rest whole;
      lines = a.lines ∙ ap (λ ls. before ++ ls) cut;
      clean = a.clean ∙ ap (λ ls. before ++ clean_from read_of (length before) ls) cut;
    }

-- a last line, which no LF ends
cut_next : (read_of : List ℕ → NfdText) (bytes left : List ℕ) (before : List (List ℕ)) (line rest : List ℕ)
    → IsAfter read_of bytes left false before → left ≡ line ++ rest → rest ≡ [] → 0 < length line → Lacks is_lf line → IsNext read_of bytes rest true before line
cut_next read_of bytes left before [] rest a is none some lacks = absurd (omega arith)
cut_next read_of bytes left before (b ∷ line) rest a is none some lacks =
    let whole : left ≡ b ∷ line = is ∙ ap (λ xs. (b ∷ line) ++ xs) none ∙ append-nil (b ∷ line) in
    let cut : lines_of left ≡ (b ∷ line) ∷ lines_of rest =
    ap lines_of whole ∙ lines_of-last b line lacks ∙ ap (λ xs. (b ∷ line) ∷ lines_of xs) (sym none) in
    record {
      parts = none;
      lines = a.lines ∙ ap (λ ls. before ++ ls) cut;
      clean = a.clean ∙ ap (λ ls. before ++ clean_from read_of (length before) ls) cut;
    }

clean_more : (read_of : List ℕ → NfdText) (n : ℕ) (line : List ℕ) (lines : List (List ℕ)) → cause_of read_of n line ≡ None → clean_from read_of n (line ∷ lines) ≡ line ∷ clean_from read_of (n + 1) lines
clean_more read_of n line lines h = rw h refl

more_clean : (read_of : List ℕ → NfdText) (before : List (List ℕ)) (line : List ℕ) (lines : List (List ℕ)) → cause_of read_of (length before) line ≡ None → before ++ clean_from read_of (length before) (line ∷ lines) ≡ (before ++ line ∷ []) ++ clean_from read_of (length (before ++ line ∷ [])) lines
more_clean read_of before line lines clean =
    rw (clean_more read_of (length before) line lines clean, length-append before (line ∷ [])) (sym (append_assoc before (line ∷ []) (clean_from read_of (length before + 1) lines)))

-- the next line has no error
next_clean : (read_of : List ℕ → NfdText) (bytes left : List ℕ) (before : List (List ℕ)) (line : List ℕ) (is_cut : Bool)
    → IsNext read_of bytes left is_cut before line → cause_of read_of (length before) line ≡ None → IsAfter read_of bytes left is_cut (before ++ line ∷ [])
next_clean read_of bytes left before line is_cut n clean = record {
  parts = n.parts;
  lines = n.lines ∙ sym (append_assoc before (line ∷ []) (lines_of left));
  clean = n.clean ∙ more_clean read_of before line (lines_of left) clean;
}

-- it gives no text
next_error : (read_of : List ℕ → NfdText) (bytes left : List ℕ) (unread : Option (List ℕ)) (before : List (List ℕ)) (line : List ℕ) (is_cut : Bool) (kind : InputKind)
    → IsNext read_of bytes left is_cut before line → HasCause read_of bytes unread before (line ∷ lines_of left) kind
    → IsInputFault read_of bytes unread before (suc (length before)) kind
next_error read_of bytes left unread before line is_cut kind n cause = record {
  rest = line ∷ lines_of left;
  lines = n.lines;
  place = refl;
  clean = (clean_from read_of (length before) (line ∷ lines_of left), n.clean);
  cause = cause;
}

-- why it gives none
text_error : (read_of : List ℕ → NfdText) (bytes : List ℕ) (unread : Option (List ℕ)) (before : List (List ℕ)) (line : List ℕ) (later : List (List ℕ)) (kind : InputKind)
    → HasTextCause read_of (length before) line kind → HasCause read_of bytes unread before (line ∷ later) kind
text_error read_of bytes unread before line later Utf8 cause = record { line = line; later = later; next = refl; cause = cause }
text_error read_of bytes unread before line later TooLong cause = record { line = line; later = later; next = refl; cause = cause }
text_error read_of bytes unread before line later (LongRun place) cause = record { line = line; later = later; next = refl; cause = cause }
text_error read_of bytes unread before line later Limit cause = absurd cause
text_error read_of bytes unread before line later Read cause = absurd cause
text_error read_of bytes unread before line later Memory cause = λ none. cc

-- ---- A line that is not read

-- the first line of what is left has a cause
first_cause : (read_of : List ℕ → NfdText) (before : List (List ℕ)) (xs : List ℕ) (kind : InputKind)
    → 0 < length xs → ((line : List ℕ) → length line ≡ position_or_len is_lf xs → cause_of read_of (length before) line ≡ Some kind)
    → HasLineCause read_of before (lines_of xs) kind
first_cause read_of before [] kind some cause = absurd (omega arith)
first_cause read_of before (b ∷ bytes) kind some cause =
    let f = first_line b bytes in
    record { line = f.line; later = f.later; next = f.lines; cause = cause f.line f.long }

-- what is longer than a line is some bytes
longer_some : (xs : List ℕ) (n : ℕ) → n < position_or_len is_lf xs → 0 < length xs
longer_some [] n long = absurd (omega arith)
longer_some (b ∷ bytes) n long = omega arith

-- reading failed in the middle of a line
read_failed : (read_of : List ℕ → NfdText) (bytes xs : List ℕ) (before : List (List ℕ)) (line : List ℕ) (unread : Option (List ℕ))
    → IsAfter read_of bytes xs false before → Consumes (Some xs) (prepend_known [] unread) line → Lacks is_lf line → length line ≤ 4194304
    → IsSomeAnd unread (λ rest. FailsAfter bytes rest before)
read_failed read_of bytes xs before line None a takes lacks short = absurd takes
read_failed read_of bytes xs before line (Some ys) a takes lacks short = record {
  part = line;
  parts = a.parts ∙ ap (λ text. flat_map ended before ++ text) takes;
  lacks = lacks;
  short = short;
}

line_cause : (read_of : List ℕ → NfdText) (bytes xs : List ℕ) (new unread : Option (List ℕ)) (before : List (List ℕ)) (line : List ℕ) (fault : LineFault)
    → IsAfter read_of bytes xs false before → SaysOfBytes (Some xs) new line 4194304 (Err fault) → IsWithinLimit (length before) (Err fault)
    → Lacks is_lf line → length line ≤ 4194304 → (fault ≡ line_fault.Read → new ≡ prepend_known [] unread)
    → HasCause read_of bytes unread before (lines_of xs) (line_kind fault)
line_cause read_of bytes xs new unread before line line_fault.TooLong a says within lacks short read =
    first_cause read_of before xs TooLong (longer_some xs 4194304 says.1) (λ first long. too_many_bytes read_of (length before) first within (rw long says.1))
line_cause read_of bytes xs new unread before line line_fault.Limit a says within lacks short read =
    first_cause read_of before xs Limit says.1 (λ first long. beyond_limit read_of (length before) first within)
line_cause read_of bytes xs new unread before line line_fault.Read a says within lacks short read =
    read_failed read_of bytes xs before line unread a (subst (λ k. Consumes (Some xs) k line) (read refl) says) lacks short
line_cause read_of bytes xs new unread before line line_fault.Memory a says within lacks short read = some_line xs says.1

-- ---- Known bytes

pub known_ended : (read_of : List ℕ → NfdText) (start old new : Option (List ℕ)) (before : List (List ℕ)) (line : List ℕ)
    → OnKnown start old (λ bytes left. IsAfter read_of bytes left false before) → Consumes old new (ended line) → Lacks is_lf line
    → OnKnown start new (λ bytes left. IsNext read_of bytes left false before line)
known_ended read_of None old new before line after takes lacks = tt
known_ended read_of (Some bytes) None new before line after takes lacks = absurd after
known_ended read_of (Some bytes) (Some xs) None before line after takes lacks = absurd takes
known_ended read_of (Some bytes) (Some xs) (Some ys) before line after takes lacks = ended_next read_of bytes xs before line ys after takes lacks

pub known_cut : (read_of : List ℕ → NfdText) (start old new : Option (List ℕ)) (before : List (List ℕ)) (line : List ℕ)
    → OnKnown start old (λ bytes left. IsAfter read_of bytes left false before) → Consumes old new line × IsAtEnd new → 0 < length line → Lacks is_lf line
    → OnKnown start new (λ bytes left. IsNext read_of bytes left true before line)
known_cut read_of None old new before line after takes some lacks = tt
known_cut read_of (Some bytes) None new before line after takes some lacks = absurd after
known_cut read_of (Some bytes) (Some xs) None before line after takes some lacks = absurd takes.0
known_cut read_of (Some bytes) (Some xs) (Some ys) before line after takes some lacks = cut_next read_of bytes xs before line ys after takes.0 takes.1 some lacks

pub known_line_error : (read_of : List ℕ → NfdText) (start old new unread : Option (List ℕ)) (before : List (List ℕ)) (line : List ℕ) (fault : LineFault)
    → OnKnown start old (λ bytes left. IsAfter read_of bytes left false before) → SaysOfBytes old new line 4194304 (Err fault) → IsWithinLimit (length before) (Err fault)
    → Lacks is_lf line → length line ≤ 4194304 → (fault ≡ line_fault.Read → new ≡ prepend_known [] unread)
    → IfSome start (λ bytes. IsInputFault read_of bytes unread before (suc (length before)) (line_kind fault))
known_line_error read_of None old new unread before line fault after says within lacks short read = tt
known_line_error read_of (Some bytes) None new unread before line fault after says within lacks short read = absurd after
known_line_error read_of (Some bytes) (Some xs) new unread before line fault after says within lacks short read = record {
  rest = lines_of xs;
  lines = after.lines;
  place = refl;
  clean = (clean_from read_of (length before) (lines_of xs), after.clean);
  cause = line_cause read_of bytes xs new unread before line fault after says within lacks short read;
}

known_error : (read_of : List ℕ → NfdText) (start left unread : Option (List ℕ)) (before : List (List ℕ)) (line : List ℕ) (is_cut : Bool) (kind : InputKind)
    → OnKnown start left (λ bytes rest. IsNext read_of bytes rest is_cut before line) → ((bytes rest : List ℕ) → HasCause read_of bytes unread before (line ∷ lines_of rest) kind)
    → IfSome start (λ bytes. IsInputFault read_of bytes unread before (suc (length before)) kind)
known_error read_of None left unread before line is_cut kind next cause = tt
known_error read_of (Some bytes) None unread before line is_cut kind next cause = absurd next
known_error read_of (Some bytes) (Some rest) unread before line is_cut kind next cause =
    next_error read_of bytes rest unread before line is_cut kind next (cause bytes rest)

pub known_text_error : (read_of : List ℕ → NfdText) (start left unread : Option (List ℕ)) (before : List (List ℕ)) (line : List ℕ) (is_cut : Bool) (kind : InputKind)
    → OnKnown start left (λ bytes rest. IsNext read_of bytes rest is_cut before line) → HasTextCause read_of (length before) line kind
    → IfSome start (λ bytes. IsInputFault read_of bytes unread before (suc (length before)) kind)
known_text_error read_of start left unread before line is_cut kind next cause =
    known_error read_of start left unread before line is_cut kind next (λ bytes rest. text_error read_of bytes unread before line (lines_of rest) kind cause)

-- memory may run out at any line that was read
pub known_memory : (read_of : List ℕ → NfdText) (start left unread : Option (List ℕ)) (before : List (List ℕ)) (line : List ℕ) (is_cut : Bool)
    → OnKnown start left (λ bytes rest. IsNext read_of bytes rest is_cut before line)
    → IfSome start (λ bytes. IsInputFault read_of bytes unread before (suc (length before)) Memory)
known_memory read_of start left unread before line is_cut next =
    known_error read_of start left unread before line is_cut Memory next (λ bytes rest. λ none. cc)

pub known_clean : (read_of : List ℕ → NfdText) (start left : Option (List ℕ)) (before : List (List ℕ)) (line : List ℕ) (is_cut : Bool)
    → OnKnown start left (λ bytes rest. IsNext read_of bytes rest is_cut before line) → cause_of read_of (length before) line ≡ None
    → OnKnown start left (λ bytes rest. IsAfter read_of bytes rest is_cut (before ++ line ∷ []))
known_clean read_of None left before line is_cut next clean = tt
known_clean read_of (Some bytes) None before line is_cut next clean = next
known_clean read_of (Some bytes) (Some rest) before line is_cut next clean = next_clean read_of bytes rest before line is_cut next clean
