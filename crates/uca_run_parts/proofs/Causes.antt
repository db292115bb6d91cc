-- Which cause of an error a line of the input has, if it has one.
use Rattle.std.proofs.Common.{◌≡◌, ℕ, ◌<◌, ◌≤◌, List, length, Some, None, Bool, true, false, refl, ◌∙◌}
use Rattle.std.specs.Str.{IsUtf8, is_utf8}
use Rattle.std.proofs.lemmas.Bool.{lt-ltb, le-ltb, le-leb, lt-leb}
use Rattle.std.proofs.lemmas.Str.{IsUtf8-from_is_utf8, is_utf8-from_IsUtf8}
use Rattle.uca_text.specs.Texts.{NfdText}
use Rattle.uca_text.specs.Limits.{IsAccepted, IsFirstLongRun}
use Rattle.uca_run_parts.specs.declared.faults.InputKind.TheVariants.{Utf8, TooLong, LongRun, Limit}
use Rattle.uca_text.specs.Faults.{IsCause}
use Rattle.uca_text.specs.declared.normalize.TextFault.{TextFault}
use Rattle.uca_text.specs.declared.normalize.TextFault.TheVariants as text_fault
use Rattle.uca_run_parts.specs.Texts.{HasTextCause, text_kind}
use Rattle.uca_run_parts.specs.Input.{text_cause, cause_of}
use Rattle.uca_run_parts.proofs.LongRuns.{first_long_run_is, no_long_run_is}

pub beyond_limit : (read_of : List ℕ → NfdText) (before : ℕ) (line : List ℕ) → 1000000 ≤ before → cause_of read_of before line ≡ Some Limit
beyond_limit read_of before line h = rw (le-leb 1000000 before h) refl

pub too_many_bytes : (read_of : List ℕ → NfdText) (before : ℕ) (line : List ℕ) → before < 1000000 → 4194304 < length line → cause_of read_of before line ≡ Some TooLong
too_many_bytes read_of before line h long = rw (lt-leb 1000000 before h, lt-ltb 4194304 (length line) long) refl

fails : (line : List ℕ) → (IsUtf8 line → ⊥) → (b : Bool) → is_utf8 line ≡ b → is_utf8 line ≡ false
fails line none true h = absurd (none (IsUtf8-from_is_utf8 line h))
fails line none false h = h

pub not_utf8 : (read_of : List ℕ → NfdText) (before : ℕ) (line : List ℕ) → before < 1000000 → length line ≤ 4194304 → (IsUtf8 line → ⊥) → cause_of read_of before line ≡ Some Utf8
not_utf8 read_of before line h short none =
    rw (lt-leb 1000000 before h, le-ltb 4194304 (length line) short, fails line none _ refl) refl

pub text_cause_of : (read_of : List ℕ → NfdText) (before : ℕ) (line : List ℕ) → before < 1000000 → length line ≤ 4194304 → IsUtf8 line → cause_of read_of before line ≡ text_cause (read_of line)
text_cause_of read_of before line h short text =
    rw (lt-leb 1000000 before h, le-ltb 4194304 (length line) short, is_utf8-from_IsUtf8 line text) refl

pub accepted_text : (text : NfdText) → IsAccepted text → text_cause text ≡ None
accepted_text text accepted = rw (le-ltb 1048576 (length text.points) accepted.few, no_long_run_is text.classes accepted.short_runs) refl

pub too_many_points : (text : NfdText) → 1048576 < length text.points → text_cause text ≡ Some TooLong
too_many_points text long = rw (lt-ltb 1048576 (length text.points) long) refl

pub long_run : (text : NfdText) (place : ℕ) → length text.points ≤ 1048576 → IsFirstLongRun text.classes place → text_cause text ≡ Some (LongRun place)
long_run text place few run = rw (le-ltb 1048576 (length text.points) few, first_long_run_is text.classes place run) refl

-- a text that is rejected has the cause of its kind
pub refused_text : (read_of : List ℕ → NfdText) (before : ℕ) (line : List ℕ) (fault : TextFault) → before < 1000000 → length line ≤ 4194304 → IsUtf8 line → IsCause (read_of line) fault → HasTextCause read_of before line (text_kind fault)
refused_text read_of before line text_fault.TooLong h short text cause = text_cause_of read_of before line h short text ∙ too_many_points (read_of line) cause
refused_text read_of before line (text_fault.LongRun place) h short text cause = text_cause_of read_of before line h short text ∙ long_run (read_of line) place cause.0 cause.1
refused_text read_of before line text_fault.Memory h short text cause = text

pub clean_text : (read_of : List ℕ → NfdText) (before : ℕ) (line : List ℕ) → before < 1000000 → length line ≤ 4194304 → IsUtf8 line → IsAccepted (read_of line) → cause_of read_of before line ≡ None
clean_text read_of before line h short text accepted = text_cause_of read_of before line h short text ∙ accepted_text (read_of line) accepted
