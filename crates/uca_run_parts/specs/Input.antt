-- Which lines of an input have an error, and why.
use Rattle.std.specs.Prelude.{ℕ, zero, suc, ◌+◌, Bool, true, false, ◌&&◌, List, [], ◌∷◌, Option, Some, None, option_map, is_none, if◌then◌else◌, length, nat_lt, nat_le, chars}
use Rattle.std.specs.Str.{is_utf8}
use Rattle.uca_weights.specs.declared.Numbers.{Numbers}
use Rattle.uca_values.specs.Content.{Properties}
use Rattle.uca_text.specs.Texts.{NfdText}
use Rattle.uca_order.specs.Depths.{written_text}
use Rattle.uca_run_parts.specs.declared.faults.InputKind.{InputKind}
use Rattle.uca_run_parts.specs.declared.faults.InputKind.TheVariants.{Utf8, TooLong, LongRun, Read, Limit, Memory}
use Rattle.uca_run_parts.specs.declared.faults.StoredKeyKind.{StoredKeyKind}
use Rattle.uca_run_parts.specs.declared.faults.StoredKeyKind.TheVariants as stored_key

-- whether n non-starters come at the front
unfoldable pub begins_with_marks : ℕ → List ℕ → Bool
begins_with_marks zero classes = true
begins_with_marks (suc n) [] = false
begins_with_marks (suc n) (class ∷ classes) = nat_lt 0 class && begins_with_marks n classes

-- the first position from which more than 64 non-starters come in a row
abbrev pub first_long_run : List ℕ → Option ℕ
first_long_run [] = None
first_long_run (class ∷ classes) = if begins_with_marks 65 (class ∷ classes) then Some 0 else option_map suc (first_long_run classes)

-- why a text in Normalization Form D is rejected, if it is
abbrev pub text_cause : NfdText → Option InputKind
text_cause text = if nat_lt 1048576 (length text.points) then Some TooLong else option_map LongRun (first_long_run text.classes)

-- What is read of a line that is UTF-8, in Normalization Form D. It is the line itself, or, with numbers by value, the line
-- with the code of each number in place of it. The limits of texts are limits of this.
abbrev pub line_text : Numbers → Properties → List ℕ → NfdText
line_text numbers properties line = written_text numbers properties (chars line)

-- the error of a line with this many lines before it, if it has one, where this is read of lines
abbrev pub cause_of : (List ℕ → NfdText) → ℕ → List ℕ → Option InputKind
cause_of read_of before line =
    if nat_le 1000000 before then Some Limit else
    if nat_lt 4194304 (length line) then Some TooLong else
    if is_utf8 line then text_cause (read_of line) else
    Some Utf8

-- the lines before the first one with an error, when this many come before them
abbrev pub clean_from : (List ℕ → NfdText) → ℕ → List (List ℕ) → List (List ℕ)
clean_from read_of before [] = []
clean_from read_of before (line ∷ lines) = if is_none (cause_of read_of before line) then line ∷ clean_from read_of (before + 1) lines else []

abbrev pub clean_lines : (List ℕ → NfdText) → List (List ℕ) → List (List ℕ)
clean_lines read_of lines = clean_from read_of 0 lines

-- whether an error is the reader's
abbrev pub is_input_read_kind : InputKind → Bool
is_input_read_kind Read = true
is_input_read_kind Utf8 = false
is_input_read_kind TooLong = false
is_input_read_kind (LongRun place) = false
is_input_read_kind Limit = false
is_input_read_kind Memory = false

-- whether an error of a line with a stored key is the reader's
abbrev pub is_stored_key_read : StoredKeyKind → Bool
is_stored_key_read stored_key.Read = true
is_stored_key_read _ = false
