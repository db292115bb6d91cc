-- What is read of a line without an error is in Normalization Form D, within the limits, and of Unicode scalar values.
use Rattle.std.proofs.Common.{◌≡◌, ℕ, ◌≤◌, Bool, true, false, List, length, chars, Option, Some, None, option_map, nat_lt, nat_le, refl}
use Rattle.std.proofs.lemmas.Bool.{ltb-false}
use Rattle.std.proofs.lemmas.List.{length-map}
use Rattle.std.proofs.lemmas.Str.{IsUtf8-from_is_utf8, scalars-chars}
use Rattle.std.specs.Char.{IsScalar}
use Rattle.std.specs.List.{AllByRecursion}
use Rattle.std.specs.Str.{IsUtf8, is_utf8}
use Rattle.unicode_normalization.specs.Forms.{nfd}
use Rattle.uca_scalars.proofs.NfdScalars.{each_nfd_scalar}
use Rattle.uca_weights.specs.declared.Numbers.{Numbers}
use Rattle.uca_values.specs.Content.{Properties}
use Rattle.uca_text.specs.Texts.{NfdText}
use Rattle.uca_order.specs.Depths.{written}
use Rattle.uca_text.specs.Limits.{IsNormal}
use Rattle.uca_run_parts.specs.declared.faults.InputKind.TheVariants.{Utf8, TooLong, LongRun, Limit}
use Rattle.uca_run_parts.specs.Input.{first_long_run, text_cause, cause_of, line_text}
use Rattle.uca_run_parts.proofs.LongRuns.{none_is_long}
use Rattle.uca_order.proofs.WrittenScalars.{written_scalars}

-- ---- A line without an error

-- what its test says
without : (read_of : List ℕ → NfdText) (before : ℕ) (line : List ℕ) (limit long text : Bool) → nat_le 1000000 before ≡ limit → nat_lt 4194304 (length line) ≡ long →
    is_utf8 line ≡ text → cause_of read_of before line ≡ None → IsUtf8 line × (text_cause (read_of line) ≡ None)
without read_of before line true long text a b c none = let never : Some Limit ≡ None = rw a at none in cc
without read_of before line false true text a b c none = let never : Some TooLong ≡ None = rw (a, b) at none in cc
without read_of before line false false false a b c none = let never : Some Utf8 ≡ None = rw (a, b, c) at none in cc
without read_of before line false false true a b c none = (IsUtf8-from_is_utf8 line c, rw (a, b, c) at none)

-- it is UTF-8
pub clean_utf8 : (read_of : List ℕ → NfdText) (before : ℕ) (line : List ℕ) → cause_of read_of before line ≡ None → IsUtf8 line
clean_utf8 read_of before line none = (without read_of before line _ _ _ refl refl refl none).0

-- its code points in Normalization Form D
pub line_scalars : (read_of : List ℕ → NfdText) (before : ℕ) (line : List ℕ) → cause_of read_of before line ≡ None → AllByRecursion IsScalar (nfd (chars line))
line_scalars read_of before line none =
    each_nfd_scalar (chars line) (scalars-chars line (clean_utf8 read_of before line none))

-- and the test of its text
within : (text : NfdText) (long : Bool) → nat_lt 1048576 (length text.points) ≡ long → text_cause text ≡ None →
    (length text.points ≤ 1048576) × (first_long_run text.classes ≡ None)
within text true a none = let never : Some TooLong ≡ None = rw a at none in cc
within text false a none = (ltb-false 1048576 (length text.points) a, no_run (first_long_run text.classes) (rw a at none))
  where
    -- no run is too long
    no_run : (run : Option ℕ) → option_map LongRun run ≡ None → run ≡ None
    no_run None none = refl
    no_run (Some place) none = let never : Some (LongRun place) ≡ None = none in cc

pub normal_line : (numbers : Numbers) (properties : Properties) (before : ℕ) (line : List ℕ) → cause_of (line_text numbers properties) before line ≡ None
    → IsNormal (line_text numbers properties line)
normal_line numbers properties before line none =
    let parts = without (line_text numbers properties) before line _ _ _ refl refl refl none in
    let limits = within (line_text numbers properties line) _ refl parts.1 in
    let points = written numbers (chars line) in
    record {
      accepted = record {
        same = length-map (nfd points) properties.class;
        few = limits.0;
        short_runs = none_is_long (line_text numbers properties line).classes limits.1;
      };
      scalars = each_nfd_scalar points (written_scalars numbers (chars line) (scalars-chars line parts.0));
    }
