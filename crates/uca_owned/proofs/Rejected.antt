-- A text with a cause is not accepted.
use Rattle.std.proofs.Common.{◌≡◌, ◌⊎◌, inr, ℕ, List, Result, Ok, Err, arith, true, false}
use Rattle.std.specs.Prelude.{OnErr}
use Rattle.std.specs.Str.{IsUtf8}
use Rattle.uca_weights.specs.declared.Numbers.{Numbers}
use Rattle.uca_values.specs.Content.{Properties}
use Rattle.uca_text.specs.declared.normalize.TextFault.TheVariants.{TooLong, LongRun, Memory}
use Rattle.uca_owned.specs.declared.faults.KeyFault.{KeyFault}
use Rattle.uca_owned.specs.declared.faults.KeyFault.TheVariants.{Utf8, Text}
use Rattle.uca_owned.specs.Causes.{IsAcceptedText, IsKeyCause, is_memory_fault}

pub rejected : (numbers : Numbers) (properties : Properties) (bytes : List ℕ) (fault : KeyFault) → is_memory_fault fault ≡ false
    → IsKeyCause numbers properties bytes fault → ¬ (IsAcceptedText numbers properties bytes)
rejected numbers properties bytes Utf8 e cause = λ accepted. cause accepted.utf8
rejected numbers properties bytes (Text TooLong) e cause = λ accepted. omega (arith, cause.1, accepted.accepted.few)
rejected numbers properties bytes (Text (LongRun place)) e cause = λ accepted. accepted.accepted.short_runs place cause.1.1.run
rejected numbers properties bytes (Text Memory) e cause = λ accepted. cc

-- where an allocation failed, it is UTF-8
pub memory_utf8 : (numbers : Numbers) (properties : Properties) (bytes : List ℕ) (fault : KeyFault) → is_memory_fault fault ≡ true
    → IsKeyCause numbers properties bytes fault → IsUtf8 bytes
memory_utf8 numbers properties bytes Utf8 e cause = absurd (cc)
memory_utf8 numbers properties bytes (Text fault) e cause = cause.0

-- one of two is what the right one is
pub one_utf8 : {X E : Type 0} (left right : List ℕ) (r : Result X E) → OnErr r (IsUtf8 right) → OnErr r (IsUtf8 left ⊎ IsUtf8 right)
one_utf8 left right (Ok x) h = tt
one_utf8 left right (Err e) h = inr h
