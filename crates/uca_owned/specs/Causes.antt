-- Why a text that is given as bytes is rejected.
use Rattle.std.specs.Prelude.{ℕ, List, Bool, true, false, chars}
use Rattle.std.specs.Str.{IsUtf8}
use Rattle.uca_weights.specs.declared.Numbers.{Numbers}
use Rattle.uca_values.specs.Content.{Properties}
use Rattle.uca_text.specs.Limits.{IsAccepted}
use Rattle.uca_text.specs.Faults.{IsCause}
use Rattle.uca_text.specs.declared.normalize.TextFault.TheVariants.{TooLong, LongRun, Memory}
use Rattle.uca_order.specs.Depths.{written_text}
use Rattle.uca_order.specs.Keyings.{Keying}
use Rattle.uca_owned.specs.declared.faults.KeyFault.{KeyFault}
use Rattle.uca_owned.specs.declared.faults.KeyFault.TheVariants.{Utf8, Text}
use Rattle.uca_owned.specs.declared.faults.CompareFault.{CompareFault}
use Rattle.uca_owned.specs.declared.faults.CompareFault.TheVariants.{Left, Right}

-- the bytes are UTF-8, and what is read of their text is accepted
pub record IsAcceptedText (numbers : Numbers) (properties : Properties) (bytes : List ℕ) : Type 0 where
  pub utf8 : IsUtf8 bytes
  pub accepted : IsAccepted (written_text numbers properties (chars bytes))

-- so it is with what keys go by
abbrev pub IsAcceptedBy : Keying → List ℕ → Type 0
IsAcceptedBy k bytes = IsAcceptedText k.settings.numbers k.collation.properties bytes

-- the bytes are no UTF-8, or they are, and what is read of their text has this cause
abbrev pub IsKeyCause : Numbers → Properties → List ℕ → KeyFault → Type 0
IsKeyCause numbers properties bytes Utf8 = ¬ (IsUtf8 bytes)
IsKeyCause numbers properties bytes (Text fault) = IsUtf8 bytes × IsCause (written_text numbers properties (chars bytes)) fault

-- whether the error is that an allocation failed
abbrev pub is_memory_fault : KeyFault → Bool
is_memory_fault Utf8 = false
is_memory_fault (Text TooLong) = false
is_memory_fault (Text (LongRun place)) = false
is_memory_fault (Text Memory) = true

-- the left text has a cause, or it is accepted and the right one has
abbrev pub IsCompareCause : Numbers → Properties → List ℕ → List ℕ → CompareFault → Type 0
IsCompareCause numbers properties left right (Left fault) = IsKeyCause numbers properties left fault
IsCompareCause numbers properties left right (Right fault) = IsAcceptedText numbers properties left × IsKeyCause numbers properties right fault
