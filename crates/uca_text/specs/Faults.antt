-- Why a text is rejected.
use Rattle.std.specs.Prelude.{◌<◌, ◌≤◌, length, ⊤}
use Rattle.uca_text.specs.declared.normalize.TextFault.{TextFault}
use Rattle.uca_text.specs.declared.normalize.TextFault.TheVariants.{TooLong, LongRun, Memory}
use Rattle.uca_text.specs.Texts.{NfdText}
use Rattle.uca_text.specs.Limits.{IsFirstLongRun}

-- the cause of each error; the length is tested first, and any allocation may fail
abbrev pub IsCause : NfdText → TextFault → Type 0
IsCause s TooLong = 1048576 < length s.points
IsCause s (LongRun place) = (length s.points ≤ 1048576) × IsFirstLongRun s.classes place
IsCause s Memory = ⊤
