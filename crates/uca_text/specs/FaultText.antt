-- The text of an error: `LongRun at 12`.
use Rattle.std.specs.Prelude.{ℕ, List, ◌++◌, codes}
use Rattle.std.specs.Fmt.{decimal}
use Rattle.uca_text.specs.declared.normalize.TextFault.{TextFault}
use Rattle.uca_text.specs.declared.normalize.TextFault.TheVariants.{TooLong, LongRun, Memory}

abbrev pub text_fault_text : TextFault → List ℕ
text_fault_text TooLong = codes "TooLong"
text_fault_text (LongRun place) = codes "LongRun at " ++ decimal place
text_fault_text Memory = codes "Memory"
