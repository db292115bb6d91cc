use Rattle.std.proofs.Common.{◌≡◌, take}
use Rattle.uca_numbers.specs.Texts.{has_digit}
use Rattle.uca_numbers.proofs.writing.has_digit_among.Given as goal

-- whether the bytes so far have a digit
abbrev pub invariant-loop-byte : goal.invariant-loop-byte
invariant-loop-byte g l = l.found ≡ has_digit (take l.byte-index l.bytes)
