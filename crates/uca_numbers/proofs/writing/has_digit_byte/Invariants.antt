use Rattle.std.proofs.Common.{◌≡◌, length}
use Rattle.uca_numbers.specs.Texts.{has_digit}
use Rattle.uca_numbers.proofs.writing.has_digit_byte.Given as goal

-- the bytes so far have no digit
abbrev pub invariant-loop-front : goal.invariant-loop-front
invariant-loop-front l = has_digit l.bytes ≡ has_digit l.rest

abbrev pub decreases-loop-front : goal.decreases-loop-front
decreases-loop-front l = length l.rest
