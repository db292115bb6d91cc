use Rattle.std.proofs.Common.{◌≡◌, chars, take}
use Rattle.std.specs.String.{string_bytes}
use Rattle.uca_numbers.proofs.written_text.write_text.Given as goal

abbrev pub invariant-loop-point : goal.invariant-loop-point
invariant-loop-point l = chars (string_bytes l.text) ≡ take l.point-index l.points
