use Rattle.std.proofs.Common.{◌≡◌, ◌^◌, ◌<◌, take, Some}
use Rattle.uca_lines.specs.Numbers.{decimal_of}
use Rattle.uca_lines.proofs.fields.numbers.decimal.Given as goal

abbrev pub invariant-loop-byte : goal.invariant-loop-byte
invariant-loop-byte l = record {
  read : decimal_of (take l.byte-index l.word) ≡ Some l.number;
  small : l.number < 10 ^ l.byte-index;
}
