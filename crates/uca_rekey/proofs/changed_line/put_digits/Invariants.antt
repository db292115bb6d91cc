-- The digits of the bytes so far were written.
use Rattle.std.proofs.Common.{◌≡◌, ◌*◌, length, take}
use Rattle.std.specs.List.{flat_map}
use Rattle.uca_run_parts.specs.Print.{byte_digits}
use Rattle.uca_rekey.proofs.changed_line.put_digits.Given as goal

abbrev pub invariant-loop-number : goal.invariant-loop-number
invariant-loop-number l = record {
  long : length l.digits ≡ 2 * length l.key;
  written : take (2 * l.number) l.digits ≡ flat_map byte_digits (take l.number l.key);
}
