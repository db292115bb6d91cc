use Rattle.std.proofs.Common.{◌≡◌, length, take}
use Rattle.std.specs.List.{flat_map}
use Rattle.uca_run_parts.specs.Print.{byte_digits}
use Rattle.uca_run_parts.proofs.print.digits_in.Given as goal

abbrev pub invariant-loop-number : goal.invariant-loop-number
invariant-loop-number l = record {
  long : length l.digits ≡ 256;
  written : flat_map (λ pair. pair) (take l.number l.digits) ≡ flat_map byte_digits (take l.number l.part);
}
