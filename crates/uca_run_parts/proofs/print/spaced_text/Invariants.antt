use Rattle.std.proofs.Common.{◌≡◌, ◌*◌, length, take}
use Rattle.std.specs.List.{flat_map}
use Rattle.uca_run_parts.specs.Print.{spaced_groups}
use Rattle.uca_run_parts.proofs.print.spaced_text.Given as goal

abbrev pub invariant-loop-number : goal.invariant-loop-number
invariant-loop-number l = record {
  long : length l.groups ≡ 128;
  written : flat_map (λ group. group) (take l.number l.groups) ≡ spaced_groups (take (2 * l.number) l.part);
}
