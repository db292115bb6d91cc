-- The weights so far were put, and there is room for the others.
use Rattle.std.proofs.Common.{◌≡◌, ◌≤◌, ◌+◌, ◌*◌, ◌-◌, length, take}
use Rattle.uca_lanes.specs.Pairs.{MarksPairs}
use Rattle.uca_compact.specs.Programs.{form_of}
use Rattle.uca_compact.specs.inside.LevelsPut.{IsLaterTo}
use Rattle.uca_compact.proofs.later_level.put_level.Given as goal

abbrev pub invariant-loop-from : goal.invariant-loop-from
invariant-loop-from l = record {
  written : IsLaterTo (form_of l.form) l.end l.level l.rest (take l.at l.fn.codes) (take l.put l.codes) l.from l.run;
  marks : MarksPairs l.rest l.form.common l.marks;
  room : l.put + 2 * length l.rest ≤ l.at + 2 * length l.level + 2 * l.from;
  codes : length l.codes ≡ length l.fn.codes;
}

abbrev pub decreases-loop-from : goal.decreases-loop-from
decreases-loop-from l = length l.rest - l.from
