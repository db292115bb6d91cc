use Rattle.std.proofs.Common.{◌≤◌, length, drop}
use Rattle.uca_tailor.specs.inside.NumberTables.{AreTables}
use Rattle.uca_tailor.proofs.numbers.levels.fill_tables.Given as goal

-- the tables are those of the members from here on
abbrev pub invariant-loop-left : goal.invariant-loop-left
invariant-loop-left l = record {
  within : l.left ≤ length l.members;
  tables : AreTables (drop l.left l.members) (drop l.left l.numbers) l.by_base l.by_new;
}

abbrev pub decreases-loop-left : goal.decreases-loop-left
decreases-loop-left l = l.left
