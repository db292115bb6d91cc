use Rattle.std.proofs.Common.{◌≤◌, length}
use Rattle.uca_lines.specs.Leads.{Leads, BeginsCodePoint}
use Rattle.uca_table.proofs.rows.read_key.Given as goal

abbrev pub invariant-loop-rest : goal.invariant-loop-rest
invariant-loop-rest g l = record {
  leads : Leads BeginsCodePoint l.text l.key.items l.rest;
  few : length l.key.items ≤ 16;
}

abbrev pub decreases-loop-rest : goal.decreases-loop-rest
decreases-loop-rest g l = length l.rest
