use Rattle.std.proofs.Common.{◌≤◌, length}
use Rattle.uca_lines.specs.Leads.{Leads}
use Rattle.uca_table.specs.Elements.{BeginsElement}
use Rattle.uca_table.proofs.elements.read_elements.Given as goal

abbrev pub invariant-loop-rest : goal.invariant-loop-rest
invariant-loop-rest g l = record {
  leads : Leads BeginsElement l.text l.elements.items l.rest;
  few : length l.elements.items ≤ 32;
}

abbrev pub decreases-loop-rest : goal.decreases-loop-rest
decreases-loop-rest g l = length l.rest
