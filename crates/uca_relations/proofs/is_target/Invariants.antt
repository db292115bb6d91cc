use Rattle.std.proofs.Common.{◌↔◌, drop}
use Rattle.uca_relations.specs.Relations.{IsTarget}
use Rattle.uca_relations.proofs.is_target.Given as goal

abbrev pub invariant-loop-relation : goal.invariant-loop-relation
invariant-loop-relation l = IsTarget l.relations l.text ↔ IsTarget (drop l.relation-index l.relations) l.text
