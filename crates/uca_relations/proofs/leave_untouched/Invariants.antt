use Rattle.std.proofs.Common.{◌↔◌, drop}
use Rattle.uca_relations.specs.Relations.{IsUntouched}
use Rattle.uca_relations.proofs.leave_untouched.Given as goal

abbrev pub invariant-loop-relation : goal.invariant-loop-relation
invariant-loop-relation l = IsUntouched l.relations l.text ↔ IsUntouched (drop l.relation-index l.relations) l.text
