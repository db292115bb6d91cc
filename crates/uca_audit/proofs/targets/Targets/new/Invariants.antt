use Rattle.std.proofs.Common.{take, map}
use Rattle.uca_audit.specs.inside.Chaining.{AreTargetsOf}
use Rattle.uca_audit.proofs.targets.Targets.new.Given as goal

abbrev pub invariant-loop-relation : goal.invariant-loop-relation
invariant-loop-relation g l = AreTargetsOf (take l.relation-index l.relations) (map (λ key. key.items) l.keys.keys)
