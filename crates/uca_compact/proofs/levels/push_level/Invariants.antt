use Rattle.std.proofs.Common.{◌≡◌, ◌<◌, ◌++◌, drop}
use Rattle.uca_compact.specs.CompactKeys.{level_code}
use Rattle.uca_compact.specs.Programs.{form_of}
use Rattle.uca_compact.proofs.levels.push_level.Given as goal

abbrev pub invariant-loop-weight : goal.invariant-loop-weight
invariant-loop-weight g l = (l.run < l.form.longest)
    × (l.out.items ++ level_code (form_of l.form) l.end l.run (drop l.weight-index l.weights)
    ≡ l.fn.out.items ++ level_code (form_of l.form) l.end 0 l.weights)
