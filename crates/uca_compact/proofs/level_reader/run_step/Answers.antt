use Rattle.uca_compact.specs.inside.LevelSteps.{next_in, row_of}
use Rattle.uca_compact.proofs.LevelSteps.{weight_added, no_weight}
use Rattle.uca_compact.specs.PlainLevels.{copies}
use Rattle.uca_compact.proofs.level_reader.run_step.Goals as goal

pub returns-in_default-clause-read : goal.returns-in_default-clause-read
returns-in_default-clause-read g c = λ more.
    no_weight c.args.weights.now.items (copies c.args.common c.args.run) (next_in (row_of c.args.cells.now) c.args.bytes.now) more c.in_default.ensures.is

pub returns-clause-read : goal.returns-clause-read
returns-clause-read g c = λ more.
    weight_added c.args.weights.now.items c.push_copies.new.weights.items c.push.new.self.items c.args.common c.args.run c.in-Some.found.value c.in-Some.found.rest.now
    (next_in (row_of c.args.cells.now) c.args.bytes.now) more c.in-Some.ensures.is c.in_ok-push_copies.ensures c.in_ok-push.ensures.items
