use Rattle.std.proofs.Common.{refl}
use Rattle.uca_compact.specs.Programs.{form_of}
use Rattle.uca_compact.specs.inside.LevelSteps.{row_of}
use Rattle.uca_compact.proofs.LevelSteps.{high_run, high_weight}
use Rattle.uca_compact.proofs.level_reader.high_step.Goals as goal

pub returns-then-code-cells-clause-read : goal.returns-then-code-cells-clause-read
returns-then-code-cells-clause-read g c =
    high_run c.run_step.result (form_of c.args.form.now) (row_of c.greater_cells-cells.result) c.args.code _ c.args.after.now c.args.weights.now.items c.run_step.new.weights.items
    c.greater_cells-cells.ensures.row refl c.if-code-cells.true c.run_step.ensures.read

pub returns-else-code-cells-clause-read : goal.returns-else-code-cells-clause-read
returns-else-code-cells-clause-read g c =
    high_weight c.run_step-else-code-cells.result (form_of c.args.form.now) (row_of c.greater_cells-cells.result) c.args.code c.args.bytes.now c.args.after.now c.args.weights.now.items c.run_step-else-code-cells.new.weights.items
    c.greater_cells-cells.ensures.row c.if-code-cells.false c.requires c.run_step-else-code-cells.ensures.read
