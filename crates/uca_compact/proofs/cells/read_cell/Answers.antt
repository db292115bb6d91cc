use Rattle.std.proofs.Common.{◌-◌, sym, arith}
use Rattle.uca_compact.specs.inside.LevelSteps.{number_of}
use Rattle.uca_compact.proofs.CellSteps.{none_before, none_after, cell_found}
use Rattle.uca_compact.proofs.cells.read_cell.Goals as goal

pub returns-then-wanted-cells-clause-is : goal.returns-then-wanted-cells-clause-is
returns-then-wanted-cells-clause-is c =
    let k = c.args.cells.now in
    sym (none_before k.number k.start k.later.now k.end c.args.wanted c.args.bytes.now c.if-wanted-cells.true)

pub returns-then-index-cells-clause-is : goal.returns-then-index-cells-clause-is
returns-then-index-cells-clause-is c =
    let k = c.args.cells.now in
    sym (none_after k.number k.start k.later.now k.end c.args.wanted c.args.bytes.now (omega (arith, c.if-index-cells.true, c.if-wanted-cells.false)))

pub returns-clause-is : goal.returns-clause-is
returns-clause-is c =
    let k = c.args.cells.now in
    cell_found k.number k.start k.later.now k.end c.args.wanted (c.args.wanted - k.number) c.cell_start.result c.cell_end.result c.args.bytes.now (number_of c.read_within.result)
    (omega (arith, c.if-wanted-cells.false)) (omega (arith, c.if-index-cells.false)) c.cell_start.ensures.is c.cell_end.ensures.is c.read_within.ensures.is
