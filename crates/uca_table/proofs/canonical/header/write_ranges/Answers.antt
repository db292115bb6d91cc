use Rattle.std.proofs.Common.{refl}
use Rattle.uca_lines.specs.Lines.{ended}
use Rattle.uca_table.specs.Canonical.{range_line}
use Rattle.uca_table.specs.inside.CanonicalLineTexts.{range_lines}
use Rattle.uca_lines.proofs.BufferedLemmas.{part_fits, part_written, returns_fault, all_parts_written}
use Rattle.uca_table.proofs.canonical.header.write_ranges.Goals as goal

pub write_range-requires : goal.write_range-requires
unfolding range_lines
write_range-requires g c = part_fits (λ r. ended (range_line r)) c.args.ranges.now c.loop-range.range-index _ _ _ refl refl c.loop-range-test.true
    c.loop-range.invariant c.requires

pub loop-range-preserved : goal.loop-range-preserved
loop-range-preserved g c = part_written (λ r. ended (range_line r)) c.args.ranges.now c.loop-range.range-index _ refl c.loop-range-test.true
    c.loop-range.invariant c.in_ok-write_range.ensures

pub returns-in_err-write_range : goal.returns-in_err-write_range
unfolding range_lines
returns-in_err-write_range g c = returns_fault (λ r. ended (range_line r)) c.args.ranges.now c.loop-range.range-index _ _ _ c.from_residual.result refl
    refl c.loop-range-test.true c.loop-range.invariant c.in_err-write_range.ensures c.from_residual.ensures.1

pub returns : goal.returns
unfolding range_lines
returns g c = all_parts_written (λ r. ended (range_line r)) c.args.ranges.now c.loop-range.range-index _ refl c.loop-range-test.false c.loop-range.invariant
