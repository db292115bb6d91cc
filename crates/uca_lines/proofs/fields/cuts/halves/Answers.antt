-- The two halves are around the first `..`, and where the loop ends there is none.
use Rattle.uca_lines.proofs.FieldLemmas.{halves_at, halves_nowhere}
use Rattle.std.proofs.Common.{arith}
use Rattle.uca_lines.proofs.fields.cuts.halves.Goals as goal

pub returns-then-text-at-eq46-2 : goal.returns-then-text-at-eq46-2
returns-then-text-at-eq46-2 c =
    halves_at c.args.text.now c.loop-at.at (omega arith) (omega arith) c.loop-at.invariant c.if-text-at-eq46.true c.if-text-at-eq46-2.true

pub returns : goal.returns
returns c = halves_nowhere c.args.text.now c.loop-at.at (omega arith) c.loop-at.invariant
