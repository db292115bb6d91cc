use Rattle.std.proofs.Common.{arith}
use Rattle.uca_values.proofs.LowClasses.{written_as_range}
use Rattle.uca_values.proofs.characters.write_class.Goals as goal

pub returns-clause-each : goal.returns-clause-each
returns-clause-each c point within =
    let r = c.args.range in
    written_as_range r.first r.last point r.class _ _ (λ from upto. c.loop-place.invariant.written point from (omega arith))
    (λ low. c.loop-place.invariant.below point low) (λ high. c.loop-place.invariant.above point (omega arith))
