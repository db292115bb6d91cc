use Rattle.std.proofs.Common.{arith}
use Rattle.uca_weights.specs.Runs.{weight_image}
use Rattle.uca_images.proofs.ImageTables.{table_further}
use Rattle.uca_images.proofs.images.images_of.Goals as goal

pub loop-weight-preserved : goal.loop-weight-preserved
loop-weight-preserved g c =
    table_further (weight_image c.args.map.now.level c.args.map.now.runs) c.loop-weight.images.items c.push.new.self.items c.loop-weight.weight
    c.image_or_zero.result c.loop-weight.invariant.0 c.loop-weight.invariant.1 c.in_ok-push.ensures.items c.image_or_zero.ensures

pub returns : goal.returns
returns g c = record {
  full = omega (arith, c.loop-weight.invariant.0, c.loop-weight-test.false, c.loop-weight.auto.weight-end);
  entries = λ w below. c.loop-weight.invariant.1 w (omega (arith, below, c.loop-weight-test.false));
}
