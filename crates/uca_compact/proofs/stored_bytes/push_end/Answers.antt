use Rattle.std.proofs.lemmas.Result.{IfOk-weaker}
use Rattle.uca_weights.specs.declared.Depth.TheVariants.{Weights, Identical}
use Rattle.uca_compact.proofs.KeyBytes.{weights_end, end_at_depth}
use Rattle.uca_compact.proofs.stored_bytes.push_end.Goals as goal

pub returns-in-Weights : goal.returns-in-Weights
returns-in-Weights g c =
    end_at_depth c.args.key.now.items c.args.bytes.now c.args.depth Weights _ c.in-Weights.is (weights_end c.args.key.now.items c.args.bytes.now c.is_empty.result c.is_empty.ensures)

pub returns-in-Identical : goal.returns-in-Identical
returns-in-Identical g c =
    IfOk-weaker c.push_identical.result _ _ (λ found h. end_at_depth c.args.key.now.items c.args.bytes.now c.args.depth Identical _ c.in-Identical.is h) c.push_identical.ensures
