use Rattle.std.proofs.Common.{vec_len, arith}
use Rattle.uca_compact.proofs.LevelSteps.{copies_added}
use Rattle.uca_compact.proofs.level_reader.push_copies.Goals as goal

pub returns : goal.returns
returns g c =
    let weights = c.args.weights.now in
    copies_added weights.items c.resize.new.self.items c.args.weight c.args.count (vec_len weights) c.in-Some.len weights.ok.0 (omega (arith, c.in-Some.ensures)) c.in_ok-resize.ensures.items
