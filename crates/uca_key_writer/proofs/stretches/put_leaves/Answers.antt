use Rattle.std.proofs.Common.{◌+◌, ◌-◌, ◌*◌, ◌++◌, take, arith}
use Rattle.std.specs.List.{flat_map}
use Rattle.uca_plain.specs.Leaves.{leaf_elements}
use Rattle.uca_key_writer.proofs.BufferLemmas.{less_room}
use Rattle.uca_key_writer.proofs.LeafSteps.{leaves_begin, leaves_next, leaves_held, leaves_read}
use Rattle.uca_key_writer.proofs.stretches.put_leaves.Goals as goal

pub loop-point-init : goal.loop-point-init
loop-point-init g c = record {
  room = c.requires.room;
  leaves = λ collation entries. tt;
  holds = λ collation key es entries h. leaves_begin collation c.args.weighting es c.args.text.now _ h;
}

pub loop-point-preserved : goal.loop-point-preserved
loop-point-preserved g c =
    let so_far = c.loop-point.invariant in
    let at = c.loop-point.point-index in
    record {
      room = c.put_elements-counts.ensures.room (3 * (64 - (at + 1)))
          (less_room (3 * (64 - at)) _ _ _ _ _ _ (omega (arith, c.in-Some.ensures.few, c.requires.few)) so_far.room);
      leaves = λ collation entries.
          leaves_next collation c.args.text.now at c.point-item.result c.loop-point-test.true c.point-item.is (so_far.leaves collation entries) (c.in-Some.ensures.leaf collation entries).0;
      holds = λ collation key es entries h.
          leaves_held collation c.args.weighting es c.args.text.now at c.point-item.result c.in-Some.elements.now _ c.loop-point-test.true c.point-item.is
          (c.in-Some.ensures.leaf collation entries).1
          (c.put_elements-counts.ensures.holds key (es ++ flat_map (leaf_elements collation) (take at c.args.text.now)) (so_far.holds collation key es entries h));
    }

pub returns-clause-holds : goal.returns-clause-holds
returns-clause-holds g c = λ collation key es entries h.
    let so_far = c.loop-point.invariant in
    leaves_read collation c.args.weighting es c.args.text.now c.loop-point.point-index _ c.loop-point-test.false
    (so_far.leaves collation entries) (so_far.holds collation key es entries h)
