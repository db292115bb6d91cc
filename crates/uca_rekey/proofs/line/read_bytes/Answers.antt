-- No byte yet, and those of one more room.
use Rattle.uca_rekey.proofs.LineKeys.{none_read, room_read}
use Rattle.uca_rekey.proofs.line.read_bytes.Goals as goal

pub loop-rest-init : goal.loop-rest-init
loop-rest-init g c = none_read c.args.text.now c.args.key.now.items c.requires

pub loop-rest-preserved : goal.loop-rest-preserved
loop-rest-preserved g c =
    room_read c.args.text.now c.loop-rest.key.items c.loop-rest.rest.now _ c.extend_from_slice.new.self.items c.read_into-count.result c.loop-rest.invariant
    c.read_into-count.ensures.read c.in_ok-extend_from_slice.ensures.items

pub returns-then-count-lt-ROOM : goal.returns-then-count-lt-ROOM
returns-then-count-lt-ROOM g c =
    room_read c.args.text.now c.loop-rest.key.items c.loop-rest.rest.now _ c.extend_from_slice.new.self.items c.read_into-count.result c.loop-rest.invariant
    c.read_into-count.ensures.read c.in_ok-extend_from_slice.ensures.items
