use Rattle.uca_compact.proofs.KeyBytes.{no_identical, identical_written}
use Rattle.uca_compact.proofs.stored_bytes.push_identical.Goals as goal

pub returns-in_ok-push_points-in-Ok : goal.returns-in_ok-push_points-in-Ok
returns-in_ok-push_points-in-Ok g c =
    identical_written c.args.key.now.items c.extend_from_slice.new.self.items c.push_points.new.key.items c.args.bytes.now c.in-Ok.text.now
    c.in-Ok.ensures.cases.1 c.in-Ok.ensures.cases.0 c.in_ok-extend_from_slice-in-Ok.ensures.items c.in_ok-push_points-in-Ok.ensures

pub returns-in-Err : goal.returns-in-Err
returns-in-Err g c = no_identical c.args.key.now.items c.args.bytes.now c.in-Err.ensures.cases.0
