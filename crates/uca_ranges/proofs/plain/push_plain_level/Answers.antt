use Rattle.std.proofs.Common.{◌∙◌, arith}
use Rattle.uca_compact.specs.PlainLevels.{copies}
use Rattle.uca_ranges.proofs.PlainKeys.{plain_written}
use Rattle.uca_ranges.proofs.plain.push_plain_level.Goals as goal

pub returns : goal.returns
returns g c levels are some is =
    plain_written c.args.bytes.now.items c.extend_from_slice.new.self.items c.push_copies.new.out.items
    (copies c.plain_run-run.result.weight c.plain_run-run.result.count) levels (omega (arith, are.0, some)) is c.in_ok-extend_from_slice.ensures.items
    (c.plain_run-run.ensures levels are some (c.deref.ensures.value ∙ is)) c.in_ok-push_copies.ensures
