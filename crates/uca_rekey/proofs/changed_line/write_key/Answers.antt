-- All digits were written.
use Rattle.std.proofs.Common.{sym, ◌∙◌}
use Rattle.uca_rekey.proofs.LineKeys.{all_written}
use Rattle.uca_rekey.proofs.changed_line.write_key.Goals as goal

pub returns : goal.returns
returns c =
    sym (c.loop-byte.invariant.written ∙ all_written c.loop-byte.line c.args.key.now c.loop-byte.at c.loop-byte.byte-index c.loop-byte-test.false)
