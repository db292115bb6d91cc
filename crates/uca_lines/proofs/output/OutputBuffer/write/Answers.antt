-- A text that fits waits. Otherwise all that waited goes out, and then the text is written.
use Rattle.std.proofs.Common.{◌∙◌}
use Rattle.std.proofs.Math.Bool.{or-false, or-true}
use Rattle.uca_lines.proofs.BufferedLemmas.{emptied, after_nothing}
use Rattle.uca_lines.proofs.OutputLemmas.{held_through, flush_fails, same_count}
use Rattle.uca_lines.proofs.output.OutputBuffer.write.Goals as goal

pub returns-in-Ok-clause-writes : goal.returns-in-Ok-clause-writes
returns-in-Ok-clause-writes g c =
    let out = c.in-Ok.ensures in
    after_nothing c.args.text.now c.write_first.new.self c.write_first.new.out c.write_first.result (emptied out.text out.held out.count (out.failed ∙ or-false _)) c.write_first.ensures.writes

pub returns-then-text-self-clause-writes : goal.returns-then-text-self-clause-writes
returns-then-text-self-clause-writes g c =
    held_through c.args.text.now c.args.self.now c.hold.new.self c.args.out.now c.hold.ensures.held c.hold.ensures.written

pub returns-in-Ok-clause-err : goal.returns-in-Ok-clause-err
returns-in-Ok-clause-err g c =
    same_count c.write_first.result c.args.self.now c.flush.new.self c.write_first.new.self c.write_first.ensures.err c.in-Ok.ensures.held
    c.in-Ok.ensures.count

pub returns-in-Err-clause-writes : goal.returns-in-Err-clause-writes
returns-in-Err-clause-writes g c =
    flush_fails c.args.text.now c.args.self.now c.args.out.now c.flush.new.out c.in-Err.fault.written c.in-Err.ensures.text c.in-Err.ensures.not_all
    (c.in-Err.ensures.failed ∙ or-true _)
