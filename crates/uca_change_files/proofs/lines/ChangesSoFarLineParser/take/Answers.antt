-- One more line is said; a reader that failed is not the error of a line.
use Rattle.std.proofs.lemmas.Result.{on_ok_weaker}
use Rattle.uca_change_files.specs.ChangeTexts.{Said}
use Rattle.uca_change_files.proofs.LineLaws.{never_read, says_more}
use Rattle.uca_change_files.proofs.lines.ChangesSoFarLineParser.take.Goals as goal

pub returns-clause-ok : goal.returns-clause-ok
returns-clause-ok g c =
    let old : Said = record { started = c.args.self.now.started; content = c.args.self.now.list } in
    let new : Said = record { started = c.take_line.new.self.started; content = c.take_line.new.self.list } in
    on_ok_weaker c.take_line.result (λ takes lines says. says_more lines old c.args.line.now new says takes) c.take_line.ensures.ok

pub returns-clause-not_read : goal.returns-clause-not_read
returns-clause-not_read g c =
    let old : Said = record { started = c.args.self.now.started; content = c.args.self.now.list } in
    never_read old c.args.line.now c.take_line.result c.take_line.ensures.fault
