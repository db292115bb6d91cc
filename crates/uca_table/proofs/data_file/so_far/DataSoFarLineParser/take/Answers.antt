-- One more line is said; a reader that failed is not the error of a line.
use Rattle.std.proofs.lemmas.Result.{on_ok_weaker}
use Rattle.uca_table.specs.DataSoFar.{Cause, summary}
use Rattle.uca_table.proofs.DataSoFarLemmas.{no_read, says_more}
use Rattle.uca_table.proofs.KindLemmas.{never_read}
use Rattle.uca_table.proofs.data_file.so_far.DataSoFarLineParser.take.Goals as goal

pub returns-clause-ok : goal.returns-clause-ok
returns-clause-ok g c =
    let old = summary c.args.self.now.started c.args.self.now.«data» in
    let new = summary c.take_line.new.self.started c.take_line.new.self.«data» in
    on_ok_weaker c.take_line.result (λ takes lines says. says_more lines old c.args.line.now new says takes) c.take_line.ensures.ok

pub returns-clause-not_read : goal.returns-clause-not_read
returns-clause-not_read g c =
    let old = summary c.args.self.now.started c.args.self.now.«data» in
    never_read (Cause old c.args.line.now) (no_read old c.args.line.now) c.take_line.result c.take_line.ensures.fault
