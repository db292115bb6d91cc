-- One more line is said; a reader that failed is not the error of a line; three levels have few lines.
use Rattle.std.proofs.lemmas.Result.{on_ok_weaker}
use Rattle.uca_certificates.proofs.TextsLemmas.{never_read, says_more, few_lines}
use Rattle.uca_certificates.proofs.lines.CertificateLinesLineParser.take.Goals as goal

pub returns-clause-ok : goal.returns-clause-ok
returns-clause-ok g c =
    on_ok_weaker c.take_line.result (λ takes lines says. says_more lines c.args.self.now c.args.line.now c.take_line.new.self says takes)
    c.take_line.ensures.ok

pub returns-clause-not_read : goal.returns-clause-not_read
returns-clause-not_read g c = never_read c.args.self.now c.args.line.now c.take_line.result c.take_line.ensures.fault

pub returns-clause-few : goal.returns-clause-few
returns-clause-few g c none lines says = few_lines lines c.take_line.new.self says
