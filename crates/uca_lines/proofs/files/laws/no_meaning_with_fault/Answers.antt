use Rattle.uca_lines.proofs.FileLemmas.{no_meaning}
use Rattle.uca_lines.proofs.files.laws.no_meaning_with_fault.Goals as goal

pub returns : goal.returns
returns g c exact = no_meaning g.T.LineParser.form g.T.LineParser.says g.T.LineParser.cause g.T.MayEndEarly.is_unfinished exact
