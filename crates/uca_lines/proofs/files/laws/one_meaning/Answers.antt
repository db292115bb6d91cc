use Rattle.uca_lines.proofs.FileLemmas.{one_meaning}
use Rattle.uca_lines.proofs.files.laws.one_meaning.Goals as goal

pub returns : goal.returns
returns g c exact = one_meaning g.T.LineParser.form g.T.LineParser.says exact.same
