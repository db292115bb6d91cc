use Rattle.uca_compact.specs.Programs.{form_of}
use Rattle.uca_compact.proofs.LevelsPut.{greater_rise}
use Rattle.uca_compact.proofs.letters.first_cell.Goals as goal

pub returns-clause-rising : goal.returns-clause-rising
returns-clause-rising c = greater_rise (form_of c.args.form.now) c.requires.form c.requires.no_common
