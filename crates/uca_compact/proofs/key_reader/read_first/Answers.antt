use Rattle.std.proofs.Common.{Option, ap, sym, ◌∙◌}
use Rattle.uca_compact.specs.Programs.{form_of}
use Rattle.uca_compact.specs.inside.Reading.{read_level}
use Rattle.uca_compact.specs.inside.LevelSteps.{level_of_end}
use Rattle.uca_compact.specs.declared.level_reader.LevelEnd.{LevelEnd}
use Rattle.uca_compact.proofs.KeySteps.{is_told}
use Rattle.uca_compact.proofs.key_reader.read_first.Goals as goal

pub returns : goal.returns
returns g c =
    let ws = c.read_level.new.weights.items in
    is_told c.args.later c.in-Some.level c.told.result ws (read_level (form_of c.args.form.now) c.args.bytes.now)
    (ap (λ (o : Option LevelEnd). level_of_end o ws) (sym c.in-Some.is) ∙ c.in_ok-level.ensures) c.told.ensures.count c.told.ensures.side c.told.ensures.rest
