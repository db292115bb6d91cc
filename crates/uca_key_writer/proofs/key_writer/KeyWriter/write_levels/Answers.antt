-- The levels are written by what the writer's state says.
use Rattle.std.proofs.Common.{subst}
use Rattle.std.specs.Prelude.{IfOk}
use Rattle.std.specs.Bool.{OnTrue}
use Rattle.std.specs.Str.{chars}
use Rattle.uca_order.specs.Depths.{read_points}
use Rattle.uca_key_writer.specs.KeyLevels.{AreLevelsOf}
use Rattle.uca_key_writer.specs.Writers.{WriterState, collation_by}
use Rattle.uca_key_writer.proofs.key_writer.KeyWriter.write_levels.Goals as goal

pub returns-clause-levels : goal.returns-clause-levels
returns-clause-levels g c =
    let content = g.L.Lookup.content in
    let xs = chars c.args.text.now in
    let levels = c.write_levels.new.self.buffer.levels in
    subst (λ (w : WriterState _). IfOk c.write_levels.result (λ written. OnTrue written
    (AreLevelsOf w.settings.weighting (read_points (collation_by content w) w.settings.numbers xs).elements levels))) c.self.view_is
    c.write_levels.ensures.levels
