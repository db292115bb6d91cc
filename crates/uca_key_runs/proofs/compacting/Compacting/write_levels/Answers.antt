use Rattle.std.specs.Prelude.{⊤}
use Rattle.std.proofs.Common.{Ok, ap}
use Rattle.uca_key_runs.specs.inside.KeyForms.{CompactState}
use Rattle.uca_key_runs.proofs.KeyLevels.{bytes_of_weights, made_of_levels}
use Rattle.uca_key_runs.proofs.compacting.Compacting.write_levels.Goals as goal

pub write_levels-requires : goal.write_levels-requires
write_levels-requires g c =
    let same = ap (λ (s : CompactState). s.by) c.self.view_is in
    record { levels = bytes_of_weights c.self.inside.compacter c.args.self.now.by c.requires.0 c.args.levels.now same c.requires.1 }

pub returns-in-Ok-clause-key : goal.returns-in-Ok-clause-key
returns-in-Ok-clause-key g c = λ t are.
    let same = ap (λ (s : CompactState). s.by) c.self.view_is in
    made_of_levels {E = ⊤} c.self.inside.compacter c.args.self.now.by t c.args.levels.now c.write_levels.new.compact.items (Ok c.in-Ok.field-0) same
    c.in-Ok.ensures.compact are
