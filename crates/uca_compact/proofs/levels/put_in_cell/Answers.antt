use Rattle.std.proofs.Common.{List, ℕ, ◌++◌, take, ap, ◌∙◌}
use Rattle.uca_compact.proofs.Places.{place_written}
use Rattle.uca_compact.proofs.levels.put_in_cell.Goals as goal

pub returns-clause-put : goal.returns-clause-put
returns-clause-put c =
    c.put_offset.ensures.put
    ∙ ap (λ (xs : List ℕ). take c.args.at c.args.codes.now ++ xs)
    (place_written c.args.number c.args.start c.args.later.now c.args.end c.args.weight c.args.index c.cell_start-first.result c.cell_end.result
    c.requires.rising c.requires.place c.cell_start-first.ensures.is c.cell_end.ensures.is)
