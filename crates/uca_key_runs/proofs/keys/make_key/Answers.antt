-- What is made of a line is what the output has of it.
use Rattle.uca_key_writer.specs.Writers.{collation_by}
use Rattle.uca_key_runs.specs.inside.KeyForms.{book_of, shown_of}
use Rattle.uca_key_runs.proofs.KeyLines.{line_made}
use Rattle.uca_key_runs.proofs.Keyings.{same_parts}
use Rattle.uca_key_runs.proofs.keys.make_key.Goals as goal

pub returns-in-Ok-take_shown_points-clause-made : goal.returns-in-Ok-take_shown_points-clause-made
returns-in-Ok-take_shown_points-clause-made g c =
    let key = c.args.key.now in
    let made = c.make_shown_key.new in
    line_made c.args.form (book_of c.args.compacting.now) c.args.depth (collation_by g.L.Lookup.content key) key.settings
    (shown_of made.compacting made.key.key) c.take_shown_points.new.points.items c.args.lines.now.line
    c.in-Ok.ensures.shown c.requires.keys.key_depth c.in-Ok-take_shown_points.ensures.points

pub returns-in-Ok-take_shown_points-clause-kept : goal.returns-in-Ok-take_shown_points-clause-kept
returns-in-Ok-take_shown_points-clause-kept g c = same_parts c.in-Ok.ensures.collation c.in-Ok.ensures.settings

pub returns-in-Err-clause-kept : goal.returns-in-Err-clause-kept
returns-in-Err-clause-kept g c = same_parts c.in-Err.ensures.collation c.in-Err.ensures.settings
