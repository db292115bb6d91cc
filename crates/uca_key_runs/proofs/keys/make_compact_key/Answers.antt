-- The levels are those of the line's text, so the compact key that is made of them is that of the text.
use Rattle.std.proofs.Common.{◌≡◌, ◌^◌, ◌<◌, List, ℕ, Option, None, length, chars, subst, sym}
use Rattle.uca_weights.specs.declared.Depth.TheVariants.{Weights}
use Rattle.uca_text.specs.Limits.{IsAccepted}
use Rattle.uca_order.specs.Depths.{read_points, written_text}
use Rattle.uca_order.specs.Keyings.{text_of}
use Rattle.uca_key_writer.specs.KeyLevels.{AreLevelsOf, levels_in}
use Rattle.uca_key_writer.specs.Writers.{collation_by}
use Rattle.uca_key_writer.proofs.WriterSteps.{by_flag}
use Rattle.uca_run_parts.specs.Input.{cause_of}
use Rattle.uca_key_runs.specs.Keys.{keying_of_writer}
use Rattle.uca_key_runs.specs.inside.KeyForms.{CompactState, IsFor, book_of, compacter_of, shown_at}
use Rattle.uca_key_runs.proofs.KeyLevels.{accepted_is_short, made_is_shown}
use Rattle.uca_key_runs.proofs.NormalLines.{clean_utf8}
use Rattle.uca_key_runs.proofs.keys.make_compact_key.Goals as goal

pub returns-in-Ok-clause-shown : goal.returns-in-Ok-clause-shown
returns-in-Ok-clause-shown g c =
    let key = c.args.key.now in
    let text = read_points (collation_by g.L.Lookup.content key) key.settings.numbers (chars c.args.lines.now.line) in
    let by = c.in-Some.compacting.by in
    let flag = c.in-Ok-true.field-0 in
    let is = c.in-Ok-true.field-0-test in
    let depth = by_flag flag (key.settings.depth ≡ Weights) is c.in-Ok-true.ensures.depth in
    let levels = by_flag flag (AreLevelsOf key.settings.weighting text.elements c.write_line_levels.new.writer.levels) is c.in-Ok-true.ensures.levels in
    let same : by.settings ≡ key.settings = subst (λ (o : Option CompactState). IsFor (compacter_of o) key.settings) c.in-Some.is c.requires.compact in
    let are : AreLevelsOf by.settings.weighting text.elements (levels_in c.levels.result) =
    rw (same, c.levels.ensures) levels in
    subst (λ (o : Option CompactState). c.write_levels.new.self.key ≡ shown_at (book_of o) key.settings.depth key.settings.weighting text) (sym c.in-Some.is)
    (made_is_shown by key.settings text c.write_levels.new.self.key same depth (c.in-Ok.ensures.key text are))

pub returns-in-Ok-clause-short : goal.returns-in-Ok-clause-short
returns-in-Ok-clause-short g c =
    let key = c.args.key.now in
    let collation = collation_by g.L.Lookup.content key in
    let line = chars c.args.lines.now.line in
    let flag = c.in-Ok-true.field-0 in
    let is = c.in-Ok-true.field-0-test in
    let depth = by_flag flag (key.settings.depth ≡ Weights) is c.in-Ok-true.ensures.depth in
    let accepted = by_flag flag (IsAccepted (written_text key.settings.numbers collation.properties line)) is c.in-Ok-true.ensures.accepted in
    subst (λ (k : List ℕ). length k < 2 ^ 41) (sym (returns-in-Ok-clause-shown g c))
    (accepted_is_short collation (book_of c.args.compacting.now) key.settings line c.requires.rows depth accepted)

pub returns-in-Err-write_levels-clause-fault : goal.returns-in-Err-write_levels-clause-fault
returns-in-Err-write_levels-clause-fault g c = λ before few.
    let read_of = text_of (keying_of_writer g.L.Lookup.content c.args.key.now) in
    let line = c.args.lines.now.line in
    clean_utf8 read_of before line
    (by_flag c.in-Ok-true.field-0 (cause_of read_of before line ≡ None) c.in-Ok-true.field-0-test (c.in-Ok-true.ensures.clean before few))
