-- The key of the line is that of a text, so its compact key is made.
use Rattle.std.proofs.Common.{◌≡◌, ◌∙◌, ◌^◌, ◌<◌, List, ℕ, Option, length, chars, ap, subst, sym, arith}
use Rattle.uca_elements.specs.Collations.{Collation}
use Rattle.uca_books.specs.Books.{BookContent}
use Rattle.uca_compact.specs.Programs.{CompacterState}
use Rattle.uca_order.specs.Depths.{read_points}
use Rattle.uca_order.specs.Keyings.{Keying, key_of_bytes, text_of}
use Rattle.uca_order.specs.Lengths.{HasShortRows}
use Rattle.uca_key_writer.specs.Writers.{collation_by}
use Rattle.uca_key_runs.specs.Keys.{keying_of_writer}
use Rattle.uca_key_runs.specs.inside.KeyForms.{IsFor, book_of, shown_at, shown_of}
use Rattle.uca_key_runs.proofs.Keyings.{same_parts}
use Rattle.uca_key_runs.proofs.NormalLines.{clean_utf8, line_scalars}
use Rattle.uca_key_runs.proofs.ShownKeys.{same_book, shown_is_short}
use Rattle.uca_key_runs.proofs.keys.make_shown_key.Goals as goal

pub returns-in-Ok-compact_shown-clause-shown : goal.returns-in-Ok-compact_shown-clause-shown
returns-in-Ok-compact_shown-clause-shown g c =
    let content = g.L.Lookup.content in
    let key = c.args.key.now in
    let settings = key.settings in
    let line = c.args.lines.now.line in
    let text = read_points (collation_by content key) settings.numbers (chars line) in
    let kept = c.in-Ok-false.ensures in
    let by = subst (λ (o : Option CompacterState). IsFor o settings) (sym kept.compacter) c.requires.compact in
    let whole = c.bytes.ensures ∙ c.in-Ok.ensures.key ∙ ap (λ (k : Keying). key_of_bytes k line) (same_parts kept.collation kept.settings) in
    let scalars = line_scalars (text_of (keying_of_writer content c.make_compact_key.new.key)) 0 line (c.in-Ok.ensures.clean 0 (omega arith)) in
    let made = c.in-Ok-compact_shown.ensures.shown settings text by whole scalars in
    subst (λ (k : List ℕ). shown_of c.compact_shown.new.compacting k ≡ shown_at (book_of c.args.compacting.now) settings.depth settings.weighting text) c.bytes.ensures
    (subst (λ (b : Option BookContent). shown_of c.compact_shown.new.compacting c.bytes.result.now ≡ shown_at b settings.depth settings.weighting text)
    (same_book c.make_compact_key.new.compacting c.args.compacting.now kept.compacter) made)

pub returns-in-Ok-compact_shown-clause-short : goal.returns-in-Ok-compact_shown-clause-short
returns-in-Ok-compact_shown-clause-short g c =
    let content = g.L.Lookup.content in
    let key = c.args.key.now in
    let line = c.args.lines.now.line in
    let text = read_points (collation_by content key) key.settings.numbers (chars line) in
    let kept = c.in-Ok-false.ensures in
    let rows = subst (λ (collation : Collation). HasShortRows collation.rows) (sym kept.collation) c.requires.rows in
    let whole = c.in-Ok.ensures.key ∙ ap (λ (k : Keying). key_of_bytes k line) (same_parts kept.collation kept.settings) in
    subst (λ (k : List ℕ). length k < 2 ^ 41) (sym (returns-in-Ok-compact_shown-clause-shown g c))
    (shown_is_short (book_of c.args.compacting.now) key.settings.depth key.settings.weighting text
    (subst (λ (k : List ℕ). length k < 2 ^ 40) whole (c.in-Ok.ensures.short rows)))

pub returns-in-Err-compact_shown-clause-fault : goal.returns-in-Err-compact_shown-clause-fault
returns-in-Err-compact_shown-clause-fault g c = λ before few.
    clean_utf8 (text_of (keying_of_writer g.L.Lookup.content c.make_compact_key.new.key)) before c.args.lines.now.line (c.in-Ok.ensures.clean before few)
