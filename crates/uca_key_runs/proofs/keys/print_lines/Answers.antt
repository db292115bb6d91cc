-- What went out, from what was written.
use Rattle.std.proofs.Common.{◌≡◌, ◌||◌, Option, [], refl, ap, subst, sym, ◌∙◌}
use Rattle.uca_weights.specs.declared.Settings.{Settings}
use Rattle.uca_elements.specs.Collations.{Collation}
use Rattle.uca_order.specs.Keyings.{keying_of, text_of}
use Rattle.uca_key_runs.specs.Keys.{keying_at}
use Rattle.uca_order.specs.Lengths.{HasShortRows}
use Rattle.uca_books.specs.Books.{BookContent}
use Rattle.uca_key_runs.specs.inside.KeyForms.{book_of, line_as}
use Rattle.uca_run_parts.specs.EachLineSoFar.{WritesRest}
use Rattle.uca_run_parts.proofs.Finishing.{started, of_lines}
use Rattle.uca_key_runs.proofs.Keyings.{same_parts}
use Rattle.uca_key_runs.proofs.ShownKeys.{still_for}
use Rattle.uca_key_runs.proofs.keys.print_lines.Goals as goal

pub print_rest-end-requires-clause-makes : goal.print_rest-end-requires-clause-makes
print_rest-end-requires-clause-makes g c = record {
  key_depth = ap (λ (s : Settings). s.depth) c.new-2.ensures.settings ∙ c.depth_of.ensures;
  short_rows = subst (λ (collation : Collation). HasShortRows collation.rows) (sym c.new-2.ensures.collation) c.requires;
}

pub print_rest-end-requires-clause-compact : goal.print_rest-end-requires-clause-compact
print_rest-end-requires-clause-compact g c =
    still_for _ _ _ _ refl (sym c.new-2.ensures.settings) c.compacting_by.ensures.settings

pub returns-clause-writes : goal.returns-clause-writes
returns-clause-writes g c =
    let form = c.args.form in
    let keying = keying_at g.L.Lookup.content c.new-2.result c.args.settings.depth in
    let asked = keying_of g.L.Lookup.content c.args.collator.now c.args.settings in
    let same : keying ≡ asked =
    same_parts c.new-2.ensures.collation (ap (λ (s : Settings). record { weighting = s.weighting; depth = c.args.settings.depth; numbers = s.numbers }) c.new-2.ensures.settings) in
    let input = c.args.input.now in
    let out = c.args.out.now in
    let book = book_of c.compacting_by.result in
    let begin = started (text_of keying) (line_as form book keying) c.new.result input c.new-5.result out (c.new.ensures.read (text_of keying) input) c.new-5.ensures.held c.new-5.ensures.written in
    let end = c.print_rest-end in
    let rest = subst (λ s. WritesRest (text_of s) (line_as form book s) input.remaining out.contents end.new.input end.new.self.output end.new.out end.result)
    same (end.ensures.prints input.remaining out.contents [] begin) in
    let by_book = subst (λ (b : Option BookContent). WritesRest (text_of asked) (line_as form b asked) input.remaining out.contents end.new.input end.new.self.output end.new.out end.result)
    c.compacting_by.ensures.book rest in
    c.end_output-end.ensures.writes (text_of asked) (line_as form c.args.book asked) input.remaining out.contents end.new.input by_book

pub returns-clause-of_lines : goal.returns-clause-of_lines
returns-clause-of_lines g c =
    let keying = keying_at g.L.Lookup.content c.new-2.result c.args.settings.depth in
    let read_of = text_of keying in
    let bytes_of = line_as c.args.form (book_of c.compacting_by.result) keying in
    let input = c.args.input.now in
    let out = c.args.out.now in
    let begin = started read_of bytes_of c.new.result input c.new-5.result out (c.new.ensures.read read_of input) c.new-5.ensures.held c.new-5.ensures.written in
    c.end_output-end.ensures.of_lines (of_lines read_of bytes_of input.remaining out.contents c.print_rest-end.new.input c.print_rest-end.new.self.output c.print_rest-end.new.out c.print_rest-end.result
    (c.print_rest-end.ensures.prints input.remaining out.contents [] begin))

pub returns-clause-input_failed : goal.returns-clause-input_failed
returns-clause-input_failed g c = λ none. subst (λ b. c.print_rest-end.new.input.failed ≡ (c.args.input.now.failed || b)) (sym (c.end_output-end.ensures.not_read none)) c.print_rest-end.ensures.input_failed

pub returns-clause-out_failed : goal.returns-clause-out_failed
returns-clause-out_failed g c = c.end_output-end.ensures.failed c.args.out.now.failed c.print_rest-end.ensures.out_failed
