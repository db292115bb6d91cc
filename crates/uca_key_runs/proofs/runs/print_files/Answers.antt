-- What the run writes, from what its files mean and what is printed after them.
use Rattle.std.specs.Prelude.{option_map}
use Rattle.std.proofs.Common.{◌∙◌, ℕ, List, Option, IfSome, ap, ap₂, subst, sym}
use Rattle.uca_match.specs.NumberedKeys.{rows_at}
use Rattle.uca_match.specs.OwnedCollations.{owned_collation}
use Rattle.uca_books.specs.Books.{BookContent}
use Rattle.uca_elements.specs.Collations.{Collation, collation_of}
use Rattle.uca_order.specs.Keyings.{Keying, keying, text_of}
use Rattle.uca_order.specs.Lengths.{HasShortRows}
use Rattle.uca_run_parts.specs.Files.{TableAndData, table_with}
use Rattle.uca_key_runs.specs.Keys.{IsCollation}
use Rattle.uca_key_runs.specs.KeysRun.{WritesAfter, header_of, output_line}
use Rattle.uca_key_runs.specs.inside.KeyForms.{line_as}
use Rattle.uca_key_runs.specs.inside.KeyParts.{form_as}
use Rattle.uca_key_runs.proofs.KeyHeaders.{header_is, output_is}
use Rattle.uca_key_runs.proofs.Keyings.{same_keying}
use Rattle.uca_key_runs.proofs.KeyRuns.{runs_under}
use Rattle.uca_key_runs.proofs.runs.print_files.Goals as goal

pub print_after-end-requires-clause-rows : goal.print_after-end-requires-clause-rows
print_after-end-requires-clause-rows g c = subst (λ (collation : Collation). HasShortRows collation.rows) (sym c.collator-collator.ensures) c.in-Ok.ensures.short

pub returns-in-Ok-clause-runs : goal.returns-in-Ok-clause-runs
returns-in-Ok-clause-runs g c = λ content are same.
    let asked = c.args.asked in
    let output = c.args.output in
    let files = c.args.files in
    let read = c.in-Ok.read in
    let made = owned_collation read.collation in
    let input = c.args.input.now in
    let out = c.args.out.now in
    let ends = c.print_after-end in
    let meant = table_with content.files.table content.files.properties in
    let book : Option BookContent = option_map (λ (b : BookContent × List ℕ). b.0) content.book in
    let is = subst (λ (f : TableAndData). IsCollation asked made read.settings f) (ap₂ (λ t p. table_with t p) are.same_table are.same_properties) c.in-Ok.ensures.made in
    let keyed = keying asked meant.table meant.properties in
    let header = c.header_bytes-first.ensures.line ∙ c.header_with-header.ensures ∙ header_is asked output read.settings files.sums content is.1 same are.sums in
    let lines = ap₂ (λ form (b : Option BookContent). line_as form b) c.form_of-form.ensures are.book
    ∙ ap (λ (b : Option BookContent). line_as (form_as output.lines b) book) are.book ∙ output_is output.lines book in
    runs_under (header_of output asked content) (output_line output.lines book) asked input ends.new.input out ends.new.out ends.result meant is.2 ends.ensures.of_lines
    (subst (λ (h : List ℕ). IfSome input.remaining (λ bytes. WritesAfter h (text_of keyed) (output_line output.lines book keyed) bytes ends.new.input.remaining out.contents ends.new.out.contents ends.result)) header
    (subst (λ (line : Keying → List ℕ → List ℕ). IfSome input.remaining (λ bytes. WritesAfter c.header_bytes-first.result.now (text_of keyed) (line keyed) bytes ends.new.input.remaining out.contents ends.new.out.contents ends.result)) lines
    (subst (λ (d : Keying). IfSome input.remaining (λ bytes. WritesAfter c.header_bytes-first.result.now (text_of d) (line_as c.form_of-form.result files.book d) bytes ends.new.input.remaining out.contents ends.new.out.contents ends.result))
    (same_keying asked (collation_of rows_at c.collator-collator.result) made read.settings meant c.collator-collator.ensures is)
    ends.ensures.writes)))
