-- If the text has a blank, it is cut there. Otherwise it is one word.
use Rattle.std.proofs.Common.{sym, ◌∙◌, arith}
use Rattle.uca_lines.specs.Fields.{is_blank}
use Rattle.uca_lines.proofs.FieldLemmas.{cut_found, cut_nowhere}
use Rattle.uca_lines.proofs.fields.cuts.cut_word.Goals as goal

pub returns-then-is_blank : goal.returns-then-is_blank
returns-then-is_blank c =
    let cut = cut_found is_blank c.args.text.now c.loop-at.at (omega arith) c.loop-at.invariant (sym c.is_blank.ensures ∙ c.if-is_blank.true) in
    record { word = c.split_at.ensures.front ∙ cut.front; rest = c.split_at.ensures.back ∙ cut.back }

pub returns : goal.returns
returns c =
    let cut = cut_nowhere is_blank c.args.text.now c.loop-at.at c.loop-at-test.false c.loop-at.invariant in
    record { word = c.split_at-2.ensures.front ∙ cut.front; rest = c.split_at-2.ensures.back ∙ cut.back }
