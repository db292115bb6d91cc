-- A blank at the end may go, and another byte there ends the text.
use Rattle.std.proofs.Common.{◌∙◌, sym, ap, arith, length, ◌-◌}
use Rattle.uca_lines.specs.Fields.{no_end_blanks}
use Rattle.uca_lines.proofs.FieldLemmas.{trimmed, trimmed_more}
use Rattle.uca_lines.proofs.fields.cuts.trim.Goals as goal

pub loop-text-preserved : goal.loop-text-preserved
loop-text-preserved c =
    let text = c.loop-text.text.now in
    trimmed_more text (length text - 1) (omega arith) (sym c.if-not-is_blank.false ∙ c.is_blank.ensures) ∙ c.loop-text.invariant

pub returns-then-not-is_blank : goal.returns-then-not-is_blank
returns-then-not-is_blank c =
    let text = c.loop-text.text.now in
    sym (trimmed text (length text - 1) (omega arith) (sym c.if-not-is_blank.true ∙ c.is_blank.ensures)) ∙ (c.loop-text.invariant ∙ ap no_end_blanks c.skip_blanks-text.ensures)
