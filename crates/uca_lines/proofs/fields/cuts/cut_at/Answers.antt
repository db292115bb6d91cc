-- If the text has the byte, it is cut there. Otherwise the first part is the whole text.
use Rattle.std.proofs.Common.{◌==◌, ◌∙◌, length, arith}
use Rattle.std.proofs.lemmas.Bool.{false_from_ne_true}
use Rattle.uca_lines.proofs.FieldLemmas.{cut_found, cut_nowhere}
use Rattle.uca_lines.proofs.fields.cuts.cut_at.Goals as goal

pub returns-in-Some : goal.returns-in-Some
returns-in-Some c =
    let h = c.in-Some.ensures in
    let cut = cut_found (λ b. b == c.args.byte) c.args.text.now c.in-Some.at h.0.high (λ k lt. false_from_ne_true _ (h.0.before k (omega arith) lt)) h.1 in
    record { front = c.split_at.ensures.front ∙ cut.front; back = c.split_at.ensures.back ∙ cut.back }

pub returns-in-None : goal.returns-in-None
returns-in-None c =
    let text = c.args.text.now in
    let cut = cut_nowhere (λ b. b == c.args.byte) text (length text) (omega arith) (λ k lt. false_from_ne_true _ (c.in-None.ensures k (omega arith) lt)) in
    record { front = c.split_at-in-None.ensures.front ∙ cut.front; back = c.split_at-in-None.ensures.back ∙ cut.back }
