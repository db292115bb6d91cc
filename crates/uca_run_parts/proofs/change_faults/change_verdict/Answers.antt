-- The verdict of an audit that rejects.
use Rattle.std.proofs.Common.{◌≡◌, ◌++◌, List, ℕ, length, length-append, codes, decimal, ap, ap₂, sym, append_assoc, arith, ◌∙◌}
use Rattle.uca_changes.specs.Changes.{number_of}
use Rattle.uca_run_parts.specs.ChangeFaultText.{change_verdict_text}
use Rattle.uca_run_parts.proofs.change_faults.change_verdict.Goals as goal

-- the parts of the verdict
parts : (name number space text : List ℕ) → ((name ++ number) ++ space) ++ text ≡ name ++ (number ++ (space ++ text))
parts name number space text = append_assoc (name ++ number) space text ∙ append_assoc name number (space ++ text)

pub returns-in-NotMet-clause-text : goal.returns-in-NotMet-clause-text
returns-in-NotMet-clause-text c =
    let begin = c.text.ensures ∙ ap (λ l. l ++ codes " ") (c.number.ensures.text ∙ ap₂ (λ l n. l ++ decimal n) c.of.ensures c.condition_number.ensures) in
    let number = decimal (number_of c.in-NotMet.condition) in
    c.text-in-NotMet.ensures ∙ ap₂ (λ l m. l ++ m) begin c.as_str.ensures ∙ parts (codes "refused ") number (codes " ") c.change_message.result
    ∙ ap (λ m. codes "refused " ++ (number ++ (codes " " ++ m))) c.change_message.ensures.text ∙ sym (ap change_verdict_text c.in-NotMet.is)

pub returns-in-NotMet-clause-short : goal.returns-in-NotMet-clause-short
returns-in-NotMet-clause-short c =
    omega (
      arith,
      ap length (c.text-in-NotMet.ensures ∙ ap (λ m. c.text.result ++ m) c.as_str.ensures),
      length-append c.text.result c.change_message.result,
      ap length c.text.ensures,
      length-append c.number.result (codes " "),
      ap length c.of.ensures,
    )
