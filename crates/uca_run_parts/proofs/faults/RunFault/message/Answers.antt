-- The parts of a line one after another. They are short.
use Rattle.std.proofs.Common.{◌++◌, length, length-append, codes, decimal, ap, ap₂, sym, arith, ◌∙◌}
use Rattle.uca_run_parts.specs.FaultText.{fault_text}
use Rattle.uca_run_parts.proofs.RoleTexts.{role_short}
use Rattle.uca_run_parts.proofs.faults.RunFault.message.Goals as goal

pub returns-in-Input-clause-text : goal.returns-in-Input-clause-text
returns-in-Input-clause-text c =
    c.text.ensures ∙ ap₂ (λ l m. l ++ m) (c.line_message.ensures.text ∙ ap (λ n. (codes "input line " ++ decimal n) ++ codes ": ") c.into.ensures)
    (c.as_str.ensures ∙ c.message-in-Input.ensures.text) ∙ sym (ap fault_text c.in-Input.is)

pub returns-in-Input-clause-short : goal.returns-in-Input-clause-short
returns-in-Input-clause-short c = omega (arith, ap length c.text.ensures, length-append c.line_message.result c.as_str.result.now, ap length c.as_str.ensures)

pub returns-in-StoredKey-clause-text : goal.returns-in-StoredKey-clause-text
returns-in-StoredKey-clause-text c =
    c.text-in-StoredKey.ensures ∙ ap₂ (λ l m. l ++ m) c.line_message-in-StoredKey.ensures.text c.name.ensures.text ∙ sym (ap fault_text c.in-StoredKey.is)

pub returns-in-StoredKey-clause-short : goal.returns-in-StoredKey-clause-short
returns-in-StoredKey-clause-short c = omega (arith, ap length c.text-in-StoredKey.ensures, length-append c.line_message-in-StoredKey.result c.name.result.now)

pub returns-in-Text-clause-text : goal.returns-in-Text-clause-text
returns-in-Text-clause-text c =
    c.text-in-Text-2.ensures
    ∙ ap₂ (λ l m. l ++ m) (c.text-in-Text.ensures ∙ ap (λ l. l ++ codes ": ") (c.of-in-Text.ensures ∙ c.side_name.ensures)) (c.as_str-in-Text.ensures ∙ c.message-in-Text.ensures.text)
    ∙ sym (ap fault_text c.in-Text.is)

pub text-requires-in-SameAs : goal.text-requires-in-SameAs
text-requires-in-SameAs c = omega (arith, ap length c.of-in-SameAs.ensures, ap length c.name-in-SameAs.ensures, role_short c.in-SameAs.role)

pub returns-in-SameAs-clause-text : goal.returns-in-SameAs-clause-text
returns-in-SameAs-clause-text c = c.text-in-SameAs.ensures ∙ ap₂ (λ l m. l ++ m) c.of-in-SameAs.ensures c.name-in-SameAs.ensures ∙ sym (ap fault_text c.in-SameAs.is)

pub returns-in-SameAs-clause-short : goal.returns-in-SameAs-clause-short
returns-in-SameAs-clause-short c =
    omega (
      arith,
      ap length c.text-in-SameAs.ensures,
      length-append c.of-in-SameAs.result c.name-in-SameAs.result.now,
      ap length c.of-in-SameAs.ensures,
      ap length c.name-in-SameAs.ensures,
      role_short c.in-SameAs.role,
    )
