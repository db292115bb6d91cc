-- A role has a short name.
use Rattle.std.proofs.Common.{◌++◌, length, length-append, ap, arith, ◌∙◌}
use Rattle.uca_run_parts.specs.RoleText.{role_text}
use Rattle.uca_run_parts.proofs.RoleTexts.{role_short}
use Rattle.uca_run_parts.proofs.faults.role_message.Goals as goal

pub of-requires : goal.of-requires
of-requires c = omega (arith, ap length c.name.ensures, role_short c.args.role)

pub text-requires : goal.text-requires
text-requires c = omega (arith, ap length (c.of.ensures ∙ c.name.ensures), role_short c.args.role, c.requires)

pub returns-clause-text : goal.returns-clause-text
returns-clause-text c = c.text.ensures ∙ ap (λ name. name ++ c.args.text.now) (c.of.ensures ∙ c.name.ensures)

pub returns-clause-short : goal.returns-clause-short
returns-clause-short c =
    let whole = c.text.ensures ∙ ap (λ name. name ++ c.args.text.now) (c.of.ensures ∙ c.name.ensures) in
    omega (arith, ap length whole, length-append (role_text c.args.role) c.args.text.now, role_short c.args.role, c.requires)
