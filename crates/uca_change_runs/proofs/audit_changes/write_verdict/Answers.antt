-- The verdict and its line belong together.
use Rattle.std.proofs.Common.{◌∷◌, [], ◌++◌, ◌≡◌, ◌⊎◌, ℕ, List, true, false, codes, refl, ap, subst, ◌∙◌}
use Rattle.uca_changes.specs.declared.faults.ChangeFault.TheVariants.{Memory, NotMet}
use Rattle.uca_editions.specs.ChangeRefusals.{IsFirstRefusal}
use Rattle.uca_run_parts.proofs.Verdicts.{audit_written}
use Rattle.uca_change_runs.specs.AuditRun.{change_audit}
use Rattle.uca_editions.specs.ReadChange.{change_of}
use Rattle.uca_change_runs.proofs.ChangeVerdicts.{refusal_of_not_met}
use Rattle.uca_change_runs.proofs.audit_changes.write_verdict.Goals as goal

pub returns-in-Ok-clause-runs : goal.returns-in-Ok-clause-runs
returns-in-Ok-clause-runs g c =
    audit_written change_audit (change_of c.args.files.now) c.args.out.now c.end_verdict.new.out true (codes "accepted\n") c.end_verdict.result
    (c.in-Ok.ensures.accepted, c.in-Ok.ensures.meaning, refl) c.end_verdict.ensures.verdict

pub returns-in-Err-NotMet-clause-runs : goal.returns-in-Err-NotMet-clause-runs
returns-in-Err-NotMet-clause-runs g c =
    audit_written change_audit (change_of c.args.files.now) c.args.out.now c.end_verdict-in-Err-NotMet.new.out false _ c.end_verdict-in-Err-NotMet.result (
      NotMet c.in-Err-NotMet.condition c.in-Err-NotMet.place,
      refusal_of_not_met (change_of c.args.files.now) c.in-Err-NotMet.condition c.in-Err-NotMet.place
          (subst (λ fault. IsFirstRefusal (change_of c.args.files.now) fault ⊎ (fault ≡ Memory)) c.in-Err-NotMet.field-0-is c.in-Err-NotMet.ensures.refused),
      c.as_bytes.ensures.value ∙ c.as_str.ensures ∙ c.text.ensures ∙ ap (λ (text : List ℕ). text ++ 10 ∷ []) c.change_verdict-verdict.ensures.text,
    ) c.end_verdict-in-Err-NotMet.ensures.verdict
