-- The verdict is that of the check, and the line is that of the verdict.
use Rattle.std.proofs.Common.{true, false, ◌++◌, ◌∷◌, [], ◌∙◌, ap, codes, refl}
use Rattle.uca_values.specs.Content.{properties_of}
use Rattle.uca_run_parts.specs.CheckRun.{IsVerdict}
use Rattle.uca_run_parts.proofs.Verdicts.{verdict_written}
use Rattle.uca_run_parts.proofs.check.write_verdict.Goals as goal

pub returns-in-Ok-clause-verdict : goal.returns-in-Ok-clause-verdict
returns-in-Ok-clause-verdict g c =
    let files = c.args.files.now in
    verdict_written (IsVerdict (properties_of files.properties).class files.table.rows) true (codes "well-formed\n")
    c.args.out.now.contents c.end_verdict.new.out.contents c.end_verdict.result (c.in-Ok.ensures.well_formed, refl) c.end_verdict.ensures.verdict

pub returns-in-Err-clause-verdict : goal.returns-in-Err-clause-verdict
returns-in-Err-clause-verdict g c =
    let files = c.args.files.now in
    verdict_written (IsVerdict (properties_of files.properties).class files.table.rows) false _
    c.args.out.now.contents c.end_verdict-in-Err.new.out.contents c.end_verdict-in-Err.result (
      c.in-Err.ill_formed,
      c.in-Err.ensures.ill_formed,
      c.as_bytes.ensures.value ∙ c.as_str.ensures ∙ c.text.ensures ∙ ap (λ text. text ++ 10 ∷ []) c.message.ensures.text,
    ) c.end_verdict-in-Err.ensures.verdict
