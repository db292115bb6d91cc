-- The line went out, or as much of it as the writer took.
use Rattle.std.proofs.Common.{refl}
use Rattle.uca_run_parts.specs.Verdicts.{IsThis}
use Rattle.uca_run_parts.proofs.Verdicts.{verdict_cut}
use Rattle.uca_run_parts.proofs.output.end_verdict.Goals as goal

pub returns-in-Err-clause-verdict : goal.returns-in-Err-clause-verdict
returns-in-Err-clause-verdict g c =
    verdict_cut (IsThis c.args.verdict c.args.line.now) c.args.verdict c.args.line.now c.args.out.now.contents c.write_text.new.out.contents c.in-Err.fault
    (refl, refl) c.in-Err.ensures.failed_in

pub returns-in-Ok-clause-verdict : goal.returns-in-Ok-clause-verdict
returns-in-Ok-clause-verdict g c = (c.args.line.now, (refl, refl), c.in-Ok.ensures.written)
