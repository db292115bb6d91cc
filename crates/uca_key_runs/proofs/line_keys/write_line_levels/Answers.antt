-- A line whose levels are written has no cause of an error.
use Rattle.std.proofs.Common.{List, ℕ, subst}
use Rattle.std.specs.Bool.{OnTrue}
use Rattle.uca_text.specs.Limits.{IsAccepted}
use Rattle.uca_order.specs.Keyings.{text_of}
use Rattle.uca_key_runs.specs.Keys.{keying_of_writer}
use Rattle.uca_run_parts.proofs.Causes.{clean_text}
use Rattle.uca_key_runs.proofs.KeyLines.{if_true}
use Rattle.uca_key_runs.proofs.line_keys.write_line_levels.Goals as goal

pub returns-in-Ok-write_levels-clause-clean : goal.returns-in-Ok-write_levels-clause-clean
returns-in-Ok-write_levels-clause-clean g c = λ before h.
    let read_of = text_of (keying_of_writer g.L.Lookup.content c.args.writer.now) in
    let written = c.in-Ok-write_levels.written in
    if_true written (clean_text read_of before c.args.lines.now.line h c.text.ensures.within c.in-Ok.ensures.text.1)
    (subst (λ (l : List ℕ). OnTrue written (IsAccepted (read_of l))) c.in-Ok.ensures.text.0 c.in-Ok-write_levels.ensures.accepted)
