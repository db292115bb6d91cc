-- A line has few code points.
use Rattle.std.proofs.Common.{List, ℕ, chars, ap, ◌∙◌}
use Rattle.unicode_normalization.specs.Forms.{nfd}
use Rattle.uca_key_runs.proofs.KeyLines.{few_points}
use Rattle.uca_key_runs.proofs.keys.take_points.Goals as goal

pub returns-in-Ok-decompose-clause-few : goal.returns-in-Ok-decompose-clause-few
returns-in-Ok-decompose-clause-few g c =
    few_points c.decompose.new.points.items c.args.lines.now.line c.in-Ok.ensures.text.1 c.text.ensures.within
    (c.in-Ok-decompose.ensures ∙ ap (λ (line : List ℕ). nfd (chars line)) c.in-Ok.ensures.text.0)
