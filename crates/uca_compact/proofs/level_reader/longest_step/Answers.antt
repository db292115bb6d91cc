use Rattle.std.proofs.Common.{ℕ, ◌++◌, ap, ◌∙◌}
use Rattle.uca_compact.specs.PlainLevels.{copies}
use Rattle.uca_compact.specs.Programs.{form_of}
use Rattle.uca_compact.proofs.LevelSteps.{longest_taken, no_longest}
use Rattle.uca_compact.proofs.level_reader.longest_step.Goals as goal

pub returns-then-form-eq0-clause-read : goal.returns-then-form-eq0-clause-read
returns-then-form-eq0-clause-read g c = λ more. no_longest (form_of c.args.form.now) c.args.weights.now.items (more c.args.bytes.now) c.if-form-eq0.true

pub returns-clause-read : goal.returns-clause-read
returns-clause-read g c = λ more.
    longest_taken (form_of c.args.form.now) c.args.weights.now.items c.push_copies.new.weights.items (more c.args.bytes.now) c.if-form-eq0.false
    (c.in_ok-push_copies.ensures ∙ ap (λ (n : ℕ). c.args.weights.now.items ++ copies c.args.form.now.common n) c.from.ensures)
