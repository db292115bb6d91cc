use Rattle.std.proofs.Common.{◌≡◌, ℕ, ◌+◌, ◌/◌, ◌%◌, ap, arith}
use Rattle.uca_compact.specs.Forms.{step}
use Rattle.uca_compact.specs.Programs.{form_of}
use Rattle.uca_compact.specs.inside.LevelSteps.{row_of}
use Rattle.uca_compact.proofs.LevelSteps.{low_end, low_weight}
use Rattle.uca_compact.proofs.level_reader.low_step.Goals as goal

pub returns-then-end-ends-clause-read : goal.returns-then-end-ends-clause-read
returns-then-end-ends-clause-read g c = λ more.
    let f = form_of c.args.form.now in
    let e : c.from-ends.result + 1 ≡ step f = omega (arith, c.from-ends.ensures) in
    low_end f c.args.code (c.args.code / (c.from-ends.result + 1)) (c.args.code % (c.from-ends.result + 1)) c.args.bytes.now c.args.weights.now.items c.push_copies.new.weights.items more
    (ap (λ (n : ℕ). c.args.code / n) e) (ap (λ (n : ℕ). c.args.code % n) e) (omega (arith, c.if-end-ends.true, c.from-ends.ensures)) c.in_ok-push_copies.ensures

pub returns-clause-read : goal.returns-clause-read
returns-clause-read g c =
    let f = form_of c.args.form.now in
    let e : c.from-ends.result + 1 ≡ step f = omega (arith, c.from-ends.ensures) in
    low_weight c.run_step.result f (row_of c.lesser_cells.result) c.args.code (c.args.code / (c.from-ends.result + 1)) (c.args.code % (c.from-ends.result + 1))
    c.args.bytes.now c.args.weights.now.items c.run_step.new.weights.items
    c.lesser_cells.ensures.row (ap (λ (n : ℕ). c.args.code / n) e) (ap (λ (n : ℕ). c.args.code % n) e) (omega (arith, c.if-end-ends.false, c.from-ends.ensures)) c.run_step.ensures.read
