use Rattle.std.proofs.Common.{◌-◌, length, take, drop, arith}
use Rattle.uca_compact.specs.Programs.{form_of}
use Rattle.uca_compact.proofs.LevelSteps.{first_rest, low_taken, full_taken, high_taken}
use Rattle.uca_compact.proofs.level_reader.read_step.Goals as goal

pub returns-then-code-full-clause-read : goal.returns-then-code-full-clause-read
returns-then-code-full-clause-read g c =
    let bytes = c.args.bytes.now in
    low_taken (form_of c.args.form.now) c.low_step.result c.from-code.result c.full_code-full.result bytes (take (length bytes - 1) (drop 1 bytes))
    c.args.weights.now.items c.low_step.new.weights.items (first_rest bytes c.from-code.result c.in-len1-up.len_at_least c.from-code.ensures)
    c.full_code-full.ensures.is c.if-code-full.true c.low_step.ensures.read

pub returns-then-code-full-2-clause-read : goal.returns-then-code-full-2-clause-read
returns-then-code-full-2-clause-read g c =
    let bytes = c.args.bytes.now in
    full_taken (form_of c.args.form.now) c.longest_step.result c.from-code.result c.full_code-full.result bytes (take (length bytes - 1) (drop 1 bytes))
    c.args.weights.now.items c.longest_step.new.weights.items (first_rest bytes c.from-code.result c.in-len1-up.len_at_least c.from-code.ensures)
    c.full_code-full.ensures.is c.if-code-full-2.true c.longest_step.ensures.read

pub high_step-requires : goal.high_step-requires
high_step-requires g c = first_rest c.args.bytes.now c.from-code.result c.in-len1-up.len_at_least c.from-code.ensures

pub returns-else-code-full-2-clause-read : goal.returns-else-code-full-2-clause-read
returns-else-code-full-2-clause-read g c =
    let bytes = c.args.bytes.now in
    high_taken (form_of c.args.form.now) c.high_step.result c.from-code.result c.full_code-full.result bytes (take (length bytes - 1) (drop 1 bytes))
    c.args.weights.now.items c.high_step.new.weights.items (first_rest bytes c.from-code.result c.in-len1-up.len_at_least c.from-code.ensures)
    c.full_code-full.ensures.is (omega (arith, c.if-code-full.false, c.if-code-full-2.false)) c.high_step.ensures.read
