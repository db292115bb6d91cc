-- What the first sixteen bytes have in common, the texts have.
use Rattle.std.proofs.Common.{◌≤◌, ◌∙◌, length-take, take-take, sym, arith}
use Rattle.uca_owned.proofs.reading.read_longer.Goals as goal

pub returns-clause-shared : goal.returns-clause-shared
returns-clause-shared c =
    let left = c.args.left.now in
    let right = c.args.right.now in
    let shared = c.in_ok-shared.shared in
    let run = c.in_ok-shared.ensures.4 in
    let within : shared ≤ 16 = omega (arith, run.in_left, length-take 16 left) in
    sym (take-take shared 16 left within) ∙ run.same ∙ take-take shared 16 right within
