use Rattle.uca_change_files.proofs.LineLaws.{front_other}
use Rattle.uca_change_files.proofs.lines.after.Goals as goal

pub returns-else-eq : goal.returns-else-eq
returns-else-eq c = front_other c.args.line.now c.args.front.now c.eq.result (rw c.split_at.ensures.front at c.eq.ensures) c.if-eq.false
