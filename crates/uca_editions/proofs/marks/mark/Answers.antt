use Rattle.std.proofs.Common.{arith}
use Rattle.uca_editions.proofs.MarkLaws.{marked_here, marked_still}
use Rattle.uca_editions.proofs.marks.mark.Goals as goal

pub returns-clause-kept : goal.returns-clause-kept
returns-clause-kept c = λ point marked. marked_still c.args.words.now c.args.code point (omega arith) marked

pub returns-clause-marked : goal.returns-clause-marked
returns-clause-marked c = marked_here c.args.words.now c.args.code (omega arith)
