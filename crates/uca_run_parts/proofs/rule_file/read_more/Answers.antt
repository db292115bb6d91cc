-- Where the bytes that a read gave are not kept, the source has lost them too.
use Rattle.std.proofs.Common.{rules}
use Rattle.uca_run_parts.proofs.RuleBytes.{one_more}
use Rattle.uca_run_parts.proofs.rule_file.read_more.Goals as goal

pub returns-in-Err-clause-refused : goal.returns-in-Err-clause-refused
returns-in-Err-clause-refused g c = λ start known. one_more start _ _ _ _ known c.in-Ok.ensures.bytes.0 (search rules)
