-- A must-fail edit turns this goal. With a proof in a file it is rejected at once (docs/GATE.md).
use Rattle.std.proofs.Common.{rules, append-nil}
use Rattle.std.proofs.lemmas.List.{take-set}
use Rattle.uca_key_writer.proofs.slots.put.Goals as goal

pub returns-then-weight-eq0-clause-held : goal.returns-then-weight-eq0-clause-held
returns-then-weight-eq0-clause-held c = search (take-set, append-nil, rules)
