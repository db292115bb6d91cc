-- Both texts are rejected.
use Rattle.std.proofs.Common.{◌≡◌, ◌∙◌, rules, sym}
use Rattle.uca_values.specs.Content.{properties_of}
use Rattle.uca_order.specs.Keyings.{keying_by}
use Rattle.uca_order.specs.Levels.{lexicographic}
use Rattle.uca_match.specs.OwnedCollations.{owned_collation}
use Rattle.uca_owned.proofs.OrderLemmas.{neither_order}
use Rattle.uca_owned.proofs.Rejected.{memory_utf8, rejected}
use Rattle.uca_owned.proofs.order.order_left_rejected.Goals as goal

pub returns-else-is_memory-clause-order : goal.returns-else-is_memory-clause-order
returns-else-is_memory-clause-order c =
    let left = c.args.left.now in
    let right = c.args.right.now in
    let same : c.cmp.result ≡ lexicographic left right = search rules in
    neither_order (keying_by (owned_collation c.args.collation.now) c.args.settings) left right c.cmp.result c.requires.rejected
    (rejected c.args.settings.numbers (properties_of c.args.collation.now.properties) right c.in-Err.fault (sym c.is_memory.ensures ∙ c.if-is_memory.false)
    c.in-Err.ensures.fault) same

pub returns-then-is_memory-clause-utf8 : goal.returns-then-is_memory-clause-utf8
returns-then-is_memory-clause-utf8 c =
    memory_utf8 c.args.settings.numbers (properties_of c.args.collation.now.properties) c.args.right.now c.in-Err.fault
    (sym c.is_memory.ensures ∙ c.if-is_memory.true) c.in-Err.ensures.fault
