-- A text is rejected unless an allocation failed.
use Rattle.std.proofs.Common.{◌∙◌, inl, inr, refl, sym, subst}
use Rattle.std.specs.declared.cmp.Ordering.TheVariants.{Less}
use Rattle.uca_values.specs.Content.{properties_of}
use Rattle.uca_order.specs.Keyings.{keying_by}
use Rattle.uca_match.specs.OwnedCollations.{owned_collation}
use Rattle.uca_owned.specs.Causes.{IsCompareCause}
use Rattle.uca_owned.specs.declared.faults.CompareFault.{CompareFault}
use Rattle.uca_owned.proofs.OrderLemmas.{left_alone_order}
use Rattle.uca_owned.proofs.Rejected.{memory_utf8, one_utf8, rejected}
use Rattle.uca_owned.proofs.order.order_rejected.Goals as goal

pub order_left_rejected-requires-clause-rejected : goal.order_left_rejected-requires-clause-rejected
order_left_rejected-requires-clause-rejected c =
    let numbers = c.args.settings.numbers in
    let properties = properties_of c.args.collation.now.properties in
    rejected numbers properties c.args.left.now c.in-Left.cause (sym c.is_memory.ensures ∙ c.if-is_memory.false)
    (subst (λ (f : CompareFault). IsCompareCause numbers properties c.args.left.now c.args.right.now f) c.in-Left.is c.requires.cause)

pub returns-else-is_memory-2-clause-order : goal.returns-else-is_memory-2-clause-order
returns-else-is_memory-2-clause-order c =
    let numbers = c.args.settings.numbers in
    let properties = properties_of c.args.collation.now.properties in
    let causes = subst (λ (f : CompareFault). IsCompareCause numbers properties c.args.left.now c.args.right.now f) c.in-Right.is c.requires.cause in
    left_alone_order (keying_by (owned_collation c.args.collation.now) c.args.settings) c.args.left.now c.args.right.now Less causes.0
    (rejected numbers properties c.args.right.now c.in-Right.cause (sym c.is_memory-in-Right.ensures ∙ c.if-is_memory-2.false) causes.1) refl

pub returns-then-is_memory-clause-utf8 : goal.returns-then-is_memory-clause-utf8
returns-then-is_memory-clause-utf8 c =
    let numbers = c.args.settings.numbers in
    let properties = properties_of c.args.collation.now.properties in
    inl (memory_utf8 numbers properties c.args.left.now c.in-Left.cause (sym c.is_memory.ensures ∙ c.if-is_memory.true)
    (subst (λ (f : CompareFault). IsCompareCause numbers properties c.args.left.now c.args.right.now f) c.in-Left.is c.requires.cause))

pub returns-else-is_memory-clause-utf8 : goal.returns-else-is_memory-clause-utf8
returns-else-is_memory-clause-utf8 c = one_utf8 c.args.left.now c.args.right.now c.order_left_rejected.result c.order_left_rejected.ensures.utf8

pub returns-then-is_memory-2-clause-utf8 : goal.returns-then-is_memory-2-clause-utf8
returns-then-is_memory-2-clause-utf8 c =
    let numbers = c.args.settings.numbers in
    let properties = properties_of c.args.collation.now.properties in
    let causes = subst (λ (f : CompareFault). IsCompareCause numbers properties c.args.left.now c.args.right.now f) c.in-Right.is c.requires.cause in
    inr (memory_utf8 numbers properties c.args.right.now c.in-Right.cause (sym c.is_memory-in-Right.ensures ∙ c.if-is_memory-2.true) causes.1)
