use Rattle.std.proofs.Common.{◌≡◌, subst}
use Rattle.std.specs.Prelude.{IfSome}
use Rattle.uca_plain.specs.Leaves.{IsLeaf, leaf_elements}
use Rattle.uca_plain.proofs.plain.PointCache.find_leaf.Goals as goal

pub returns-clause-leaf : goal.returns-clause-leaf
returns-clause-leaf g c = λ collation entries.
    subst (λ x. IfSome c.leaf_elements.result (λ elements. IsLeaf collation x × (elements.now ≡ leaf_elements collation x))) c.in_ok-find.ensures.point
    (c.leaf_elements.ensures.leaf collation (c.in_ok-find.ensures.leaf collation entries))
