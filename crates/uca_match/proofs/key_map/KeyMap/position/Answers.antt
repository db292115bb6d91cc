use Rattle.std.proofs.Common.{◌≡◌, take, Some, subst, sym, ◌∙◌}
use Rattle.uca_match.specs.Tries.{positions, tree_of, walk}
use Rattle.uca_elements.proofs.Prefixes.{no_value, taken_more}
use Rattle.uca_match.proofs.key_map.KeyMap.position.Goals as goal

pub returns-in_err-node : goal.returns-in_err-node
returns-in_err-node g c =
    let key = c.args.key.now in
    let i = c.loop-point.point-index in
    c.from_residual.ensures
    ∙ sym (no_value (positions c.args.self.now) key i c.point-item.result c.loop-point-test.true c.point-item.is
    (c.in_err-node.ensures (take i key) c.loop-point.invariant))

pub loop-point-preserved : goal.loop-point-preserved
loop-point-preserved g c =
    let key = c.args.key.now in
    let i = c.loop-point.point-index in
    subst (λ front. walk (tree_of c.args.self.now) 0 front ≡ Some c.in_ok-node.node.number)
    (sym (taken_more key i c.point-item.result c.loop-point-test.true c.point-item.is)) (c.in_ok-node.ensures (take i key) c.loop-point.invariant).1
