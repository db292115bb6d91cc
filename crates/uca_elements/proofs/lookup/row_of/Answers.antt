use Rattle.std.proofs.Common.{◌≡◌, take, Some, None, MatchOption, sym, subst}
use Rattle.uca_elements.proofs.Prefixes.{no_value, taken_more}
use Rattle.uca_elements.proofs.lookup.row_of.Goals as goal

pub returns-in_err-node : goal.returns-in_err-node
returns-in_err-node g c =
    let rows = g.L.Lookup.content c.args.lookup.now in
    let key = c.args.key.now in
    let i = c.loop-point.point-index in
    let none = no_value rows key i c.point-item.result c.loop-point-test.true c.point-item.is (c.in_err-node.ensures (take i key) c.loop-point.invariant) in
    subst (λ r. MatchOption r (rows key ≡ None) (λ row. rows key ≡ Some row.now)) (sym c.from_residual.ensures) none

pub loop-point-preserved : goal.loop-point-preserved
loop-point-preserved g c =
    let key = c.args.key.now in
    let i = c.loop-point.point-index in
    subst (λ front. g.L.Lookup.stands_for c.args.lookup.now c.in_ok-node.node front)
    (sym (taken_more key i c.point-item.result c.loop-point-test.true c.point-item.is)) (c.in_ok-node.ensures (take i key) c.loop-point.invariant).1
