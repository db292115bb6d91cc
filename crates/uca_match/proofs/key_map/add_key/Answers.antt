-- The position of the key goes to the node to which its key has led.
use Rattle.std.proofs.Common.{◌<◌, length, ◌≡◌, ◌+◌, ◌∷◌, ◌++◌, [], take, ap, sym, subst, ◌∙◌, arith}
use Rattle.std.proofs.lemmas.List.{take_more, take_all, get_or_read}
use Rattle.uca_match.specs.CharMaps.{number_of}
use Rattle.uca_match.specs.Tries.{ListedNode, MapContent, with_root, tree_of, IsAlong}
use Rattle.uca_match.proofs.TrieSteps.{no_listed, length-with_root, number_within}
use Rattle.uca_match.proofs.TrieKeys.{key_placed}
use Rattle.uca_match.proofs.key_map.add_key.Goals as goal

pub loop-point-preserved : goal.loop-point-preserved
loop-point-preserved g c =
    let key = c.args.key.now in
    let i = c.loop-point.point-index in
    let point = c.point-item.result in
    let more : take (i + 1) key ≡ take i key ++ point ∷ [] =
    take_more key i point c.loop-point-test.true ∙ ap (λ p. take i key ++ p ∷ []) (sym c.point-item.is) in
    subst (λ front. IsAlong (tree_of c.args.tree.now) (tree_of c.next_node.new.tree) front c.in_ok-number.number) (sym more)
    (c.in_ok-number.ensures (tree_of c.args.tree.now) (take i key) c.loop-point.invariant)

pub index_mut-requires : goal.index_mut-requires
index_mut-requires g c =
    let m = c.loop-point.tree in
    omega (
      arith,
      number_within c.loop-point.invariant,
      length-with_root (number_of m.root) m.nodes,
      ap length (ap (λ (t : MapContent). t.nodes) c.tree.view_is),
      c.tree.inside.nodes.ok.0,
    )

pub returns : goal.returns
returns g c =
    let key = c.args.key.now in
    let start = tree_of c.args.tree.now in
    let nodes = c.tree.inside.nodes.items in
    let root = number_of c.tree.inside.root in
    let n = c.loop-point.number in
    let all = take_all c.loop-point.point-index key c.loop-point-test.false in
    let along : IsAlong start (with_root root nodes) key n =
    subst (λ front. IsAlong start (with_root root nodes) front n) all
    (subst (λ (t : MapContent). IsAlong start (tree_of t) (take c.loop-point.point-index key) n) (sym c.tree.view_is) c.loop-point.invariant) in
    let within : n < length nodes = omega (arith, number_within along, length-with_root root nodes) in
    let before = get_or_read nodes n c.index_mut.result.now within c.index_mut.ensures.value no_listed in
    let put = key_placed start root nodes n c.behind-tree.inside.edges.items (record { key = key; position = c.args.position }) along
    (ap (λ (b : ListedNode). b.edges) (c.behind-tree.view_is ∙ before)) in
    record { tree = put.0; key = put.1 }
