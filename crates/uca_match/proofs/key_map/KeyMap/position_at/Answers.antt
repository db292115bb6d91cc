use Rattle.std.proofs.Common.{ap, subst, sym, ◌∙◌, length, arith}
use Rattle.uca_match.specs.CharMaps.{number_of}
use Rattle.uca_match.specs.Tries.{MapContent, ListedNode, tree_of, IsTree}
use Rattle.uca_match.proofs.TrieSteps.{no_listed}
use Rattle.uca_match.proofs.TrieLookups.{listed_within, listed_read, position_listed, placed_there}
use Rattle.uca_match.proofs.key_map.KeyMap.position_at.Goals as goal

pub index-requires : goal.index-requires
index-requires g c =
    let m = c.args.self.now in
    let nodes = ap (λ (t : MapContent). t.nodes) (c.tree.view_is ∙ c.self.view_is) in
    let within = listed_within m (subst (λ t. IsTree (tree_of t)) c.self.view_is c.self.invariant.tree) c.args.node.number c.requires in
    omega (arith, c.tree.inside.nodes.ok.0, ap length nodes)

pub returns : goal.returns
returns g c = λ key is.
    let m = c.args.self.now in
    let nodes = ap (λ (t : MapContent). t.nodes) (c.tree.view_is ∙ c.self.view_is) in
    let within = listed_within m (subst (λ t. IsTree (tree_of t)) c.self.view_is c.self.invariant.tree) c.args.node.number c.requires in
    let node = listed_read m c.tree.inside.nodes.items c.args.node.number c.index.result.now nodes within c.index.ensures in
    sym (placed_there (tree_of m) c.args.node.number key _ is
    (position_listed (number_of m.root) m.nodes c.args.node.number no_listed within ∙ ap (λ (b : ListedNode). b.position) (sym (c.behind-tree.view_is ∙ node))))
