use Rattle.std.proofs.Common.{ℕ, ◌<◌, Option, ap, subst, sym, ◌∙◌, length, arith}
use Rattle.uca_match.specs.CharMaps.{number_of}
use Rattle.uca_match.specs.Tries.{NodeContent, ListedNode, MapContent, target_of, tree_of, IsTree}
use Rattle.uca_match.proofs.TrieSteps.{no_listed, below_root}
use Rattle.uca_match.proofs.TrieLookups.{leads_nowhere, listed_within, listed_read}
use Rattle.uca_match.proofs.Followers.{no_edges, leads_nowhere_from}
use Rattle.uca_match.proofs.key_map.KeyMapKeySet.may_go_on.Goals as goal

pub index-requires : goal.index-requires
index-requires g c =
    let m = c.args.self.now in
    let whole = c.tree.view_is ∙ c.self.view_is in
    let tree = subst (λ t. IsTree (tree_of t)) c.self.view_is c.self.invariant.tree in
    let nodes = ap (λ (t : MapContent). t.nodes) whole in
    let within = listed_within m tree c.args.node.number c.requires in
    omega (arith, c.tree.inside.nodes.ok.0, ap length nodes)

pub returns : goal.returns
returns g c = λ key is ends point.
    let m = c.args.self.now in
    let whole = c.tree.view_is ∙ c.self.view_is in
    let tree = subst (λ t. IsTree (tree_of t)) c.self.view_is c.self.invariant.tree in
    let nodes = ap (λ (t : MapContent). t.nodes) whole in
    let within = listed_within m tree c.args.node.number c.requires in
    let node = listed_read m c.tree.inside.nodes.items c.args.node.number c.index.result.now nodes within c.index.ensures in
    let above : 0 < c.args.node.number = omega arith in
    let here = ap (λ (b : NodeContent). b.leads) (below_root (number_of m.root) m.nodes c.args.node.number no_listed above within) in
    let edges = ap (λ (b : ListedNode). b.edges) (sym (c.behind-tree.view_is ∙ node)) in
    let none = no_edges _ _ c.is_empty.ensures ends in
    leads_nowhere (tree_of m) c.args.node.number point
    (ap (λ (leads : ℕ → Option ℕ). leads point) here ∙ ap (λ e. target_of e point) edges
    ∙ leads_nowhere_from c.behind-tree.inside.edges.items point (omega (arith, none, c.behind-tree.inside.edges.ok.0)))
    key is
