use Rattle.std.proofs.Common.{ℕ, ◌<◌, Option, Some, ap, subst, sym, ◌∙◌, length, arith}
use Rattle.uca_match.specs.CharMaps.{number_of}
use Rattle.uca_match.specs.Tries.{NodeContent, ListedNode, MapContent, target_of, numbered_target, tree_of, IsTree}
use Rattle.uca_match.proofs.TrieEdges.{none_at_new_place}
use Rattle.uca_match.proofs.TrieSteps.{no_listed, below_root, root_leads, target_there, target_none, length-with_root}
use Rattle.uca_match.proofs.TrieLookups.{leads_on, leads_nowhere, listed_within, listed_read}
use Rattle.uca_match.proofs.key_map.KeyMapKeySet.step.Goals as goal

pub returns-then-number-eq0 : goal.returns-then-number-eq0
returns-then-number-eq0 g c = λ key is.
    let m = c.args.self.now in
    let whole = c.tree.view_is ∙ c.self.view_is in
    let tree = subst (λ t. IsTree (tree_of t)) c.self.view_is c.self.invariant.tree in
    let number = c.get-number.ensures ∙ ap (λ (t : MapContent). number_of t.root c.args.c) whole in
    let some : 0 < length m.nodes = omega (arith, tree.shape.some, length-with_root (number_of m.root) m.nodes) in
    leads_nowhere (tree_of m) 0 c.args.c
    (root_leads (number_of m.root) m.nodes c.args.c some ∙ target_none (number_of m.root c.args.c) (sym number ∙ c.if-number-eq0.true))
    key (is ∙ ap Some c.if-node-eq0.true)

pub returns-then-node-eq0 : goal.returns-then-node-eq0
returns-then-node-eq0 g c = λ key is.
    let m = c.args.self.now in
    let whole = c.tree.view_is ∙ c.self.view_is in
    let tree = subst (λ t. IsTree (tree_of t)) c.self.view_is c.self.invariant.tree in
    let number = c.get-number.ensures ∙ ap (λ (t : MapContent). number_of t.root c.args.c) whole in
    let some : 0 < length m.nodes = omega (arith, tree.shape.some, length-with_root (number_of m.root) m.nodes) in
    leads_on (tree_of m) tree 0 c.args.c c.get-number.result
    (root_leads (number_of m.root) m.nodes c.args.c some ∙ ap numbered_target (sym number) ∙ target_there c.get-number.result (omega arith))
    key (is ∙ ap Some c.if-node-eq0.true)

pub index-requires : goal.index-requires
index-requires g c =
    let m = c.args.self.now in
    let whole = c.tree.view_is ∙ c.self.view_is in
    let tree = subst (λ t. IsTree (tree_of t)) c.self.view_is c.self.invariant.tree in
    let nodes = ap (λ (t : MapContent). t.nodes) whole in
    let within = listed_within m tree c.args.node.number c.requires in
    omega (arith, c.tree.inside.nodes.ok.0, ap length nodes)

pub returns-in-Ok : goal.returns-in-Ok
returns-in-Ok g c = λ key is.
    let m = c.args.self.now in
    let whole = c.tree.view_is ∙ c.self.view_is in
    let tree = subst (λ t. IsTree (tree_of t)) c.self.view_is c.self.invariant.tree in
    let nodes = ap (λ (t : MapContent). t.nodes) whole in
    let within = listed_within m tree c.args.node.number c.requires in
    let node = listed_read m c.tree.inside.nodes.items c.args.node.number c.index.result.now nodes within c.index.ensures in
    let above : 0 < c.args.node.number = omega arith in
    let here = ap (λ (b : NodeContent). b.leads) (below_root (number_of m.root) m.nodes c.args.node.number no_listed above within) in
    let edges = c.deref.ensures.value ∙ ap (λ (b : ListedNode). b.edges) (c.behind-tree.view_is ∙ node) in
    leads_on (tree_of m) tree c.args.node.number c.args.c c.in-Ok.number
    (ap (λ (leads : ℕ → Option ℕ). leads c.args.c) here ∙ ap (λ e. target_of e c.args.c) (sym edges) ∙ c.in-Ok.ensures) key is

pub returns-in-Err : goal.returns-in-Err
returns-in-Err g c = λ key is.
    let m = c.args.self.now in
    let whole = c.tree.view_is ∙ c.self.view_is in
    let tree = subst (λ t. IsTree (tree_of t)) c.self.view_is c.self.invariant.tree in
    let nodes = ap (λ (t : MapContent). t.nodes) whole in
    let within = listed_within m tree c.args.node.number c.requires in
    let node = listed_read m c.tree.inside.nodes.items c.args.node.number c.index.result.now nodes within c.index.ensures in
    let above : 0 < c.args.node.number = omega arith in
    let here = ap (λ (b : NodeContent). b.leads) (below_root (number_of m.root) m.nodes c.args.node.number no_listed above within) in
    let edges = c.deref.ensures.value ∙ ap (λ (b : ListedNode). b.edges) (c.behind-tree.view_is ∙ node) in
    leads_nowhere (tree_of m) c.args.node.number c.args.c
    (ap (λ (leads : ℕ → Option ℕ). leads c.args.c) here ∙ ap (λ e. target_of e c.args.c) (sym edges)
    ∙ none_at_new_place c.deref.result.now c.args.c c.in-Err.field-0 c.in-Err.ensures) key is
