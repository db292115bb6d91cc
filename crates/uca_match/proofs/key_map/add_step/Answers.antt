use Rattle.std.proofs.Common.{◌≡◌, ℕ, Option, List, ◌∷◌, ◌++◌, [], length, set, ap, sym, subst, ◌∙◌, arith}
use Rattle.std.proofs.lemmas.Bool.{cond_both}
use Rattle.std.proofs.lemmas.List.{get_or_read}
use Rattle.std.specs.List.{insert}
use Rattle.uca_match.specs.declared.key_map.Edge.{Edge}
use Rattle.uca_match.specs.Tries.{NodeContent, ListedNode, target_of, with_root, AreRisingEdges, IsNewPlace, IsAlong}
use Rattle.uca_match.proofs.TrieEdges.{rising_with_new}
use Rattle.uca_match.proofs.TrieSteps.{no_listed, below_root, pushed_read, along_edge, along_edge_put}
use Rattle.uca_match.proofs.key_map.add_step.Goals as goal

pub returns-in-Ok : goal.returns-in-Ok
returns-in-Ok g c root start front along =
    let nodes = c.args.nodes.now.items in
    let n = c.args.number in
    let node = get_or_read nodes n c.index.result.now c.requires.within c.index.ensures no_listed in
    let here = c.deref.ensures.value ∙ ap (λ (b : ListedNode). b.edges) (c.behind-nodes.view_is ∙ node) in
    let leads = ap (λ (b : NodeContent). b.leads c.args.point) (below_root root nodes n no_listed c.requires.later c.requires.within) in
    along_edge start (with_root root nodes) front n c.args.point c.in-Ok.target along
    (leads ∙ ap (λ (es : List Edge). target_of es c.args.point) (sym here) ∙ c.in-Ok.ensures)

pub insert-requires : goal.insert-requires
insert-requires g c =
    let nodes = c.args.nodes.now.items in
    let n = c.args.number in
    let node = get_or_read nodes n c.index.result.now c.requires.within c.index.ensures no_listed in
    let here = c.deref.ensures.value ∙ ap (λ (b : ListedNode). b.edges) (c.behind-nodes.view_is ∙ node) in
    let whole = c.behind-nodes-2.view_is ∙ pushed_read nodes c.push.new.self.items n c.index_mut.result.now c.empty_node.result c.requires.within
    c.in_ok-push.ensures.items c.index_mut.ensures.value in
    let again = ap (λ (b : ListedNode). b.edges) whole in
    let edges = c.behind-nodes-2.inside.edges in
    omega (arith, edges.ok.0, c.in-Err.ensures.bound, ap length here, ap length again)

pub invariant_of-behind-nodes : goal.invariant_of-behind-nodes
invariant_of-behind-nodes g c =
    let nodes = c.args.nodes.now.items in
    let n = c.args.number in
    let node = get_or_read nodes n c.index.result.now c.requires.within c.index.ensures no_listed in
    let here = c.deref.ensures.value ∙ ap (λ (b : ListedNode). b.edges) (c.behind-nodes.view_is ∙ node) in
    let whole = c.behind-nodes-2.view_is ∙ pushed_read nodes c.push.new.self.items n c.index_mut.result.now c.empty_node.result c.requires.within
    c.in_ok-push.ensures.items c.index_mut.ensures.value in
    let again = ap (λ (b : ListedNode). b.edges) whole in
    let e : Edge = record { point = c.args.point; target = c.len-target.result } in
    let with_new = rising_with_new c.behind-nodes-2.inside.edges.items c.behind-nodes-2.invariant c.in-Err.at e
    (subst (λ es. IsNewPlace es c.args.point c.in-Err.at) (here ∙ sym again) c.in-Err.ensures) in
    subst AreRisingEdges (sym c.insert.ensures.items) (cond_both _ _ _ AreRisingEdges (λ _. with_new) (λ _. c.behind-nodes-2.invariant))

pub returns : goal.returns
returns g c root start front along =
    let nodes = c.args.nodes.now.items in
    let n = c.args.number in
    let node = get_or_read nodes n c.index.result.now c.requires.within c.index.ensures no_listed in
    let here = c.deref.ensures.value ∙ ap (λ (b : ListedNode). b.edges) (c.behind-nodes.view_is ∙ node) in
    let whole = c.behind-nodes-2.view_is ∙ pushed_read nodes c.push.new.self.items n c.index_mut.result.now c.empty_node.result c.requires.within
    c.in_ok-push.ensures.items c.index_mut.ensures.value in
    let again = ap (λ (b : ListedNode). b.edges) whole in
    let point = c.args.point in
    let target = c.len-target.result in
    let at = c.in-Err.at in
    let after = c.insert.new.self.items in
    let e : Edge = record { point = point; target = target } in
    let push : c.push.new.self.items ≡ nodes ++ no_listed ∷ [] =
    c.in_ok-push.ensures.items ∙ ap (λ (b : ListedNode). nodes ++ b ∷ []) c.empty_node.ensures in
    let N : Option ℕ → ListedNode = λ p. record { edges = after; position = p } in
    let same = ap (λ (list : List ListedNode). set list n (N c.behind-nodes-2.inside.position)) push
    ∙ ap (λ (b : ListedNode). set (nodes ++ no_listed ∷ []) n (N b.position)) whole in
    let count : target ≡ length nodes = omega (arith, c.len-target.ensures, c.args.nodes.now.ok.0) in
    subst (λ (list : List ListedNode). IsAlong start (with_root root list) (front ++ point ∷ []) target) (sym same)
    (along_edge_put start root nodes front n no_listed point at target after c.requires.later along
    (subst (λ es. IsNewPlace es point at) here c.in-Err.ensures) count
    (c.in_ok-insert.ensures.items ∙ ap (λ (es : List Edge). insert es at e) again))
