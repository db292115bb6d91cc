use Rattle.std.proofs.Common.{◌≡◌, ◌<◌, List, ◌∷◌, ◌++◌, [], length, ap, subst, sym, ◌∙◌, arith}
use Rattle.uca_match.specs.CharMaps.{number_of}
use Rattle.uca_match.specs.Tries.{ListedNode, MapContent, numbered_target, with_root, tree_of, IsAlong}
use Rattle.uca_match.proofs.TrieSteps.{no_listed, length-with_root, root_leads, target_there, along_edge, along_number_put}
use Rattle.uca_match.proofs.key_map.first_node.Goals as goal

pub returns-then-known-gt0 : goal.returns-then-known-gt0
returns-then-known-gt0 g c = λ start front along.
    let m = c.args.tree.now in
    let number = c.get-known.ensures ∙ ap (λ (t : MapContent). number_of t.root c.args.point) c.tree.view_is in
    let some : 0 < length m.nodes = omega (arith, along.shape.some, length-with_root (number_of m.root) m.nodes) in
    along_edge start (tree_of m) front 0 c.args.point c.get-known.result along
    (root_leads (number_of m.root) m.nodes c.args.point some ∙ ap numbered_target (sym number) ∙ target_there c.get-known.result c.if-known-gt0.true)

pub returns : goal.returns
returns g c = λ start front along.
    let nodes = c.tree.inside.nodes.items in
    let old = number_of c.tree.inside.root in
    let new = number_of c.set.new.self in
    let before : IsAlong start (with_root old nodes) front 0 =
    subst (λ (m : MapContent). IsAlong start (tree_of m) front 0) (sym c.tree.view_is) along in
    let push : c.push.new.self.items ≡ nodes ++ no_listed ∷ [] =
    c.in_ok-push.ensures.items ∙ ap (λ (b : ListedNode). nodes ++ b ∷ []) c.empty_node.ensures in
    let count : c.len-target.result ≡ length nodes = omega (arith, c.len-target.ensures, c.tree.inside.nodes.ok.0) in
    let none : old c.args.point ≡ 0 = omega (arith, c.get-known.ensures, c.if-known-gt0.false) in
    subst (λ (list : List ListedNode). IsAlong start (with_root new list) (front ++ c.args.point ∷ []) c.len-target.result) (sym push)
    (along_number_put start old new nodes front c.args.point c.len-target.result before none count c.in_ok-set.ensures.here c.in_ok-set.ensures.others)
