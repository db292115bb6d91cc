use Rattle.std.proofs.Common.{◌≡◌, ◌∷◌, ◌++◌, [], List, ap, ap₂, ◌∙◌}
use Rattle.uca_match.specs.CharMaps.{number_of}
use Rattle.uca_match.specs.Tries.{ListedNode, with_root}
use Rattle.uca_match.proofs.TrieSteps.{no_listed, root_alone}
use Rattle.uca_match.proofs.key_map.empty_tree.Goals as goal

pub returns : goal.returns
returns g c =
    let items : c.push.new.self.items ≡ no_listed ∷ [] = c.in_ok-push.ensures.items
    ∙ ap₂ (λ (nodes : List ListedNode) (b : ListedNode). nodes ++ b ∷ []) c.new-nodes.ensures.items c.empty_node.ensures in
    ap (with_root (number_of c.in_ok-root.root)) items ∙ root_alone (number_of c.in_ok-root.root) c.in_ok-root.ensures
