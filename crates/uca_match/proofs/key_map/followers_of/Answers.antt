use Rattle.std.proofs.Common.{ap, ◌∙◌, arith}
use Rattle.std.proofs.lemmas.List.{get_or_read}
use Rattle.uca_match.specs.CharMaps.{number_of}
use Rattle.uca_match.specs.Tries.{ListedNode, MapContent, target_of}
use Rattle.uca_match.proofs.TrieSteps.{no_listed}
use Rattle.uca_match.proofs.Followers.{followers_next, followers_all}
use Rattle.uca_match.proofs.key_map.followers_of.Goals as goal

pub loop-i-preserved : goal.loop-i-preserved
loop-i-preserved g c =
    let nodes = c.as_slice-nodes.result.now in
    let i = c.loop-i.i in
    let node = get_or_read nodes i c.index-nodes-i.result (omega arith) c.index-nodes-i.is no_listed in
    let edges = c.deref.ensures.value ∙ ap (λ (b : ListedNode). b.edges) (c.node.view_is ∙ node) in
    followers_next nodes i (number_of c.loop-i.followers) (number_of c.add_followers.new.followers) c.loop-i.invariant c.in_ok-add_followers.ensures.before
    (λ point target leads. c.in_ok-add_followers.ensures.edges point target (ap (λ es. target_of es point) edges ∙ leads))

pub returns : goal.returns
returns g c =
    followers_all c.args.tree.now c.as_slice-nodes.result.now (c.as_slice-nodes.ensures.value ∙ ap (λ (m : MapContent). m.nodes) c.tree.view_is) c.loop-i.i
    (number_of c.loop-i.followers) (omega arith) c.loop-i.invariant
