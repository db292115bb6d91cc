use Rattle.std.proofs.Common.{◌≡◌, Some, sym, subst}
use Rattle.std.proofs.lemmas.List.{take_all}
use Rattle.uca_match.specs.CharMaps.{number_of}
use Rattle.uca_match.specs.Tries.{target_of}
use Rattle.uca_match.proofs.Followers.{set_keeps, followers_more}
use Rattle.uca_match.proofs.key_map.add_followers.Goals as goal

pub loop-edge-preserved : goal.loop-edge-preserved
loop-edge-preserved g c =
    let old = number_of c.loop-edge.followers in
    let new = number_of c.set.new.self in
    record {
      before = λ point above. set_keeps old new _ c.in_ok-set.ensures.here c.in_ok-set.ensures.others point (c.loop-edge.invariant.before point above);
      edges = followers_more c.args.edges.now c.loop-edge.edge-index _ old new c.loop-edge-test.true c.loop-edge.invariant.edges
          c.in_ok-set.ensures.here c.in_ok-set.ensures.others;
    }

pub returns-clause-edges : goal.returns-clause-edges
returns-clause-edges g c = λ point target leads.
    let all = take_all c.loop-edge.edge-index c.args.edges.now c.loop-edge-test.false in
    c.loop-edge.invariant.edges point target (subst (λ edges. target_of edges point ≡ Some target) (sym all) leads)
