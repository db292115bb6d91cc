use Rattle.std.proofs.Common.{length, ap, subst, sym, arith}
use Rattle.uca_match.specs.CharMaps.{number_of}
use Rattle.uca_match.specs.Tries.{MapContent, tree_of, IsAlong}
use Rattle.uca_match.proofs.TrieSteps.{number_within, length-with_root}
use Rattle.uca_match.proofs.key_map.next_node.Goals as goal

pub first_node-requires : goal.first_node-requires
first_node-requires g c =
    (c.requires.0, c.requires.1, subst (λ n. IsAlong c.requires.0 (tree_of c.args.tree.now) c.requires.1 n) c.if-number-eq0.true c.requires.2)

pub returns-then-number-eq0 : goal.returns-then-number-eq0
returns-then-number-eq0 g c = λ start front along.
    c.first_node.ensures start front (subst (λ n. IsAlong start (tree_of c.args.tree.now) front n) c.if-number-eq0.true along)

pub add_step-requires : goal.add_step-requires
add_step-requires g c =
    let m = c.args.tree.now in
    record {
      later = omega arith;
      within = omega (
        arith,
        number_within c.requires.2,
        length-with_root (number_of m.root) m.nodes,
        ap length (ap (λ (t : MapContent). t.nodes) c.tree.view_is),
      );
    }

pub returns : goal.returns
returns g c = λ start front along.
    c.add_step.ensures (number_of c.tree.inside.root) start front
    (subst (λ (m : MapContent). IsAlong start (tree_of m) front c.args.number) (sym c.tree.view_is) along)
