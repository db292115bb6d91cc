use Rattle.std.proofs.Common.{subst, arith}
use Rattle.std.proofs.lemmas.Bool.{ltb-false}
use Rattle.uca_match.specs.Tries.{tree_of, IsTree, AreFollowers}
use Rattle.uca_match.specs.CharMaps.{number_of}
use Rattle.uca_match.proofs.Followers.{no_follower}
use Rattle.uca_match.proofs.key_map.KeyMap.may_follow.Goals as goal

pub returns : goal.returns
returns g c = λ none.
    let m = c.args.self.now in
    let numbers = number_of c.self.inside.followers in
    let zero = ltb-false _ _ none in
    no_follower (tree_of m) (subst (λ t. IsTree (tree_of t)) c.self.view_is c.self.invariant.tree) numbers
    (subst (λ t. AreFollowers (tree_of t) numbers) c.self.view_is c.self.invariant.followers) c.args.c (omega (arith, zero, c.get.ensures))
