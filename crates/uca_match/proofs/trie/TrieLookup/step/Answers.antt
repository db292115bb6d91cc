use Rattle.std.proofs.Common.{◌≡◌, ◌∷◌, ◌++◌, [], Some, MatchOption, ap, subst, sym}
use Rattle.uca_elements.specs.Lookups.{BeginsKeyIn, BeginsNoKeyIn}
use Rattle.uca_elements.specs.Positions.{is_placed}
use Rattle.uca_match.specs.Tries.{MapContent, positions, tree_of, walk}
use Rattle.uca_match.specs.NumberedKeys.{TrieContent}
use Rattle.uca_match.proofs.PlacedKeys.{step_of_trie}
use Rattle.uca_match.proofs.trie.TrieLookup.step.Goals as goal

pub returns : goal.returns
returns g c = λ key is.
    let keys = ap (λ (t : TrieContent). t.keys) c.self.view_is in
    let longer = key ++ c.args.c ∷ [] in
    step_of_trie c.args.self.now longer c.step.result (λ next. walk (tree_of c.args.self.now.keys) 0 longer ≡ Some next.number)
    (subst (λ (nodes : MapContent). MatchOption c.step.result (BeginsNoKeyIn (is_placed (positions nodes)) longer)
    (λ next. BeginsKeyIn (is_placed (positions nodes)) longer × walk (tree_of nodes) 0 longer ≡ Some next.number)) keys
    (c.step.ensures key (subst (λ (nodes : MapContent). walk (tree_of nodes) 0 key ≡ Some c.args.node.number) (sym keys) is)))
