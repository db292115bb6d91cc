use Rattle.std.proofs.Common.{◌≡◌, ◌∷◌, ◌++◌, [], Some, ap, subst, sym, ◌∙◌}
use Rattle.uca_elements.specs.Lookups.{BeginsNoKeyIn}
use Rattle.uca_elements.specs.Positions.{is_placed}
use Rattle.uca_match.specs.Tries.{MapContent, positions, tree_of, walk}
use Rattle.uca_match.specs.NumberedKeys.{TrieContent}
use Rattle.uca_match.proofs.PlacedKeys.{keys_of_trie}
use Rattle.uca_match.proofs.trie.TrieLookup.may_go_on.Goals as goal

pub returns : goal.returns
returns g c = λ key is ends point some.
    let keys = ap (λ (t : TrieContent). t.keys) c.self.view_is in
    let longer = key ++ point ∷ [] in
    let none : BeginsNoKeyIn (is_placed (positions c.args.self.now.keys)) longer =
    subst (λ (nodes : MapContent). BeginsNoKeyIn (is_placed (positions nodes)) longer) keys
    (c.may_go_on.ensures key (subst (λ (nodes : MapContent). walk (tree_of nodes) 0 key ≡ Some c.args.node.number) (sym keys) is) ends point) in
    none (some.0, sym (keys_of_trie c.args.self.now (longer ++ some.0)) ∙ some.1)
