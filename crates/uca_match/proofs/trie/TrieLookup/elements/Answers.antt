-- The elements are those at the position of the key.
use Rattle.std.proofs.Common.{◌≡◌, [], get_or, option_map, Some, ap, subst, sym, ◌∙◌}
use Rattle.std.proofs.lemmas.List.{get_or-map}
use Rattle.uca_values.specs.Content.{Entry}
use Rattle.uca_match.specs.Tries.{MapContent, positions, tree_of, walk}
use Rattle.uca_match.specs.NumberedKeys.{TrieContent, elements_of, rows_at}
use Rattle.uca_match.proofs.trie.TrieLookup.elements.Goals as goal

pub returns : goal.returns
returns g c = λ key is.
    let inside = c.self.inside in
    let nodes : inside.keys ≡ c.args.self.now.keys = ap (λ (t : TrieContent). t.keys) c.self.view_is in
    let found : positions inside.keys key ≡ Some c.in_ok-position.position =
    sym (c.in_ok-position.ensures key (subst (λ (m : MapContent). walk (tree_of m) 0 key ≡ Some c.args.node.number) (sym nodes) is)) in
    ap (λ (t : TrieContent). rows_at t key) (sym c.self.view_is)
    ∙ ap (option_map (λ p. get_or (elements_of inside.rows) p [])) found
    ∙ ap Some (get_or-map (λ (r : Entry). r.elements) inside.rows c.in_ok-position.position no_row [] (c.self.invariant key c.in_ok-position.position found)
    ∙ sym (c.elements.ensures no_row))
  where
    no_row : Entry
    no_row = record { key = []; elements = [] }

pub elements-requires : goal.elements-requires
elements-requires g c =
    let inside = c.self.inside in
    let key = c.requires.0 in
    let nodes : inside.keys ≡ c.args.self.now.keys = ap (λ (t : TrieContent). t.keys) c.self.view_is in
    c.self.invariant key c.in_ok-position.position
    (sym (c.in_ok-position.ensures key (subst (λ (m : MapContent). walk (tree_of m) 0 key ≡ Some c.args.node.number) (sym nodes) c.requires.1)))
