-- The first part is the key that was found, or the code point.
use Rattle.std.proofs.Common.{◌≡◌, ℕ, List, ◌∷◌, Some, unwrap_or, ap, subst, sym, ◌∙◌}
use Rattle.uca_elements.specs.Positions.{is_placed}
use Rattle.uca_elements.specs.Places.{left_of}
use Rattle.uca_elements.specs.Reading.{parts}
use Rattle.uca_match.specs.Tries.{positions, tree_of, walk}
use Rattle.uca_match.specs.TextMatches.{match_of, matches_of}
use Rattle.uca_elements.specs.Matches.{IsGiven}
use Rattle.uca_match.specs.declared.key_map.TrieNode.{TrieNode}
use Rattle.uca_elements.specs.declared.matches.Match.{Match}
use Rattle.uca_elements.specs.declared.matches.Match.TheVariants.{Key, Unlisted}
use Rattle.uca_match.proofs.text_matches.MatchesIterator.next.Goals as goal
use Rattle.uca_match.proofs.text_matches.MatchesIterator.next.Goals.{in-Key, in-Unlisted}

pub returns-clause-steps : goal.returns-clause-steps
returns-clause-steps g c =
    let keys = c.self.inside.keys.now in
    let places = positions keys in
    let stands : TrieNode → List ℕ → Type 0 = λ node key. walk (tree_of keys) 0 key ≡ Some node.number in
    let portion = c.in_ok-portion.ensures in
    let rest = matches_of places (parts (is_placed places) (left_of c.self.inside.text.now c.in_ok-portion.portion.next)) in
    let first : match_of places portion.part ≡ c.match-portion.result = elim c.match-portion.branch [
      | in-Key w ↦
          let it : IsGiven stands portion.part (Key w.in-Key.node) = subst (IsGiven stands portion.part) w.in-Key.is portion.given in
          ap (match_of places) it.1 ∙ ap (λ o. Key (unwrap_or o 0)) (sym (w.position_at.ensures it.0 it.2)) ∙ ap Key (sym w.unwrap_or.ensures) ∙ sym w.result-is
      | in-Unlisted w ↦
          let it : IsGiven stands portion.part (Unlisted w.in-Unlisted.point) = subst (IsGiven stands portion.part) w.in-Unlisted.is portion.given in
          ap (match_of places) it ∙ sym w.result-is
    ] in
    sym c.self.view_is ∙ ap (matches_of places) portion.matched ∙ ap (λ (m : Match ℕ). m ∷ rest) first
