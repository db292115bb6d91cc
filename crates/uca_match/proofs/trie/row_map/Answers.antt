use Rattle.std.proofs.Common.{◌≡◌, ℕ, List, IfOk, ap, subst, sym, ◌∙◌}
use Rattle.uca_values.specs.Content.{keys_of}
use Rattle.uca_elements.specs.Positions.{AreDistinctKeys, place_at}
use Rattle.uca_match.specs.NumberedKeys.{points_of}
use Rattle.uca_match.specs.Tries.{positions}
use Rattle.uca_match.proofs.trie.row_map.Goals as goal

pub new-requires : goal.new-requires
new-requires g c = subst AreDistinctKeys (sym (ap points_of c.deref.ensures.value ∙ c.in_ok-keys.ensures)) c.requires

pub returns : goal.returns
returns g c =
    subst (λ (ks : List (List ℕ)). IfOk c.new.result (λ keymap. (key : List ℕ) → positions keymap key ≡ place_at 0 ks key))
    (ap points_of c.deref.ensures.value ∙ c.in_ok-keys.ensures) c.new.ensures
