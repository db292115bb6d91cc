-- Lists of keys as the code has them, and what a trie has.
use Rattle.std.specs.Prelude.{ℕ, List, [], map, option_map, slice_index_or}
use Rattle.std.specs.Borrow.{Bor}
use Rattle.uca_weights.specs.declared.Element.{Element}
use Rattle.uca_values.specs.Content.{Entry}
use Rattle.uca_elements.specs.Rows.{Rows}
use Rattle.uca_elements.specs.Positions.{Placed}
use Rattle.uca_match.specs.Tries.{MapContent, positions}
use Rattle.uca_match.specs.declared.key_map.Numbered.{Numbered}

-- the code points of keys that are borrowed
abbrev pub points_of : List (Bor (List ℕ)) → List (List ℕ)
points_of keys = map (λ key. key.now) keys

-- a key with its position
abbrev pub placed_of : Numbered → Placed
placed_of numbered = record { key = numbered.key.now; position = numbered.position }

-- the elements of rows
abbrev pub elements_of : List Entry → List (List Element)
elements_of rows = map (λ row. row.elements) rows

-- what a trie has: keys with their positions, and the elements of each row
pub record TrieContent : Type 0 where
  pub keys : MapContent
  pub rows : List (List Element)

-- its rows: the elements at the position of each key
abbrev pub rows_at : TrieContent → Rows
rows_at trie key = option_map (λ position. slice_index_or trie.rows position []) (positions trie.keys key)
