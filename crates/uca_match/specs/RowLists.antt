-- What the nodes of a list of rows stand for.
use Rattle.std.specs.Prelude.{ℕ, zero, suc, List, [], ◌∷◌, take}
use Rattle.uca_values.specs.Content.{Entry}
use Rattle.uca_match.specs.declared.row_list.RowNode.{RowNode}

-- the key of the row at a position, or nothing past the last row
abbrev pub key_at : List Entry → ℕ → List ℕ
key_at [] i = []
key_at (r ∷ rows) zero = r.key
key_at (r ∷ rows) (suc i) = key_at rows i

-- the first code points of the key of a row
abbrev pub node_text : List Entry → RowNode → List ℕ
node_text rows node = take node.len (key_at rows node.row)
