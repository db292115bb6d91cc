-- What a lookup knows of lists of code points that are no keys: whether they begin one.
use Rattle.std.specs.Prelude.{ℕ, List, ◌++◌, IsTrue}
use Rattle.uca_elements.specs.Rows.{Rows, Keys, is_key}

-- some key of a set begins with the list
abbrev pub BeginsKeyIn : Keys → List ℕ → Type 0
BeginsKeyIn keys begin = (more : List ℕ) × IsTrue (keys (begin ++ more))

-- no key of a set begins with the list
abbrev pub BeginsNoKeyIn : Keys → List ℕ → Type 0
BeginsNoKeyIn keys begin = ¬ (BeginsKeyIn keys begin)

-- some key begins with the list
abbrev pub BeginsSomeKey : Rows → List ℕ → Type 0
BeginsSomeKey rows begin = BeginsKeyIn (is_key rows) begin

-- no key begins with the list
abbrev pub BeginsNoKey : Rows → List ℕ → Type 0
BeginsNoKey rows begin = BeginsNoKeyIn (is_key rows) begin
