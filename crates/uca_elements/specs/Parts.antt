-- The parts that a text is matched as: keys, and code points that no key covers.
use Rattle.std.specs.Prelude.{ℕ, List, unwrap_or, Contains, [], IsTrue}
use Rattle.uca_weights.specs.declared.Element.{Element}
use Rattle.uca_text.specs.Texts.{Text, code_points}
use Rattle.uca_elements.specs.Rows.{Rows, Keys}
use Rattle.uca_text.specs.Occurring.{OccursInOrder}

-- the row of a key, or the implicit weights of a code point
pub data Part : Type 0 where
  Row : List ℕ → Part
  Implicit : ℕ → Part

-- the elements of a part
abbrev pub part_elements : (ℕ → List Element) → Rows → Part → List Element
part_elements implicit rows (Row key) = unwrap_or (rows key) []
part_elements implicit rows (Implicit c) = implicit c

-- the key occurs in order in the text, or the code point is one of it
abbrev pub IsPartOf : Keys → Text → Part → Type 0
IsPartOf keys t (Row key) = IsTrue (keys key) × OccursInOrder key (code_points t)
IsPartOf keys t (Implicit c) = Contains (code_points t) c
