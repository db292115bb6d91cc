-- What an iterator of elements still gives.
use Rattle.std.specs.Prelude.{List, ◌++◌, Option}
use Rattle.std.specs.Option.{option_to_list}
use Rattle.uca_weights.specs.declared.Element.{Element}
use Rattle.uca_text.specs.Texts.{Text}
use Rattle.uca_elements.specs.Reading.{collation_elements}
use Rattle.uca_elements.specs.Collations.{Collation}

-- the second element of a pair, the elements of a row, and then what is left of the text reads
abbrev pub rest_of : Collation → Option Element → List Element → Text → List Element
rest_of c second row left = option_to_list second ++ (row ++ collation_elements c.rows c.ranges c.properties left)
