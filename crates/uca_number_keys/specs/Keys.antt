-- What texts in Normalization Form D are compared by and keyed by if their numbers are ordered by value.
use Rattle.std.specs.Prelude.{ℕ, List, map}
use Rattle.uca_weights.specs.declared.Weighting.{Weighting}
use Rattle.uca_values.specs.Content.{Properties}
use Rattle.uca_text.specs.Texts.{NfdText}
use Rattle.uca_elements.specs.Collations.{Collation, elements_of}
use Rattle.uca_order.specs.Levels.{weighted, level_list}
use Rattle.uca_order.specs.Depths.{ReadText}
use Rattle.uca_numbers.specs.Texts.{by_value}

-- a text in Normalization Form D by value, with the classes of a data file
abbrev pub text_by_value : Properties → List ℕ → NfdText
text_by_value properties points = record { points = by_value points; classes = map properties.class (by_value points) }

-- The elements of such a text are those of its codes. At an identical level it is itself.
abbrev pub read_by_value : Collation → List ℕ → ReadText
read_by_value c points = record { elements = elements_of c (text_by_value c.properties points); points = points }

-- its weights at level 1
abbrev pub first_level : Collation → Weighting → List ℕ → List ℕ
first_level c weighting points = level_list 1 (weighted weighting (read_by_value c points).elements)
