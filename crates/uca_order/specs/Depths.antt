-- Comparison and keys of texts at either depth. At `Weights` they are those of the collation elements. At `Identical`
-- one more level comes after the levels of the weights: the code points of the text in Normalization Form D (UTS #10,
-- section 1.1).
use Rattle.std.specs.Prelude.{ℕ, suc, ◌/◌, ◌%◌, List, [], ◌∷◌, ◌++◌, flat_map}
use Rattle.unicode_normalization.specs.Forms.{nfd}
use Rattle.uca_weights.specs.declared.Depth.{Depth}
use Rattle.uca_weights.specs.declared.Depth.TheVariants.{Weights, Identical}
use Rattle.uca_weights.specs.declared.Element.{Element}
use Rattle.uca_weights.specs.declared.Numbers.{Numbers}
use Rattle.uca_weights.specs.declared.Numbers.TheVariants.{AsText, ByValue}
use Rattle.uca_weights.specs.declared.Settings.{Settings}
use Rattle.uca_weights.specs.declared.Weighting.{Weighting}
use Rattle.uca_values.specs.Content.{Properties}
use Rattle.uca_text.specs.Texts.{NfdText, nfd_text}
use Rattle.uca_elements.specs.Collations.{Collation, elements_of}
use Rattle.uca_numbers.specs.Texts.{by_value}
use Rattle.uca_order.specs.Levels.{Comparison, level_lists, level_count, compare_from, key_bytes}

-- what a text is compared by: its collation elements, and its code points in Normalization Form D
pub record ReadText : Type 0 where
  pub elements : List Element
  pub points : List ℕ

abbrev pub read_text : Collation → NfdText → ReadText
read_text c text = record { elements = elements_of c text; points = text.points }

-- how many levels there are
abbrev pub levels_at : Depth → Weighting → ℕ
levels_at Weights weighting = level_count weighting
levels_at Identical weighting = suc (level_count weighting)

abbrev pub lists_at : Depth → Weighting → ReadText → List (List ℕ)
lists_at Weights weighting t = level_lists weighting t.elements
lists_at Identical weighting t = level_lists weighting t.elements ++ t.points ∷ []

-- how two texts compare: by the first level whose lists differ
abbrev pub compared_at : Depth → Weighting → ReadText → ReadText → Comparison
compared_at depth weighting left right = compare_from 1 (lists_at depth weighting left) (lists_at depth weighting right)

-- three bytes, the high one first
abbrev pub point_bytes : ℕ → List ℕ
point_bytes c = c / 65536 ∷ c / 256 % 256 ∷ c % 256 ∷ []

abbrev pub points_bytes : List ℕ → List ℕ
points_bytes points = flat_map point_bytes points

-- the sort key of a text
abbrev pub key_at : Depth → Weighting → ReadText → List ℕ
key_at Weights weighting t = key_bytes weighting t.elements
key_at Identical weighting t = key_bytes weighting t.elements ++ (0 ∷ 0 ∷ points_bytes t.points)

-- ---- Texts that are given as their code points before normalization

-- the text that is read: itself, or with the code of each number in place of it
abbrev pub written : Numbers → List ℕ → List ℕ
written AsText points = points
written ByValue points = by_value points

-- the same in Normalization Form D; the limits of a text are those of this one
abbrev pub written_text : Numbers → Properties → List ℕ → NfdText
written_text numbers properties points = nfd_text properties (written numbers points)

-- What such a text is compared by. Its elements are those of what is read; at an identical level it is itself.
abbrev pub read_points : Collation → Numbers → List ℕ → ReadText
read_points c numbers points = record { elements = elements_of c (written_text numbers c.properties points); points = nfd points }

-- the sort key of such a text
abbrev pub text_key : Collation → Settings → List ℕ → List ℕ
text_key c settings points = key_at settings.depth settings.weighting (read_points c settings.numbers points)

-- how two of them compare
abbrev pub texts_compared : Collation → Settings → List ℕ → List ℕ → Comparison
texts_compared c settings left right =
    compared_at settings.depth settings.weighting (read_points c settings.numbers left) (read_points c settings.numbers right)
