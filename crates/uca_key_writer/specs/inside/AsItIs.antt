-- Keys of texts as they are, with their numbers as any other text.
use Rattle.std.specs.Prelude.{ℕ, List}
use Rattle.uca_weights.specs.declared.Depth.{Depth}
use Rattle.uca_weights.specs.declared.Numbers.TheVariants.{AsText}
use Rattle.uca_weights.specs.declared.Weighting.{Weighting}
use Rattle.uca_elements.specs.Collations.{Collation}
use Rattle.uca_order.specs.Depths.{read_points, key_at}

-- the key of a text that is given as its code points before normalization
abbrev pub key_as_it_is : Collation → Weighting → Depth → List ℕ → List ℕ
key_as_it_is c weighting depth points = key_at depth weighting (read_points c AsText points)
