-- A list of the classes of low code points.
use Rattle.std.specs.Prelude.{◌≡◌, ℕ, ◌<◌, List, [], length, slice_index}
use Rattle.uca_values.specs.declared.ClassRange.{ClassRange}
use Rattle.uca_values.specs.Ranges.{class_in}

-- the list has the class of each code point below its length; where it is empty, no range has a class
pub record AreLowClasses (ranges : List ClassRange) (classes : List ℕ) : Type 0 where
  pub each : (point : ℕ) → point < length classes → slice_index classes point ≡ class_in ranges point
  pub none : length classes ≡ 0 → ranges ≡ []
