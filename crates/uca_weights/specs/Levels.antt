-- The weight of an element at a level, the number of a level, and the level of a strength.
use Rattle.std.specs.Prelude.{ℕ, Option, Some, None}
use Rattle.uca_weights.specs.declared.Element.{Element}
use Rattle.uca_weights.specs.declared.Level.{Level}
use Rattle.uca_weights.specs.declared.Level.TheVariants.{One, Two, Three}
use Rattle.uca_weights.specs.declared.Strength.{Strength}
use Rattle.uca_weights.specs.declared.Strength.TheVariants.{Primary, Secondary, Tertiary, Identical}

-- the weight of an element at a level
abbrev pub weight : Level → Element → ℕ
weight One e = e.primary
weight Two e = e.secondary
weight Three e = e.tertiary

-- levels are counted from 1
abbrev pub level_number : Level → ℕ
level_number One = 1
level_number Two = 2
level_number Three = 3

-- the level at which texts of a strength differ, if at one
abbrev pub level_of : Strength → Option Level
level_of Primary = Some One
level_of Secondary = Some Two
level_of Tertiary = Some Three
level_of Identical = None
