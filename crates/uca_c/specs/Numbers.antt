-- The numbers by which C says settings and a range, and gets kinds of errors and orders.
use Rattle.std.specs.Prelude.{ℕ, ℤ, pos, negsuc, ◌==◌, if◌then◌else◌, Option, Some, None}
use Rattle.std.specs.declared.cmp.Ordering.{Ordering}
use Rattle.std.specs.declared.cmp.Ordering.TheVariants.{Less, Equal, Greater}
use Rattle.uca_weights.specs.declared.Asked.{Asked}
use Rattle.uca_weights.specs.declared.Depth.{Depth}
use Rattle.uca_weights.specs.declared.Depth.TheVariants.{Weights, Identical}
use Rattle.uca_weights.specs.declared.Numbers.{Numbers}
use Rattle.uca_weights.specs.declared.Numbers.TheVariants.{AsText, ByValue}
use Rattle.uca_weights.specs.declared.Weighting.{Weighting}
use Rattle.uca_weights.specs.declared.Weighting.TheVariants.{NonIgnorable, Shifted}
use Rattle.uca_c.specs.declared.numbers.RangeOf.{RangeOf}
use Rattle.uca_c.specs.declared.numbers.RangeOf.TheVariants.{SameLetters, SameAccents, Begins}
use Rattle.uca_c.specs.declared.numbers.End.{End}
use Rattle.uca_c.specs.declared.numbers.End.TheVariants.{Low, High}
use Rattle.uca_values.specs.declared.faults.FaultKind.{FaultKind}
use Rattle.uca_values.specs.declared.faults.FaultKind.TheVariants as kinds

-- the weighting that a number asks for, or that of the table; other numbers have no meaning
abbrev pub weighting_of : ℕ → Option (Option Weighting)
weighting_of n = if n == 0 then Some None else if n == 1 then Some (Some NonIgnorable) else if n == 2 then Some (Some Shifted) else None

-- How far texts are compared that a number asks for, and how their numbers are. It is a sum: 1 is for an identical level,
-- and 2 for numbers by value. Other numbers have no meaning.
abbrev pub depth_of : ℕ → Option (Depth × Numbers)
depth_of n =
    if n == 0 then Some (Weights, AsText) else if n == 1 then Some (Identical, AsText) else
    if n == 2 then Some (Weights, ByValue) else if n == 3 then Some (Identical, ByValue) else None

-- the settings that two numbers ask for
abbrev pub both_asked : Option (Option Weighting) → Option (Depth × Numbers) → Option Asked
both_asked (Some weighting) (Some depth) = Some (record { weighting = weighting; depth = depth.0; numbers = depth.1 })
both_asked (Some weighting) None = None
both_asked None depth = None

abbrev pub asked_of : (weighting depth : ℕ) → Option Asked
asked_of weighting depth = both_asked (weighting_of weighting) (depth_of depth)

-- the range that a number asks for; other numbers have no meaning
abbrev pub range_of : ℕ → Option RangeOf
range_of n = if n == 1 then Some SameLetters else if n == 2 then Some SameAccents else if n == 3 then Some Begins else None

-- the end of a range that a number asks for; other numbers have no meaning
abbrev pub end_of : ℕ → Option End
end_of n = if n == 0 then Some Low else if n == 1 then Some High else None

abbrev pub kind_number : FaultKind → ℕ
kind_number kinds.Line = 1
kind_number kinds.Order = 2
kind_number kinds.CodePoint = 3
kind_number kinds.Weight = 4
kind_number kinds.DuplicateKey = 5
kind_number kinds.Range = 6
kind_number kinds.Limit = 7
kind_number kinds.Read = 8
kind_number kinds.Memory = 9

abbrev pub order_number : Ordering → ℤ
order_number Less = negsuc 0
order_number Equal = pos 0
order_number Greater = pos 1
