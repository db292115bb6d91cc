-- Why the bytes that wait are not moved to a line.
use Rattle.std.specs.Prelude.{ℕ, ◌<◌, ◌≤◌}
use Rattle.uca_lines.specs.declared.lines.LineFault.{LineFault}
use Rattle.uca_lines.specs.declared.lines.LineFault.TheVariants.{TooLong, Limit, Read, Memory}

-- the line would become so long: too long, or within the limit and beyond the capacity
abbrev pub IsTakeFault : LineFault → ℕ → ℕ → ℕ → Type 0
IsTakeFault TooLong capacity longest len = longest < len
IsTakeFault Limit capacity longest len = ⊥
IsTakeFault Read capacity longest len = ⊥
IsTakeFault Memory capacity longest len = (len ≤ longest) × (capacity < len)
