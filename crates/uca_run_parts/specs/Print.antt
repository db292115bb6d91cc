-- A key as a line of output.
use Rattle.std.specs.Prelude.{ℕ, ◌/◌, ◌%◌, List, [], ◌∷◌, ◌++◌}
use Rattle.std.specs.List.{join_with_byte, flat_map}
use Rattle.uca_weights.specs.declared.Depth.{Depth}
use Rattle.uca_weights.specs.declared.Depth.TheVariants.{Weights, Identical}
use Rattle.uca_lines.specs.Numbers.{upper_digit}
use Rattle.uca_order.specs.Depths.{point_bytes}

-- a byte as two upper-case hexadecimal digits
abbrev pub byte_digits : ℕ → List ℕ
byte_digits b = upper_digit (b / 16) ∷ upper_digit (b % 16) ∷ []

-- the digits of each two bytes
abbrev pub groups : List ℕ → List (List ℕ)
groups [] = []
groups (a ∷ []) = byte_digits a ∷ []
groups (a ∷ b ∷ more) = (byte_digits a ++ byte_digits b) ∷ groups more

-- the groups with one space between
unfoldable pub printed_groups : List ℕ → List ℕ
printed_groups key = join_with_byte 32 (groups key)

-- the groups, each after a space
unfoldable pub spaced_groups : List ℕ → List ℕ
spaced_groups key = flat_map (λ group. 32 ∷ group) (groups key)

-- a code point as the six digits of its three bytes in a key
abbrev pub point_digits : ℕ → List ℕ
point_digits c = flat_map byte_digits (point_bytes c)

abbrev pub spaced_point : ℕ → List ℕ
spaced_point c = 32 ∷ point_digits c

-- the identical level after the others: `0000`, and each code point after a space
abbrev pub identical_level : List ℕ → List ℕ
identical_level points = 32 ∷ 48 ∷ 48 ∷ 48 ∷ 48 ∷ flat_map spaced_point points

-- what is printed after the weights
abbrev pub printed_after : Depth → List ℕ → List ℕ
printed_after Weights points = []
printed_after Identical points = identical_level points

-- the line of a text whose weights have this key, and whose code points in Normalization Form D are these
abbrev pub print_line_at : Depth → List ℕ → List ℕ → List ℕ
print_line_at depth key points = printed_groups key ++ (printed_after depth points ++ 10 ∷ [])

-- a key alone: its digits without spaces, and LF
abbrev pub digits_line_of : List ℕ → List ℕ
digits_line_of key = flat_map byte_digits key ++ 10 ∷ []

-- a key before a line: the digits of the key without spaces, a tab, the line, and LF
abbrev pub keyed_line_of : List ℕ → List ℕ → List ℕ
keyed_line_of key line = flat_map byte_digits key ++ (9 ∷ (line ++ 10 ∷ []))
