-- The values of bytes as hexadecimal digits, where other bytes have a value too.
use Rattle.std.specs.Prelude.{ℕ, ◌+◌, ◌*◌, List, [], ◌∷◌}
use Rattle.std.specs.Option.{unwrap_or}
use Rattle.uca_lines.specs.Numbers.{hex_of}

-- the value of a digit; of another byte a number with more than six digits
unfoldable pub value_or_more : ℕ → ℕ
value_or_more byte = unwrap_or (hex_of (byte ∷ [])) 0x100_0000

-- the number of bytes with these values, after those of another number
unfoldable pub number_or_more : ℕ → List ℕ → ℕ
number_or_more n [] = n
number_or_more n (byte ∷ bytes) = number_or_more (n * 16 + value_or_more byte) bytes
