-- The digits of a code point are text.
use Rattle.std.proofs.Common.{◌≡◌, ℕ, zero, suc, ◌<◌, true, List, [], ◌∷◌, arith}
use Rattle.std.specs.List.{list_all}
use Rattle.std.specs.Char.{IsScalar}
use Rattle.std.specs.Str.{IsAscii, IsUtf8}
use Rattle.std.proofs.lemmas.Bool.{and_parts}
use Rattle.std.proofs.lemmas.Bool.Decides.{nat_tests}
use Rattle.std.proofs.lemmas.Str.{IsUtf8-from_ascii}
use Rattle.uca_lines.specs.Numbers.{is_hex_digit}
use Rattle.uca_table.specs.Canonical.{point_text}
use Rattle.uca_table.proofs.CanonicalBytes.{point_all}

digit_is_small : (b : ℕ) → is_hex_digit b ≡ true → b < 128
digit_is_small b h = grind (arith, nat_tests)

digits_are_ascii : (text : List ℕ) → list_all is_hex_digit text ≡ true → IsAscii text
digits_are_ascii [] h i = omega arith
digits_are_ascii (b ∷ bs) h zero = digit_is_small b (and_parts _ _ h).0
digits_are_ascii (b ∷ bs) h (suc i) = digits_are_ascii bs (and_parts _ _ h).1 i

pub point_is_text : (c : ℕ) → IsScalar c → IsUtf8 (point_text c)
point_is_text c scalar = IsUtf8-from_ascii (point_text c) (digits_are_ascii (point_text c) (point_all c scalar))
