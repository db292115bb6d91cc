-- The characters of rules, with their positions, and which of them are white space and comments.
use Rattle.std.specs.Prelude.{ℕ, ◌+◌, ◌==◌, ◌&&◌, ◌||◌, not, nat_le, Bool, true, false, List, [], ◌∷◌, chars, if◌then◌else◌}
use Rattle.std.specs.Char.{len_utf8}
use Rattle.std.specs.Str.{byte}
use Rattle.uca_rules.specs.declared.characters.Character.{Character}

-- ---- Characters that mean something in rules

abbrev pub number_sign : ℕ
number_sign = byte "#"

abbrev pub ampersand : ℕ
ampersand = byte "&"

abbrev pub apostrophe : ℕ
apostrophe = byte "'"

abbrev pub asterisk : ℕ
asterisk = byte "*"

abbrev pub hyphen : ℕ
hyphen = byte "-"

abbrev pub slash : ℕ
slash = byte "/"

abbrev pub less_than : ℕ
less_than = byte "<"

abbrev pub equals_sign : ℕ
equals_sign = byte "="

abbrev pub bracket : ℕ
bracket = byte "["

-- `\`, which no literal spells
abbrev pub backslash : ℕ
backslash = 92

-- ---- Characters with their positions

-- these characters, with the first at this position
abbrev pub placed_from : ℕ → List ℕ → List Character
placed_from place [] = []
placed_from place (c ∷ cs) = record { code = c; place = place } ∷ placed_from (place + len_utf8 c) cs

-- the characters of a text in UTF-8, each with the position of its first byte
abbrev pub characters : List ℕ → List Character
characters bytes = placed_from 0 (chars bytes)

-- where the rest of a text begins, when `length` is the length of the text in bytes
abbrev pub place_of : ℕ → List Character → ℕ
place_of length [] = length
place_of length (c ∷ rest) = c.place

abbrev pub codes_of : List Character → List ℕ
codes_of [] = []
codes_of (c ∷ cs) = c.code ∷ codes_of cs

-- ---- White space and comments

-- U+0009 to U+000D, U+0020, U+0085, U+200E, U+200F, U+2028 and U+2029: Pattern_White_Space (UAX #31)
abbrev pub is_white : ℕ → Bool
is_white c = (nat_le 9 c && nat_le c 13) || c == 32 || c == 0x85 || c == 0x200E || c == 0x200F || c == 0x2028 || c == 0x2029

-- U+000A, U+000C, U+000D, U+0085, U+2028 and U+2029
abbrev pub ends_comment : ℕ → Bool
ends_comment c = c == 10 || c == 12 || c == 13 || c == 0x85 || c == 0x2028 || c == 0x2029

-- What follows the white space and the comments at the front, or inside a comment. A comment runs from
-- `#` to the next character that ends one, or to the end of the rules.
abbrev pub after_gaps_in : Bool → List Character → List Character
after_gaps_in inside [] = []
after_gaps_in true (c ∷ cs) = after_gaps_in (not (ends_comment c.code)) cs
after_gaps_in false (c ∷ cs) =
    if is_white c.code then after_gaps_in false cs else
    if c.code == number_sign then after_gaps_in true cs else
    c ∷ cs

abbrev pub after_gaps : List Character → List Character
after_gaps cs = after_gaps_in false cs
