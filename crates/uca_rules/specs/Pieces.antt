-- The texts of rules, and the pieces that they are made of.
use Rattle.std.specs.Prelude.{◌≡◌, ◌≢◌, ℕ, ◌==◌, ◌&&◌, ◌||◌, not, nat_le, nat_eq, Bool, false, IsFalse, List, [], ◌∷◌, length, take, drop, Option, Some, None, option_map, flat_map, ⊤, if◌then◌else◌}
use Rattle.std.specs.List.{list_all}
use Rattle.std.specs.Char.{is_digit}
use Rattle.std.specs.Str.{byte}
use Rattle.std.specs.Str.Parse.{digits_value}
use lib.Utf8.{scalar}
use Rattle.uca_rules.specs.declared.characters.Character.{Character}
pub use Rattle.uca_rules.specs.declared.characters.Symbol.{Symbol}
pub use Rattle.uca_rules.specs.declared.characters.Symbol.TheVariants.{Literal, Hyphen}
use Rattle.uca_rules.specs.Characters.{is_white, codes_of, place_of, apostrophe, backslash, hyphen}

-- The symbols of a text are its characters, and in a starred text the hyphens of ranges.

-- what the piece at the front of a text gives, and what follows it
pub record Piece : Type 0 where
  pub symbols : List Symbol
  pub rest : List Character

-- an ASCII letter or digit, or a character from U+0080 on that is no white space
abbrev pub is_plain : ℕ → Bool
is_plain c = (nat_le 48 c && nat_le c 57) || (nat_le 65 c && nat_le c 90) || (nat_le 97 c && nat_le c 122) || (nat_le 0x80 c && not (is_white c))

abbrev pub with_literal : Character → Option Piece → Option Piece
with_literal c None = None
with_literal c (Some piece) = Some (record { symbols = Literal c ∷ piece.symbols; rest = piece.rest })

-- the inside of a quoted piece, up to the next single apostrophe; `''` stands for an apostrophe
abbrev pub inside_quotes : List Character → Option Piece
inside_quotes [] = None
inside_quotes (c ∷ []) = if c.code == apostrophe then Some (record { symbols = []; rest = [] }) else None
inside_quotes (c ∷ d ∷ cs) =
    if c.code == apostrophe
    then (if d.code == apostrophe then with_literal c (inside_quotes cs) else Some (record { symbols = []; rest = d ∷ cs }))
    else with_literal c (inside_quotes (d ∷ cs))

-- after an apostrophe: another one, and both stand for an apostrophe; or one or more characters in quotes
abbrev pub after_apostrophe : Character → List Character → Option Piece
after_apostrophe c [] = None
after_apostrophe c (d ∷ cs) = if d.code == apostrophe then Some (record { symbols = Literal c ∷ []; rest = cs }) else inside_quotes (d ∷ cs)

-- n hexadecimal digits, of either case, that give a code point which is no surrogate
abbrev pub are_digits : ℕ → List ℕ → Bool
are_digits n digits = nat_eq (length digits) n && list_all (λ c. is_digit c 16) digits && scalar (digits_value 16 digits)

-- the code point that n digits at the front give
abbrev pub number_at : ℕ → List Character → Option ℕ
number_at n cs = let digits = codes_of (take n cs) in if are_digits n digits then Some (digits_value 16 digits) else None

abbrev pub numbered : Character → ℕ → List Character → Option Piece
numbered c n cs = option_map (λ code. record { symbols = Literal (record { code = code; place = c.place }) ∷ []; rest = drop n cs }) (number_at n cs)

-- after a backslash: `u` and four digits, `U` and eight, or another character, which stands for itself
abbrev pub after_backslash : Character → List Character → Option Piece
after_backslash c [] = None
after_backslash c (d ∷ cs) =
    if d.code == byte "u" then numbered c 4 cs else
    if d.code == byte "U" then numbered c 8 cs else
    Some (record { symbols = Literal (record { code = d.code; place = c.place }) ∷ []; rest = cs })

-- whether a piece may begin with the character: of a starred text also `-`
abbrev pub begins_piece : Bool → ℕ → Bool
begins_piece starred c = c == apostrophe || c == backslash || is_plain c || (starred && c == hyphen)

-- the piece at the front
abbrev pub piece_at : Bool → List Character → Option Piece
piece_at starred [] = None
piece_at starred (c ∷ cs) =
    if c.code == apostrophe then after_apostrophe c cs else
    if c.code == backslash then after_backslash c cs else
    if is_plain c.code then Some (record { symbols = Literal c ∷ []; rest = cs }) else
    if starred && c.code == hyphen then Some (record { symbols = Hyphen c.place ∷ []; rest = cs }) else
    None

-- The characters are pieces, one after another, that give these symbols, and then the rest.
abbrev pub ArePieces : Bool → List Character → List (List Symbol) → List Character → Type 0
ArePieces starred cs [] rest = cs ≡ rest
ArePieces starred cs (symbols ∷ pieces) rest = (more : List Character) × (piece_at starred cs ≡ Some (record { symbols = symbols; rest = more })) × ArePieces starred more pieces rest

-- no piece begins there
abbrev pub EndsText : Bool → List Character → Type 0
EndsText starred [] = ⊤
EndsText starred (c ∷ cs) = IsFalse (begins_piece starred c.code)

abbrev pub symbols_of : List (List Symbol) → List Symbol
symbols_of pieces = flat_map (λ symbols. symbols) pieces

-- the characters begin with a text: one or more pieces, as many as there are
pub record BeginsText (starred : Bool) (cs : List Character) (symbols : List Symbol) (rest : List Character) : Type 0 where
  pub pieces : List (List Symbol)
  pub some : pieces ≢ []
  pub are : ArePieces starred cs pieces rest
  pub give : symbols ≡ symbols_of pieces
  pub ends : EndsText starred rest

-- the code points of a text
abbrev pub points_of : List Symbol → List ℕ
points_of [] = []
points_of (Literal c ∷ symbols) = c.code ∷ points_of symbols
points_of (Hyphen place ∷ symbols) = points_of symbols

-- a text as it is written: the position of its first byte, and its code points
pub record Written : Type 0 where
  pub place : ℕ
  pub points : List ℕ

-- the characters begin with a text that is not starred
pub record BeginsWritten (cs : List Character) (text : Written) (rest : List Character) : Type 0 where
  pub symbols : List Symbol
  pub begins : BeginsText false cs symbols rest
  pub is : text ≡ record { place = place_of 0 cs; points = points_of symbols }
