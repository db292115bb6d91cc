-- What the reader's values stand for.
use Rattle.std.specs.Prelude.{◌≡◌, ◌⊎◌, ℕ, Bool, IsTrue, List, [], ◌∷◌, length, take, ◌++◌, Option, Some, None, option_map}
use denote.Bor.{Bor}
use Rattle.uca_rules.specs.declared.characters.Character.{Character}
use Rattle.uca_rules.specs.declared.faults.RuleFault.{RuleFault}
use Rattle.uca_rules.specs.declared.faults.RuleFaultKind.{RuleFaultKind}
use Rattle.uca_rules.specs.declared.faults.RuleFaultKind.TheVariants as kinds
use Rattle.uca_rules.specs.declared.signs.Sign.{Sign}
use Rattle.uca_rules.specs.Characters.{place_of, apostrophe, backslash}
use Rattle.uca_rules.specs.Pieces.{Symbol, Literal, Hyphen, Piece}
use Rattle.uca_rules.specs.Statements.{SignAt, IsRange, IsNoRange}
use Rattle.uca_rules.specs.Faults.{TextCause, opened}

abbrev pub sign_view : Sign → SignAt
sign_view s = record { strength = s.strength; starred = s.starred; rest = s.rest.now }

-- the members of a slice that may be there
abbrev pub slice_view : Option (Bor (List Character)) → Option (List Character)
slice_view o = option_map (λ s. s.now) o

-- a piece of one symbol
abbrev pub one_symbol : Symbol → List Character → Piece
one_symbol symbol rest = record { symbols = symbol ∷ []; rest = rest }

-- the piece of an escape that stands for a character, after its backslash
abbrev pub escaped_piece : Character → Option (ℕ × Bor (List Character)) → Option Piece
escaped_piece first o = option_map (λ found. one_symbol (Literal (record { code = found.0; place = first.place })) found.1.now) o

-- The symbols of the piece at the front are at the end of new, and the rest follows. Or there is no such piece, and the
-- old symbols are still the first ones.
abbrev pub Takes : List Symbol → List Symbol → Option (List Character) → Option Piece → Type 0
Takes old new None piece = (piece ≡ None) × (take (length old) new ≡ old)
Takes old new (Some rest) piece = (symbols : List Symbol) × (piece ≡ Some (record { symbols = symbols; rest = rest })) × (new ≡ old ++ symbols)

-- an allocation failed while the character at the position was read
abbrev pub IsMemoryAt : ℕ → RuleFault → Type 0
IsMemoryAt place fault = (fault.kind ≡ kinds.Memory) × (fault.byte ≡ place)

-- an error in a text that must come
abbrev pub IsTextFault : ℕ → Bool → List Character → RuleFault → Type 0
IsTextFault end starred text fault = IsMemoryAt (place_of end text) fault ⊎ TextCause end starred text fault.byte fault.kind

-- what is around the `-` at the position shows that it stands for no range
pub record ShowsWrongHyphen (symbols : List Symbol) (place : ℕ) : Type 0 where
  pub front : List Symbol
  pub back : List Symbol
  pub are : symbols ≡ front ++ Hyphen place ∷ back
  pub wrong : IsNoRange front back

-- the last symbol is a hyphen at the position
pub record EndsInHyphen (symbols : List Symbol) (place : ℕ) : Type 0 where
  pub front : List Symbol
  pub are : symbols ≡ front ++ Hyphen place ∷ []

-- from the last of the symbols to this one there is a range
pub record BeginsRange (symbols : List Symbol) (last : Symbol) : Type 0 where
  pub front : List Symbol
  pub x : Character
  pub y : Character
  pub are : symbols ≡ front ++ Literal x ∷ []
  pub is : last ≡ Literal y
  pub range : IsRange x.code y.code

-- the first character is this one, at this position
pub record BeginsAt (code : ℕ) (characters : List Character) (place : ℕ) : Type 0 where
  pub first : Character
  pub after : List Character
  pub are : characters ≡ first ∷ after
  pub is : first.code ≡ code
  pub at : place ≡ first.place

-- After these symbols a text breaks off: at a backslash, at an apostrophe, or at a hyphen that the first character of
-- quotes shows to be wrong.
abbrev pub BreaksOff : Bool → List Symbol → List Character → ℕ → RuleFaultKind → Type 0
BreaksOff starred symbols rest place kinds.Escape = BeginsAt backslash rest place
BreaksOff starred symbols rest place kinds.Syntax = BeginsAt apostrophe rest place ⊎ (IsTrue starred × ShowsWrongHyphen (symbols ++ opened rest) place)
BreaksOff starred symbols rest place _ = ⊥
