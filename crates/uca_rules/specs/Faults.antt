-- Why bytes of rules are rejected, and at which byte.
use Rattle.std.specs.Prelude.{◌≡◌, ◌≢◌, ◌⊎◌, ℕ, ◌+◌, ◌<◌, ◌≤◌, ◌==◌, ◌||◌, ⊤, Bool, true, false, IsTrue, IsFalse, List, [], ◌∷◌, ◌++◌, length, Option, Some, None, IsUtf8, if◌then◌else◌}
use Rattle.std.specs.Str.{IsValidUpTo}
use Rattle.unicode_normalization.specs.Forms.{nfd}
use Rattle.uca_weights.specs.declared.Strength.{Strength}
use Rattle.uca_values.specs.Content.{Properties}
use Rattle.uca_relations.specs.declared.Relation.{Relation}
use Rattle.uca_relations.specs.Relations.{IsTarget, IsLate}
use Rattle.uca_rules.specs.declared.characters.Character.{Character}
use Rattle.uca_rules.specs.declared.signs.Preceding.{Preceding}
use Rattle.uca_rules.specs.declared.signs.Preceding.TheVariants as lasts
use Rattle.uca_rules.specs.declared.faults.RuleFaultKind.{RuleFaultKind}
use Rattle.uca_rules.specs.declared.faults.RuleFaultKind.TheVariants as kinds
use Rattle.uca_rules.specs.Characters.{characters, place_of, after_gaps, ampersand, apostrophe, backslash, bracket, equals_sign, less_than, slash}
use Rattle.uca_rules.specs.Pieces.{Symbol, Literal, Hyphen, piece_at, begins_piece, ArePieces, symbols_of, EndsText, BeginsText, points_of, Written, BeginsWritten}
use Rattle.uca_rules.specs.Statements.{Statement, Starred, Opening, Resets, Signs, SignAt, sign_at, count_less, bracket_at, IsAnchorDue, IsTargetDue, IsExpansionDue, IsNoRange, AreStatements, MayFollow, AreInOrder, last_of, MayEnd}
use Rattle.uca_rules.specs.Meaning.{Taken, taken, relations_of}

-- ---- Causes where a text must come

-- `&`, `<`, `=` or `/`
abbrev pub is_part : ℕ → Bool
is_part c = c == ampersand || c == less_than || c == equals_sign || c == slash

-- the end, or one of these
abbrev pub IsEmptyText : List Character → Type 0
IsEmptyText [] = ⊤
IsEmptyText (c ∷ rest) = IsTrue (is_part c.code)

-- another character, with which no text begins
abbrev pub IsNoText : Bool → List Character → Type 0
IsNoText starred [] = ⊥
IsNoText starred (c ∷ rest) = IsFalse (is_part c.code) × IsFalse (begins_piece starred c.code)

-- After some pieces of the text one more begins with this character, and is not a whole piece. It is a backslash
-- without its character or its digits, or a quote without an end.
pub record IsBroken (starred : Bool) (text : List Character) (code place : ℕ) : Type 0 where
  pub pieces : List (List Symbol)
  pub first : Character
  pub after : List Character
  pub are : ArePieces starred text pieces (first ∷ after)
  pub begins : first.code ≡ code
  pub none : piece_at starred (first ∷ after) ≡ None
  pub at : place ≡ first.place

-- a text has more than 16 code points in Normalization Form D
pub record IsLong (text : List Character) : Type 0 where
  pub symbols : List Symbol
  pub rest : List Character
  pub begins : BeginsText false text symbols rest
  pub long : 16 < length (nfd (points_of symbols))

-- the first character of a quoted piece, whether or not it has an end
abbrev pub opened : List Character → List Symbol
opened [] = []
opened (c ∷ []) = []
opened (c ∷ d ∷ cs) = if c.code == apostrophe then (if d.code == apostrophe then [] else Literal d ∷ []) else []

-- the `-` at a position stands for no range: because of what is around it, or because the text ends after it
pub record IsWrongHyphen (text : List Character) (place : ℕ) : Type 0 where
  pub pieces : List (List Symbol)
  pub rest : List Character
  pub are : ArePieces true text pieces rest
  pub front : List Symbol
  pub back : List Symbol
  pub symbols : symbols_of pieces ++ opened rest ≡ front ++ Hyphen place ∷ back
  pub wrong : IsNoRange front back ⊎ (EndsText true rest × (back ≡ []))

-- a cause in a text that must come; `end` is the length of the rules
abbrev pub TextCause : ℕ → Bool → List Character → ℕ → RuleFaultKind → Type 0
TextCause end starred text place kinds.EmptyText = IsEmptyText text × (place ≡ place_of end text)
TextCause end starred text place kinds.Escape = IsBroken starred text backslash place
TextCause end false text place kinds.Syntax = (IsNoText false text × (place ≡ place_of end text)) ⊎ IsBroken false text apostrophe place
TextCause end true text place kinds.Syntax = (IsNoText true text × (place ≡ place_of end text)) ⊎ IsBroken true text apostrophe place ⊎ IsWrongHyphen text place
TextCause end false text place kinds.Limit = IsLong text × (place ≡ place_of end text)
TextCause end starred text place _ = ⊥

-- after a target that is not starred, and `/`, an expansion must come
pub record IsSlashAfter (cs : List Character) (strength : Strength) (text : List Character) : Type 0 where
  pub first : List Character
  pub due : IsTargetDue cs strength false first
  pub target : Written
  pub more : List Character
  pub begins : BeginsWritten first target more
  pub slashed : IsExpansionDue more text

-- a text, starred or not, must come in the statement that begins there
abbrev pub IsTextDue : List Character → Opening → Bool → List Character → Type 0
IsTextDue cs Resets true text = ⊥
IsTextDue cs Resets false text = (before : Option Strength) × IsAnchorDue cs before text
IsTextDue cs (Signs strength) true text = IsTargetDue cs strength true text
IsTextDue cs (Signs strength) false text = IsTargetDue cs strength false text ⊎ IsSlashAfter cs strength text

-- in the statement that begins there, and may follow the last one, a text must come, and it has a cause
pub record InText (end : ℕ) (last : Preceding) (cs : List Character) (place : ℕ) (kind : RuleFaultKind) : Type 0 where
  pub opens : Opening
  pub starred : Bool
  pub text : List Character
  pub follows : MayFollow last opens
  pub due : IsTextDue cs opens starred text
  pub cause : TextCause end starred text place kind

-- ---- Causes where a statement begins

-- whether a statement that may follow begins with the character
abbrev pub may_begin : Preceding → ℕ → Bool
may_begin lasts.Nothing c = c == ampersand
may_begin (lasts.Reset asked) c = c == less_than || c == equals_sign
may_begin lasts.Relation c = c == ampersand || c == less_than || c == equals_sign

abbrev pub IsMisplaced : Preceding → List Character → Type 0
IsMisplaced last [] = ¬ (MayEnd last)
IsMisplaced last (c ∷ cs) = IsFalse (may_begin last c.code)

-- after `&` a bracket that is none of the three
pub record IsWrongBracket (cs : List Character) (place : ℕ) : Type 0 where
  pub first : Character
  pub after : List Character
  pub are : cs ≡ first ∷ after
  pub is : first.code ≡ ampersand
  pub opens : Character
  pub more : List Character
  pub gap : after_gaps after ≡ opens ∷ more
  pub square : opens.code ≡ bracket
  pub none : bracket_at (opens ∷ more) ≡ None
  pub at : place ≡ opens.place

-- there is a sign
abbrev pub IsSign : List Character → Type 0
IsSign cs = (sign : SignAt) × (sign_at cs ≡ Some sign)

-- after a bracket, a sign of another strength
abbrev pub IsWrongStrength : Preceding → List Character → Type 0
IsWrongStrength (lasts.Reset (Some asked)) cs = (sign : SignAt) × (sign_at cs ≡ Some sign) × (sign.strength ≢ asked)
IsWrongStrength last cs = ⊥

-- a cause at the first character of a statement, after others that give this many relations
abbrev pub StatementCause : ℕ → Preceding → ℕ → List Character → ℕ → RuleFaultKind → Type 0
StatementCause end last count cs place kinds.Syntax =
    ((IsMisplaced last cs ⊎ (4 ≤ count_less cs)) × (place ≡ place_of end cs)) ⊎ (MayFollow last Resets × IsWrongBracket cs place)
StatementCause end last count cs place kinds.BeforeStrength = IsWrongStrength last cs × (place ≡ place_of end cs)
StatementCause end last count cs place kinds.Limit = (count ≡ 5000) × IsSign cs × (place ≡ place_of end cs)
StatementCause end last count cs place _ = ⊥

-- ---- Causes in relations that are read

abbrev pub RelationCause : List Relation → Relation → RuleFaultKind → Type 0
RelationCause before r kinds.DuplicateTarget = IsTarget before r.target.points
RelationCause before r kinds.LateTarget = IsLate before r
RelationCause before r _ = ⊥

-- one of these relations has a cause after those before it, and the position is that of its target
pub record InRelation (ts : List Taken) (place : ℕ) (kind : RuleFaultKind) : Type 0 where
  pub before : List Taken
  pub t : Taken
  pub after : List Taken
  pub are : ts ≡ before ++ t ∷ after
  pub at : place ≡ t.place
  pub cause : RelationCause (relations_of before) t.relation kind

-- Of the last statement's targets one is too long; or it is one too many, and not the first, for which the sign is named.
pub record InStarred (properties : Properties) (statements : List Statement) (place : ℕ) (kind : RuleFaultKind) : Type 0 where
  pub limit : kind ≡ kinds.Limit
  pub before : List Statement
  pub strength : Strength
  pub front : List Character
  pub c : Character
  pub back : List Character
  pub are : statements ≡ before ++ Starred strength (front ++ c ∷ back) ∷ []
  pub at : place ≡ c.place
  pub over : ((length (taken properties before) + length front ≡ 5000) × (front ≢ [])) ⊎ (16 < length (nfd (c.code ∷ [])))

-- ---- All causes

-- The characters of rules, which end at `end`, begin with whole statements in order. After these, where `rest` begins,
-- or in what they give there is a cause.
pub record HasCause (properties : Properties) (end : ℕ) (cs : List Character) (place : ℕ) (kind : RuleFaultKind) : Type 0 where
  pub statements : List Statement
  pub rest : List Character
  pub lead : AreStatements cs statements rest
  pub ordered : AreInOrder lasts.Nothing statements
  pub cause : InText end (last_of lasts.Nothing statements) rest place kind
      ⊎ StatementCause end (last_of lasts.Nothing statements) (length (taken properties statements)) rest place kind
      ⊎ InRelation (taken properties statements) place kind
      ⊎ InStarred properties statements place kind

-- the rules are UTF-8 and not too long, and there is a cause in their characters
pub record IsInside (properties : Properties) (bytes : List ℕ) (place : ℕ) (kind : RuleFaultKind) : Type 0 where
  pub few_bytes : length bytes ≤ 1048576
  pub utf8 : IsUtf8 bytes
  pub has : HasCause properties (length bytes) (characters bytes) place kind

-- A cause of the kind is at the byte. `Memory` may come at any byte, since any allocation may fail.
abbrev pub IsCause : Properties → List ℕ → ℕ → RuleFaultKind → Type 0
IsCause properties bytes place kinds.Memory = place ≤ length bytes
IsCause properties bytes place kinds.Utf8 = (length bytes ≤ 1048576) × IsValidUpTo bytes place
IsCause properties bytes place kinds.Limit = ((1048576 < length bytes) × (place ≡ 1048576)) ⊎ IsInside properties bytes place kinds.Limit
IsCause properties bytes place kind = IsInside properties bytes place kind
