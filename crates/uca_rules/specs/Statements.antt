-- The statements of rules: resets, relations and starred relations.
use Rattle.std.specs.Prelude.{◌≡◌, ◌≢◌, ◌⊎◌, ℕ, suc, ◌+◌, ◌-◌, ◌<◌, ◌==◌, Bool, true, false, List, [], ◌∷◌, ◌++◌, take, drop, codes, Option, Some, None, option_map, ⊤, map, if◌then◌else◌}
use Rattle.std.specs.List.{range_with_len}
use Rattle.std.specs.Str.{bytes_eq}
use Rattle.uca_weights.specs.declared.Strength.{Strength}
use Rattle.uca_weights.specs.declared.Strength.TheVariants.{Primary, Secondary, Tertiary, Identical}
use Rattle.uca_rules.specs.declared.characters.Character.{Character}
use Rattle.uca_rules.specs.declared.signs.Preceding.{Preceding}
use Rattle.uca_rules.specs.declared.signs.Preceding.TheVariants as lasts
use Rattle.uca_rules.specs.Characters.{codes_of, after_gaps, ampersand, asterisk, slash, less_than, equals_sign, bracket}
use Rattle.uca_rules.specs.Pieces.{Symbol, Literal, Hyphen, BeginsText, Written, BeginsWritten}

-- ---- Signs and brackets

-- a sign, and what follows it
pub record SignAt : Type 0 where
  pub strength : Strength
  pub starred : Bool
  pub rest : List Character

abbrev pub perhaps_starred : Strength → List Character → SignAt
perhaps_starred strength [] = record { strength = strength; starred = false; rest = [] }
perhaps_starred strength (c ∷ cs) =
    if c.code == asterisk
    then record { strength = strength; starred = true; rest = cs }
    else record { strength = strength; starred = false; rest = c ∷ cs }

-- how many `<` come at the front, and what follows them
abbrev pub count_less : List Character → ℕ
count_less [] = 0
count_less (c ∷ cs) = if c.code == less_than then suc (count_less cs) else 0

abbrev pub after_less : List Character → List Character
after_less [] = []
after_less (c ∷ cs) = if c.code == less_than then after_less cs else c ∷ cs

abbrev pub strength_of : ℕ → Option Strength
strength_of n = if n == 1 then Some Primary else if n == 2 then Some Secondary else if n == 3 then Some Tertiary else None

-- the sign at the front: `<`, `<<`, `<<<` or `=`, perhaps with `*`
abbrev pub sign_at : List Character → Option SignAt
sign_at [] = None
sign_at (c ∷ cs) =
    if c.code == equals_sign
    then Some (perhaps_starred Identical cs)
    else option_map (λ strength. perhaps_starred strength (after_less (c ∷ cs))) (strength_of (count_less (c ∷ cs)))

-- the strength that `[before 1]`, `[before 2]` or `[before 3]` asks for
abbrev pub bracket_of : List ℕ → Option Strength
bracket_of text =
    if bytes_eq text (codes "[before 1]") then Some Primary else
    if bytes_eq text (codes "[before 2]") then Some Secondary else
    if bytes_eq text (codes "[before 3]") then Some Tertiary else
    None

-- the bracket is ten characters long
abbrev pub bracket_at : List Character → Option Strength
bracket_at cs = bracket_of (codes_of (take 10 cs))

-- the front is not this character
abbrev pub IsNotAt : ℕ → List Character → Type 0
IsNotAt code [] = ⊤
IsNotAt code (c ∷ cs) = c.code ≢ code

-- perhaps a bracket, and after it and white space and comments the rest
abbrev pub BeginsBracket : List Character → Option Strength → List Character → Type 0
BeginsBracket cs None rest = IsNotAt bracket cs × (cs ≡ rest)
BeginsBracket cs (Some strength) rest = (bracket_at cs ≡ Some strength) × (after_gaps (drop 10 cs) ≡ rest)

-- ---- Where a text must come

-- an anchor: after `&` and perhaps a bracket
pub record IsAnchorDue (cs : List Character) (before : Option Strength) (text : List Character) : Type 0 where
  pub first : Character
  pub after : List Character
  pub are : cs ≡ first ∷ after
  pub is : first.code ≡ ampersand
  pub perhaps : BeginsBracket (after_gaps after) before text

-- a target: after a sign
pub record IsTargetDue (cs : List Character) (strength : Strength) (starred : Bool) (text : List Character) : Type 0 where
  pub after : List Character
  pub sign : sign_at cs ≡ Some (record { strength = strength; starred = starred; rest = after })
  pub gap : after_gaps after ≡ text

-- an expansion: after a target and `/`
pub record IsExpansionDue (cs text : List Character) : Type 0 where
  pub first : Character
  pub after : List Character
  pub are : after_gaps cs ≡ first ∷ after
  pub is : first.code ≡ slash
  pub gap : after_gaps after ≡ text

-- ---- Starred texts

-- `x-y` stands for code points from x to y, and none of them is a surrogate
pub record IsRange (x y : ℕ) : Type 0 where
  pub rising : x < y
  pub apart : (y < 0xD800) ⊎ (0xDFFF < x)

-- What may not be around the `-` of a range. No character, or the end of a range, comes before it; no character
-- comes after it; or the two characters give no range.
pub data IsNoRange (front back : List Symbol) : Type 0 where
  No_start : front ≡ [] → IsNoRange front back
  Hyphen_before : (before : List Symbol) (place : ℕ) → front ≡ before ++ Hyphen place ∷ [] → IsNoRange front back
  Range_before : (before : List Symbol) (place : ℕ) (x : Character) → front ≡ before ++ Hyphen place ∷ Literal x ∷ [] → IsNoRange front back
  Hyphen_after : (place : ℕ) (more : List Symbol) → back ≡ Hyphen place ∷ more → IsNoRange front back
  Wrong_ends : (before more : List Symbol) (x y : Character) → front ≡ before ++ Literal x ∷ [] → back ≡ Literal y ∷ more → ¬ (IsRange x.code y.code) → IsNoRange front back

-- no `-` of the symbols is known to stand for no range; what follows the symbols is not considered
abbrev pub HasRangesSoFar : List Symbol → Type 0
HasRangesSoFar symbols = (front back : List Symbol) (place : ℕ) → symbols ≡ front ++ Hyphen place ∷ back → ¬ (IsNoRange front back)

-- each `-` of the text stands for a range
abbrev pub HasRanges : List Symbol → Type 0
HasRanges symbols = (front back : List Symbol) (place : ℕ) → symbols ≡ front ++ Hyphen place ∷ back → (back ≢ []) × ¬ (IsNoRange front back)

abbrev pub placed_at : ℕ → List ℕ → List Character
placed_at place points = map (λ point. record { code = point; place = place }) points

-- the code points between the ends of a range, rising, each at the position of the `-`
abbrev pub between : ℕ → ℕ → ℕ → List Character
between place x y = placed_at place (range_with_len (x + 1) (y - (x + 1)))

-- The targets of a starred text: each character, and for the `-` of a range the code points between its ends.
-- (If a `-` stands for no range, there is no such text, and its value here does not matter.)
abbrev pub targets_of : List Symbol → List Character
targets_of [] = []
targets_of (Hyphen place ∷ symbols) = targets_of symbols
targets_of (Literal x ∷ []) = x ∷ []
targets_of (Literal x ∷ Literal y ∷ symbols) = x ∷ targets_of (Literal y ∷ symbols)
targets_of (Literal x ∷ Hyphen place ∷ []) = x ∷ []
targets_of (Literal x ∷ Hyphen place ∷ Hyphen another ∷ symbols) = x ∷ targets_of symbols
targets_of (Literal x ∷ Hyphen place ∷ Literal y ∷ symbols) =
    x ∷ (between place x.code y.code ++ targets_of (Literal y ∷ symbols))

-- ---- Statements

-- `&`, perhaps a bracket, and a text; a sign, a text, and perhaps `/` and a text; or a starred sign and a starred text
pub data Statement : Type 0 where
  Reset : Option Strength → Written → Statement
  Plain : Strength → Written → Option Written → Statement
  Starred : Strength → List Character → Statement

pub record BeginsReset (cs : List Character) (before : Option Strength) (anchor : Written) (rest : List Character) : Type 0 where
  pub text : List Character
  pub due : IsAnchorDue cs before text
  pub begins : BeginsWritten text anchor rest

-- after a target: `/` and a text, or anything but `/`
abbrev pub BeginsExpansion : List Character → Option Written → List Character → Type 0
BeginsExpansion cs None rest = IsNotAt slash (after_gaps cs) × (cs ≡ rest)
BeginsExpansion cs (Some expansion) rest = (text : List Character) × IsExpansionDue cs text × BeginsWritten text expansion rest

pub record BeginsPlain (cs : List Character) (strength : Strength) (target : Written) (expansion : Option Written) (rest : List Character) : Type 0 where
  pub text : List Character
  pub due : IsTargetDue cs strength false text
  pub more : List Character
  pub begins : BeginsWritten text target more
  pub expands : BeginsExpansion more expansion rest

pub record BeginsStarred (cs : List Character) (strength : Strength) (targets : List Character) (rest : List Character) : Type 0 where
  pub text : List Character
  pub due : IsTargetDue cs strength true text
  pub symbols : List Symbol
  pub begins : BeginsText true text symbols rest
  pub ranges : HasRanges symbols
  pub are : targets ≡ targets_of symbols

-- the characters begin with a statement, and after it the rest follows
abbrev pub BeginsStatement : List Character → Statement → List Character → Type 0
BeginsStatement cs (Reset before anchor) rest = BeginsReset cs before anchor rest
BeginsStatement cs (Plain strength target expansion) rest = BeginsPlain cs strength target expansion rest
BeginsStatement cs (Starred strength targets) rest = BeginsStarred cs strength targets rest

-- The characters are these statements, with white space and comments before each and after the last one; after
-- them the rest follows.
abbrev pub AreStatements : List Character → List Statement → List Character → Type 0
AreStatements cs [] rest = after_gaps cs ≡ rest
AreStatements cs (s ∷ statements) rest = (more : List Character) × BeginsStatement (after_gaps cs) s more × AreStatements more statements rest

-- ---- Chains

-- what a statement begins with: `&`, or a sign of a strength
pub data Opening : Type 0 where
  Resets : Opening
  Signs : Strength → Opening

abbrev pub opening : Statement → Opening
opening (Reset before anchor) = Resets
opening (Plain strength target expansion) = Signs strength
opening (Starred strength targets) = Signs strength

-- a relation of that strength may be the first one after a reset
abbrev pub HasStrength : Option Strength → Strength → Type 0
HasStrength None strength = ⊤
HasStrength (Some asked) strength = strength ≡ asked

-- what a statement is for the one that follows it
abbrev pub last_is : Statement → Preceding
last_is (Reset before anchor) = lasts.Reset before
last_is (Plain strength target expansion) = lasts.Relation
last_is (Starred strength targets) = lasts.Relation

-- Whether a statement that begins so may follow: a reset is first, and never follows another reset; the first
-- relation after a bracket has its strength.
abbrev pub MayFollow : Preceding → Opening → Type 0
MayFollow lasts.Nothing Resets = ⊤
MayFollow lasts.Nothing (Signs strength) = ⊥
MayFollow (lasts.Reset asked) Resets = ⊥
MayFollow (lasts.Reset asked) (Signs strength) = HasStrength asked strength
MayFollow lasts.Relation opens = ⊤

-- whether the rules may end there, or be empty
abbrev pub MayEnd : Preceding → Type 0
MayEnd lasts.Nothing = ⊤
MayEnd (lasts.Reset asked) = ⊥
MayEnd lasts.Relation = ⊤

-- each statement may follow the one before it
abbrev pub AreInOrder : Preceding → List Statement → Type 0
AreInOrder last [] = ⊤
AreInOrder last (s ∷ statements) = MayFollow last (opening s) × AreInOrder (last_is s) statements

-- what the last of the statements is
abbrev pub last_of : Preceding → List Statement → Preceding
last_of last [] = last
last_of last (s ∷ statements) = last_of (last_is s) statements

-- the statements are chains: resets, each with one or more relations after it
pub record AreChains (statements : List Statement) : Type 0 where
  pub ordered : AreInOrder lasts.Nothing statements
  pub ended : MayEnd (last_of lasts.Nothing statements)
