-- Lines that begin with the digits of a key, and the same lines with another key in its place.
use Rattle.std.specs.Prelude.{◌≡◌, ℕ, ◌==◌, Bool, true, false, List, [], ◌∷◌, ◌++◌, Option, Some, None, MatchOption, option_map, if◌then◌else◌, ⊤}
use Rattle.std.specs.List.{flat_map}
use Rattle.uca_weights.specs.declared.Depth.{Depth}
use Rattle.uca_weights.specs.declared.Weighting.{Weighting}
use Rattle.uca_lines.specs.Numbers.{hex_of}
use Rattle.uca_books.specs.Books.{BookContent}
use Rattle.uca_compact.specs.CompactKeys.{compact_key}
use Rattle.uca_compact.specs.StoredParts.{IsCompactOf, IsOfNoKey, stored_parts}
use Rattle.uca_tailorings.specs.Images.{Maps}
use Rattle.uca_tailorings.specs.Moves.{moved_key}
use Rattle.uca_run_parts.specs.declared.faults.StoredKeyKind.{StoredKeyKind}
use Rattle.uca_run_parts.specs.declared.faults.StoredKeyKind.TheVariants.{NoImage, OtherKey, NoCompactKey}
use Rattle.uca_run_parts.specs.Print.{byte_digits}

-- ---- The key of a line

-- The field of a line's key, without its spaces. The field is what comes before the first tab, or the whole line: `1C48 0020<TAB>a b` has
-- `1C480020`, `1 C` has `1C`, and `<TAB>1C` has nothing.
abbrev pub digits_of : List ℕ → List ℕ
digits_of [] = []
digits_of (byte ∷ line) = if byte == 9 then [] else if byte == 32 then digits_of line else byte ∷ digits_of line

-- a byte before others, where there are both
abbrev pub byte_before : Option ℕ → Option (List ℕ) → Option (List ℕ)
byte_before None bytes = None
byte_before (Some byte) bytes = option_map (λ more. byte ∷ more) bytes

-- The bytes that upper-case hexadecimal digits stand for, two digits each: `1C48` is 1C and 48. `1C4`, `1c48` and `1C4G` are none.
abbrev pub bytes_of : List ℕ → Option (List ℕ)
bytes_of [] = Some []
bytes_of (a ∷ []) = None
bytes_of (a ∷ b ∷ more) = byte_before (hex_of (a ∷ b ∷ [])) (bytes_of more)

-- the key that a line begins with, if it begins with one
abbrev pub key_in : List ℕ → Option (List ℕ)
key_in line = bytes_of (digits_of line)

-- ---- Another key in its place

-- The line with these digits in place of those of its key, in turn. Its spaces stay, and so does all from its first tab on: `1C48 0020<TAB>a b`
-- with `1C600021` is `1C60 0021<TAB>a b`.
abbrev pub with_digits : List ℕ → List ℕ → List ℕ
with_digits [] digits = []
with_digits (byte ∷ line) [] = byte ∷ line
with_digits (byte ∷ line) (digit ∷ digits) =
    if byte == 9 then byte ∷ line else if byte == 32 then byte ∷ with_digits line (digit ∷ digits) else digit ∷ with_digits line digits

-- All from the first tab on: of `1C48 0020<TAB>a b` it is `<TAB>a b`, and of `1C48` it is nothing.
abbrev pub from_tab : List ℕ → List ℕ
from_tab [] = []
from_tab (byte ∷ line) = if byte == 9 then byte ∷ line else from_tab line

-- The line with this key in place of its own, where the spaces of its field stay, or where they do not: `1C48 0020<TAB>a b` with 08 02
-- is `0802<TAB>a b` then.
abbrev pub with_key : (keeps_spaces : Bool) → (line key : List ℕ) → List ℕ
with_key true line key = with_digits line (flat_map byte_digits key)
with_key false line key = flat_map byte_digits key ++ from_tab line

-- ---- What changes keys

-- What a run makes of keys.
pub record KeyChange : Type 1 where
  -- which key becomes which other one, and which becomes none
  pub becomes : List ℕ → Option (List ℕ) → Type 0
  -- the error that a key becomes none
  pub none : StoredKeyKind
  -- whether the spaces of the field of a key stay
  pub keeps_spaces : Bool

-- A key is put through the maps. Where these send the primary weight 1C48 to 1C60 and 0020 and 0002 to themselves,
-- `1C48 0000 0020 0000 0002<TAB>b` becomes `1C60 0000 0020 0000 0002<TAB>b` at depth `Weights` under `NonIgnorable`.
abbrev pub moves : Depth → Weighting → Maps → KeyChange
moves depth weighting maps = record { becomes = λ key new. moved_key maps depth weighting key ≡ new; none = NoImage; keeps_spaces = true }

-- A key becomes its compact key. By a book in which 1C47 has the cell 08, the key 1C47 0000 0020 0000 0002 becomes 08 02, at
-- depth `Weights` under `NonIgnorable`.
abbrev pub compacts : Depth → Weighting → BookContent → KeyChange
compacts depth weighting book = record {
  becomes = λ key new. option_map (compact_key depth weighting book) (stored_parts depth weighting key) ≡ new;
  none = OtherKey;
  keeps_spaces = false;
}

-- A compact key becomes the key that it is made of.
abbrev pub expands : Depth → Weighting → BookContent → KeyChange
expands depth weighting book = record {
  becomes = λ compact key. MatchOption key (IsOfNoKey depth weighting book compact) (λ k. IsCompactOf depth weighting book k compact);
  none = NoCompactKey;
  keeps_spaces = false;
}

-- ---- Lines

-- The line begins with a key that becomes another one, and the new line has that one.
pub record LineBecomes (change : KeyChange) (line new : List ℕ) : Type 0 where
  pub key : List ℕ
  pub new_key : List ℕ
  pub has : key_in line ≡ Some key
  pub becomes : change.becomes key (Some new_key)
  pub put : new ≡ with_key change.keeps_spaces line new_key

-- Each of these lines becomes the new line at its place.
abbrev pub LinesBecome : KeyChange → List (List ℕ) → List (List ℕ) → Type 0
LinesBecome change [] [] = ⊤
LinesBecome change (line ∷ lines) (new ∷ news) = LineBecomes change line new × LinesBecome change lines news
LinesBecome change _ _ = ⊥

-- ---- After a header

-- a header, and the one in its place
pub record Headers : Type 0 where
  pub old : List ℕ
  pub new : List ℕ

-- Each of these lines becomes the new line at its place. Where there are headers, the old one is the first line, and the
-- new one comes in its place.
abbrev pub LinesBecomeAfter : KeyChange → Option Headers → List (List ℕ) → List (List ℕ) → Type 0
LinesBecomeAfter change None lines news = LinesBecome change lines news
LinesBecomeAfter change (Some headers) (line ∷ lines) (new ∷ news) =
    (line ≡ headers.old) × (new ≡ headers.new) × LinesBecome change lines news
LinesBecomeAfter change (Some headers) _ _ = ⊥
