-- The rows of a table file (UTS #10, section 9.1): `0061 0301 ; [.1C50.0020.0002]`.
use Rattle.std.specs.Prelude.{◌≡◌, ◌≢◌, ℕ, ◌<◌, ◌≤◌, ◌⊎◌, List, [], ◌∷◌, length, None, Contains}
use Rattle.uca_values.specs.declared.faults.FaultKind.{FaultKind}
use Rattle.uca_values.specs.declared.faults.FaultKind.TheVariants as kinds
use Rattle.uca_lines.specs.Fields.{is_semicolon, up_to, from_first, skip_blanks, word_of}
use Rattle.uca_lines.specs.Numbers.{code_point_of}
use Rattle.uca_lines.specs.Leads.{Leads, BeginsCodePoint}
use Rattle.uca_values.specs.Content.{Entry, keys_of}
use Rattle.uca_table.specs.Elements.{AreElements, ElementsCause}

-- 1 to 16 code points, with blanks between them
pub record IsKey (text key : List ℕ) : Type 0 where
  pub points : Leads BeginsCodePoint text key []
  pub some : 1 ≤ length key
  pub few : length key ≤ 16

-- a key, `;` and elements
pub record IsRow (text : List ℕ) (row : Entry) : Type 0 where
  pub rest : List ℕ
  pub cut : from_first is_semicolon text ≡ 59 ∷ rest
  pub key : IsKey (up_to is_semicolon text) row.key
  pub elements : AreElements rest row.elements

-- The first cause in the text of a key is of this kind. There is no word, or after at most 16 code points comes another
-- word, or there are more than 16.
abbrev pub KeyCause : List ℕ → FaultKind → Type 0
KeyCause text kinds.Line = skip_blanks text ≡ []
KeyCause text kinds.CodePoint = (front : List ℕ) × (rest : List ℕ) × Leads BeginsCodePoint text front rest × (rest ≢ []) × (code_point_of (word_of rest) ≡ None)
    × (length front ≤ 16)
KeyCause text kinds.Limit = (front : List ℕ) × (rest : List ℕ) × Leads BeginsCodePoint text front rest × (16 < length front)
KeyCause text _ = ⊥

-- the first cause why a row may not come after these is of this kind
abbrev pub AddCause : List Entry → Entry → FaultKind → Type 0
AddCause rows row kinds.DuplicateKey = Contains (keys_of rows) row.key
AddCause rows row kinds.Limit = ¬ (Contains (keys_of rows) row.key) × (200000 ≤ length rows)
AddCause rows row _ = ⊥

-- The first cause in the text of a row is of this kind: in its key; it has no `;` after a key; or in its elements.
abbrev pub RowTextCause : List ℕ → FaultKind → Type 0
RowTextCause text kind = KeyCause (up_to is_semicolon text) kind
    ⊎ ((from_first is_semicolon text ≡ []) × (kind ≡ kinds.Line) × ((key : List ℕ) × IsKey (up_to is_semicolon text) key))
    ⊎ ((rest : List ℕ) × (from_first is_semicolon text ≡ 59 ∷ rest) × ElementsCause rest kind × ((key : List ℕ) × IsKey (up_to is_semicolon text) key))

-- the first cause of a row with this text after these rows
abbrev pub RowCause : List Entry → List ℕ → FaultKind → Type 0
RowCause rows text kind = RowTextCause text kind ⊎ ((row : Entry) × IsRow text row × AddCause rows row kind)
