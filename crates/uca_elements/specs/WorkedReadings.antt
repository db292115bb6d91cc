-- The collation elements of some texts, worked out over the definitions.
use Rattle.std.specs.Prelude.{◌≡◌, [], ◌∷◌}
use Rattle.uca_elements.specs.WorkedTable.{plain, variable, small_rows, with_contraction, with_long_contraction, with_unlisted_start, with_letters}
use Rattle.uca_elements.specs.WorkedTable.{elements_under}

pub record WorkedReadings : Type 0 where
  -- the empty text has no elements
  pub empty : elements_under small_rows [] ≡ []
  -- rows of the table, in turn
  pub letter : elements_under small_rows (0x61 ∷ []) ≡ plain 0x1C47 0x20 2 ∷ []
  pub accent : elements_under small_rows (0x61 ∷ 0x301 ∷ []) ≡ plain 0x1C47 0x20 2 ∷ plain 0 0x24 2 ∷ []
  pub space : elements_under small_rows (0x61 ∷ 0x20 ∷ 0x62 ∷ []) ≡ plain 0x1C47 0x20 2 ∷ variable 0x209 0x20 2 ∷ plain 0x1C60 0x20 2 ∷ []
  -- implicit weights: core Han, other Han, a range of the header, and any other code point
  pub core_han : elements_under small_rows (0x4E00 ∷ []) ≡ plain 0xFB40 0x20 2 ∷ plain 0xCE00 0 0 ∷ []
  pub other_han : elements_under small_rows (0x20000 ∷ []) ≡ plain 0xFB84 0x20 2 ∷ plain 0x8000 0 0 ∷ []
  pub in_range : elements_under small_rows (0x17000 ∷ []) ≡ plain 0xFB00 0x20 2 ∷ plain 0x8000 0 0 ∷ []
  pub end_of_range : elements_under small_rows (0x18AFF ∷ []) ≡ plain 0xFB00 0x20 2 ∷ plain 0x9AFF 0 0 ∷ []
  pub last_code_point : elements_under small_rows (0x10FFFF ∷ []) ≡ plain 0xFBE1 0x20 2 ∷ plain 0xFFFF 0 0 ∷ []
  -- the longest key counts, also where a shorter beginning is no key; and where it does not fit, the next shorter one
  pub longest : elements_under with_letters (0x61 ∷ 0x62 ∷ 0x41 ∷ []) ≡ plain 0x1C70 0x20 2 ∷ []
  pub not_the_longest : elements_under with_letters (0x61 ∷ 0x62 ∷ []) ≡ plain 0x1C47 0x20 2 ∷ plain 0x1C60 0x20 2 ∷ []
  -- a non-starter that is skipped is read after the contraction
  pub skipped : elements_under with_contraction (0x61 ∷ 0x323 ∷ 0x301 ∷ []) ≡ plain 0x1C50 0x20 2 ∷ plain 0 0x2C 2 ∷ []
  pub skipped_before_starter : elements_under with_contraction (0x61 ∷ 0x323 ∷ 0x301 ∷ 0x62 ∷ [])
      ≡ plain 0x1C50 0x20 2 ∷ plain 0 0x2C 2 ∷ plain 0x1C60 0x20 2 ∷ []
  -- a non-starter of the same class blocks, and so does a starter
  pub blocked : elements_under with_contraction (0x61 ∷ 0x300 ∷ 0x301 ∷ []) ≡ plain 0x1C47 0x20 2 ∷ plain 0 0x25 2 ∷ plain 0 0x24 2 ∷ []
  pub after_starter : elements_under with_contraction (0x61 ∷ 0x62 ∷ 0x301 ∷ []) ≡ plain 0x1C47 0x20 2 ∷ plain 0x1C60 0x20 2 ∷ plain 0 0x24 2 ∷ []
  -- a non-starter that was removed blocks no later one of its class
  pub removed_twice : elements_under with_long_contraction (0x61 ∷ 0x323 ∷ 0x301 ∷ 0x300 ∷ []) ≡ plain 0x1C58 0x20 2 ∷ plain 0 0x2C 2 ∷ []
  -- non-starters before and after a removed one keep their order
  pub skipped_twice : elements_under with_contraction (0x61 ∷ 0x323 ∷ 0x301 ∷ 0x300 ∷ []) ≡ plain 0x1C50 0x20 2 ∷ plain 0 0x2C 2 ∷ plain 0 0x25 2 ∷ []
  -- a code point that no key begins with is not extended; a key that begins the text is matched
  pub not_extended : elements_under with_unlisted_start (0x78 ∷ 0x323 ∷ 0x301 ∷ [])
      ≡ plain 0xFBC0 0x20 2 ∷ plain 0x8078 0 0 ∷ plain 0 0x2C 2 ∷ plain 0 0x24 2 ∷ []
  pub matched : elements_under with_unlisted_start (0x78 ∷ 0x301 ∷ []) ≡ plain 0x1C90 0x20 2 ∷ []
