-- The keys of some texts, worked out over the definitions, as groups of two bytes.
use Rattle.std.specs.Prelude.{◌≡◌, ℕ, List, [], ◌∷◌}
use Rattle.uca_weights.specs.declared.Weighting.{Weighting}
use Rattle.uca_weights.specs.declared.Weighting.TheVariants.{NonIgnorable, Shifted}
use Rattle.uca_values.specs.Content.{Entry}
use Rattle.uca_elements.specs.WorkedTable.{plain, variable, small_rows, with_contraction, with_long_contraction, elements_under}
use Rattle.uca_order.specs.Levels.{key_bytes, level_bytes}

-- the key of a text under some rows, with the header and the data file of the worked examples, is these groups
abbrev pub HasKey : List Entry → Weighting → List ℕ → List ℕ → Type 0
HasKey rows weighting points groups = key_bytes weighting (elements_under rows points) ≡ level_bytes groups

pub record WorkedKeys : Type 0 where
  -- one level after the other
  pub letter : HasKey small_rows NonIgnorable (0x61 ∷ []) (0x1C47 ∷ 0 ∷ 0x20 ∷ 0 ∷ 2 ∷ [])
  pub accent : HasKey small_rows NonIgnorable (0x61 ∷ 0x301 ∷ []) (0x1C47 ∷ 0 ∷ 0x20 ∷ 0x24 ∷ 0 ∷ 2 ∷ 2 ∷ [])
  -- the empty text has the separators alone
  pub empty : HasKey small_rows NonIgnorable [] (0 ∷ 0 ∷ [])
  pub empty_shifted : HasKey small_rows Shifted [] (0 ∷ 0 ∷ 0 ∷ [])
  -- implicit weights: core Han, other Han, a range of the header, and any other code point
  pub core_han : HasKey small_rows NonIgnorable (0x4E00 ∷ []) (0xFB40 ∷ 0xCE00 ∷ 0 ∷ 0x20 ∷ 0 ∷ 2 ∷ [])
  pub other_han : HasKey small_rows NonIgnorable (0x20000 ∷ []) (0xFB84 ∷ 0x8000 ∷ 0 ∷ 0x20 ∷ 0 ∷ 2 ∷ [])
  pub in_range : HasKey small_rows NonIgnorable (0x17000 ∷ []) (0xFB00 ∷ 0x8000 ∷ 0 ∷ 0x20 ∷ 0 ∷ 2 ∷ [])
  pub last_code_point : HasKey small_rows NonIgnorable (0x10FFFF ∷ []) (0xFBE1 ∷ 0xFFFF ∷ 0 ∷ 0x20 ∷ 0 ∷ 2 ∷ [])
  pub core_han_shifted : HasKey small_rows Shifted (0x4E00 ∷ []) (0xFB40 ∷ 0xCE00 ∷ 0 ∷ 0x20 ∷ 0 ∷ 2 ∷ 0 ∷ 0xFFFF ∷ 0xFFFF ∷ [])
  -- a variable element counts at the fourth level alone, and takes the accents after it along
  pub space : HasKey small_rows Shifted (0x61 ∷ 0x20 ∷ 0x62 ∷ []) (0x1C47 ∷ 0x1C60 ∷ 0 ∷ 0x20 ∷ 0x20 ∷ 0 ∷ 2 ∷ 2 ∷ 0 ∷ 0xFFFF ∷ 0x209 ∷ 0xFFFF ∷ [])
  pub space_accent : HasKey small_rows Shifted (0x20 ∷ 0x301 ∷ []) (0 ∷ 0 ∷ 0 ∷ 0x209 ∷ [])
  -- contractions: a mark is skipped, is blocked, and is removed before another one
  pub skipped : HasKey with_contraction NonIgnorable (0x61 ∷ 0x323 ∷ 0x301 ∷ []) (0x1C50 ∷ 0 ∷ 0x20 ∷ 0x2C ∷ 0 ∷ 2 ∷ 2 ∷ [])
  pub blocked : HasKey with_contraction NonIgnorable (0x61 ∷ 0x300 ∷ 0x301 ∷ []) (0x1C47 ∷ 0 ∷ 0x20 ∷ 0x25 ∷ 0x24 ∷ 0 ∷ 2 ∷ 2 ∷ 2 ∷ [])
  pub removed_twice : HasKey with_long_contraction NonIgnorable (0x61 ∷ 0x323 ∷ 0x301 ∷ 0x300 ∷ []) (0x1C58 ∷ 0 ∷ 0x20 ∷ 0x2C ∷ 0 ∷ 2 ∷ 2 ∷ [])
  -- of elements: a completely ignorable one has no weight at any level, and ends nothing that a variable one began
  pub ignored : key_bytes Shifted (plain 0 0 0 ∷ []) ≡ level_bytes (0 ∷ 0 ∷ 0 ∷ [])
  pub ignored_between : key_bytes Shifted (variable 0x209 0x20 2 ∷ plain 0 0 0 ∷ plain 0 0x24 2 ∷ []) ≡ level_bytes (0 ∷ 0 ∷ 0 ∷ 0x209 ∷ [])
  -- a variable one without a primary weight counts nowhere, and begins and ends nothing
  pub weightless : key_bytes Shifted (variable 0 0x20 2 ∷ plain 0 0x24 2 ∷ []) ≡ level_bytes (0 ∷ 0x24 ∷ 0 ∷ 2 ∷ 0 ∷ 0xFFFF ∷ [])
