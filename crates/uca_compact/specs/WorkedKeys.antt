-- Some compact keys that were worked out by hand.
use Rattle.std.specs.Prelude.{◌≡◌, ℕ, List, [], ◌∷◌, ◌++◌}
use Rattle.uca_weights.specs.declared.Depth.TheVariants.{Weights, Identical}
use Rattle.uca_weights.specs.declared.Weighting.TheVariants.{NonIgnorable, Shifted}
use Rattle.uca_elements.specs.WorkedTable.{plain}
use Rattle.uca_books.specs.Books.{BookContent}
use Rattle.uca_compact.specs.PlainLevels.{copies}
use Rattle.uca_compact.specs.CompactKeys.{text_parts, compact_key}

-- 1C47 and 1C60 have cells of their own, and so has 0209 at level 4
abbrev pub small_book : BookContent
small_book =
    record {
      letters = 0x1C47 ∷ 0x1C48 ∷ 0x1C60 ∷ 0x1C61 ∷ 0x2000 ∷ [];
      variables = 0x209 ∷ 0x20A ∷ [];
    }

-- the compact key of three levels, and of four
abbrev pub three : List ℕ → List ℕ → List ℕ → List ℕ
three a b c = compact_key Weights NonIgnorable small_book (record { levels = a ∷ b ∷ c ∷ []; points = [] })

abbrev pub four : List ℕ → List ℕ → List ℕ → List ℕ → List ℕ
four a b c d = compact_key Weights Shifted small_book (record { levels = a ∷ b ∷ c ∷ d ∷ []; points = [] })

pub record WorkedKeys : Type 0 where
  -- a letter, and then only plain levels: its cell, and the end that says so
  pub letter : three (0x1C47 ∷ []) (0x20 ∷ []) (2 ∷ []) ≡ 8 ∷ 2 ∷ []
  pub letter_shifted : four (0x1C47 ∷ []) (0x20 ∷ []) (2 ∷ []) (0xFFFF ∷ []) ≡ 10 ∷ 3 ∷ []
  -- a capital with an accent: levels 2 and 3 are greater than the plain ones
  pub accent : three (0x1C47 ∷ []) (0x20 ∷ 0x24 ∷ []) (8 ∷ 2 ∷ []) ≡ 8 ∷ 4 ∷ 99 ∷ 103 ∷ 2 ∷ 101 ∷ 2 ∷ []
  -- two letters, the first one a capital: level 2 is plain
  pub capital : three (0x1C60 ∷ 0x1C47 ∷ []) (copies 0x20 2) (8 ∷ 2 ∷ []) ≡ 10 ∷ 8 ∷ 3 ∷ 101 ∷ 2 ∷ []
  -- no weights at all
  pub empty : three [] [] [] ≡ 2 ∷ []
  pub empty_shifted : four [] [] [] [] ≡ 3 ∷ []
  -- 21 letters before an accent: a longest run of 20, and a run of one
  pub long_run : three (copies 0x1C47 21) (copies 0x20 21 ++ 0x24 ∷ []) (copies 2 22) ≡ copies 8 21 ++ 4 ∷ 80 ∷ 99 ∷ 103 ∷ 1 ∷ []
  -- a longest run, and then the end of the level
  pub longest_run : three (0x1C47 ∷ []) (copies 0x20 20) (copies 2 20) ≡ 8 ∷ 4 ∷ 80 ∷ 1 ∷ []
  -- a space between two letters: level 4 is less than the plain one
  pub space : four (0x1C47 ∷ 0x1C60 ∷ []) (copies 0x20 2) (copies 2 2) (0xFFFF ∷ 0x209 ∷ 0xFFFF ∷ []) ≡ 10 ∷ 12 ∷ 2 ∷ 3 ∷ 1 ∷ 2 ∷ []
  -- greater weights with an offset of one byte and of two: their cells are 1C48 to 1C5F, and 2000 to FFFF
  pub greater : three (0x1C4A ∷ 0x2345 ∷ []) (copies 0x20 2) (copies 2 2) ≡ 9 ∷ 2 ∷ 12 ∷ 0x03 ∷ 0x45 ∷ 2 ∷ []
  -- lesser weights with such offsets: their cells are 0001 to 001F at level 2, and 0001 to 0208 at level 4
  pub lesser : three (0x1C47 ∷ []) (0x10 ∷ []) (2 ∷ []) ≡ 8 ∷ 0 ∷ 3 ∷ 0 ∷ 15 ∷ 1 ∷ []
  pub lesser_shifted : four [] [] [] (0x103 ∷ []) ≡ 4 ∷ 1 ∷ 0 ∷ 0x01 ∷ 0x02 ∷ 0 ∷ []
  -- accents and cases with an offset of one byte and of two: the cells start at 008F and 018F, and at 0021 and 0121
  pub wide_accents : three (0x1C47 ∷ []) (0x20 ∷ 0x100 ∷ 0x200 ∷ []) (copies 2 3) ≡ 8 ∷ 4 ∷ 99 ∷ 210 ∷ 0x71 ∷ 211 ∷ 0x00 ∷ 0x71 ∷ 1 ∷ []
  pub wide_cases : three (0x1C47 ∷ []) (0x20 ∷ []) (0x30 ∷ 0x321 ∷ []) ≡ 8 ∷ 3 ∷ 126 ∷ 0x0F ∷ 127 ∷ 0x02 ∷ 0x00 ∷ 0 ∷ []
  -- implicit weights: the lead and the weight after it count once
  pub han : three (0xFB40 ∷ 0xCE00 ∷ []) (0x20 ∷ []) (2 ∷ []) ≡ 12 ∷ 0xDB ∷ 0x40 ∷ 12 ∷ 0xAE ∷ 0x00 ∷ 2 ∷ []
  -- an identical level: U+0061 and U+0301 follow as UTF-8
  pub identical : compact_key Identical NonIgnorable small_book
      (text_parts Identical NonIgnorable (record { elements = plain 0x1C47 0x20 2 ∷ plain 0 0x24 2 ∷ []; points = 0x61 ∷ 0x301 ∷ [] }))
      ≡ 8 ∷ 4 ∷ 99 ∷ 103 ∷ 1 ∷ 0x61 ∷ 0xCC ∷ 0x81 ∷ []
