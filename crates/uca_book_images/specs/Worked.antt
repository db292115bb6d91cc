-- Some images of starts and of a book, worked out by hand, and a key that stays.
use Rattle.std.specs.Prelude.{◌≡◌, ℕ, List, [], ◌∷◌}
use Rattle.uca_weights.specs.declared.Depth.TheVariants.{Weights}
use Rattle.uca_weights.specs.declared.Level.TheVariants.{One}
use Rattle.uca_weights.specs.declared.Weighting.TheVariants.{NonIgnorable}
use Rattle.uca_weights.specs.Maps.{WeightImages}
use Rattle.uca_weights.specs.Runs.{weight_image}
use Rattle.uca_books.specs.Books.{BookContent}
use Rattle.uca_compact.specs.CompactKeys.{compact_key}
use Rattle.uca_book_images.specs.BookImages.{starts_image, book_image}

-- 47 to 5F become 50 to 68, and 60 to 6F become 80 to 8F
abbrev pub moving : WeightImages
moving = weight_image One (record { from = 0x47; to = 0x50; count = 0x19 } ∷ record { from = 0x60; to = 0x80; count = 0x10 } ∷ [])

-- 10 to 1F stay, and 30 to 3F become 20 to 2F
abbrev pub closing : WeightImages
closing = weight_image One (record { from = 0x10; to = 0x10; count = 0x10 } ∷ record { from = 0x30; to = 0x20; count = 0x10 } ∷ [])

-- the images of starts of level 1
abbrev pub letters_image : WeightImages → List ℕ → List ℕ
letters_image images starts = starts_image images 0xFFFF 1 starts

abbrev pub old_book : BookContent
old_book = record { letters = 0x47 ∷ 0x48 ∷ 0x60 ∷ []; variables = 0x48 ∷ 0x60 ∷ [] }

abbrev pub new_book : BookContent
new_book = record { letters = 0x50 ∷ 0x51 ∷ 0x80 ∷ []; variables = 0x51 ∷ 0x80 ∷ [] }

-- the compact key of a key with these letters and plain levels
abbrev pub key_of : BookContent → List ℕ → List ℕ
key_of book letters = compact_key Weights NonIgnorable book (record { levels = letters ∷ (0x20 ∷ 0x20 ∷ []) ∷ (2 ∷ 2 ∷ []) ∷ []; points = [] })

pub record WorkedImages : Type 0 where
  -- each start has an image
  pub moved : book_image moving old_book ≡ new_book
  -- 70 has none: it comes after 8F, the image of 6F
  pub none : letters_image moving (0x60 ∷ 0x70 ∷ []) ≡ 0x80 ∷ 0x90 ∷ []
  -- 46 has none, nor has a weight below it but 0: it would be 1, where the first cell begins
  pub first : letters_image moving (0x46 ∷ 0x47 ∷ []) ≡ 2 ∷ 0x50 ∷ []
  -- nothing is left of the cell 20 to 2F: 20 comes after 1F, the image of 30 is 20 too, and it comes after that
  pub gap : letters_image closing (0x10 ∷ 0x20 ∷ 0x30 ∷ []) ≡ 0x10 ∷ 0x20 ∷ 0x21 ∷ []
  -- if 20 were the greatest weight
  pub greatest : starts_image closing 0x20 1 (0x10 ∷ 0x20 ∷ 0x30 ∷ 0x31 ∷ []) ≡ 0x10 ∷ 0x20 ∷ []
  -- 47 and 4A become 50 and 53: they have the first byte 8, and 9 with the offset 2
  pub old_key : key_of old_book (0x47 ∷ 0x4A ∷ []) ≡ 8 ∷ 9 ∷ 2 ∷ 2 ∷ []
  pub new_key : key_of new_book (0x50 ∷ 0x53 ∷ []) ≡ 8 ∷ 9 ∷ 2 ∷ 2 ∷ []
