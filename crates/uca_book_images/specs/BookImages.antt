-- The image of a book under a map of weights. For example, a map sends 47 to 5F to the weights from 50 on, and 60 to
-- 80. Then the starts 47, 48 and 60 become 50, 51 and 80.
use Rattle.std.specs.Prelude.{ℕ, zero, suc, List, [], ◌∷◌, max, nat_le, unwrap_or, if◌then◌else◌}
use Rattle.uca_weights.specs.Maps.{WeightImages}
use Rattle.uca_books.specs.Books.{BookContent}

-- the image of the last weight below this one that has an image; 0 where none has
abbrev pub last_image : WeightImages → ℕ → ℕ
last_image images zero = 0
last_image images (suc w) = unwrap_or (images w) (last_image images w)

-- A start becomes its image. If it has none, it becomes the weight after the last image below it.
abbrev pub start_image : WeightImages → ℕ → ℕ
start_image images start = unwrap_or (images start) (suc (last_image images start))

-- The images of starts, after one that comes before them. Each is greater than the one before it: if its own image is
-- not, it is the weight after that one. From the first on that would be above the greatest, the starts are left out.
abbrev pub starts_image : WeightImages → (greatest before : ℕ) → List ℕ → List ℕ
starts_image images greatest before [] = []
starts_image images greatest before (start ∷ later) =
    let next = max (suc before) (start_image images start) in
    if nat_le next greatest then next ∷ starts_image images greatest next later else []

-- the image of a book; the first cell of each level begins at 1 before and after
abbrev pub book_image : WeightImages → BookContent → BookContent
book_image images book =
    record { letters = starts_image images 0xFFFF 1 book.letters; variables = starts_image images 0xFFFE 1 book.variables }
