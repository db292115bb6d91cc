-- Which weights keep their place in the image of a book. For example, 4A is 2 above the start of its cell 48 to 5F, and
-- 53 is 2 above the start of 51 to 7F. Both offsets are one byte.
use Rattle.std.specs.Prelude.{◌≡◌, ℕ, ◌-◌, ◌<◌, ◌≤◌, List, [], ◌∷◌, length, map, nat_lt, if◌then◌else◌}
use Rattle.std.specs.List.{AllByRecursion}
use Rattle.uca_weights.specs.declared.Level.TheVariants.{One}
use Rattle.uca_weights.specs.Maps.{WeightImages, Sends, IsRisingMap}
use Rattle.uca_books.specs.Books.{BookContent, RiseAfter}
use Rattle.uca_compact.specs.Forms.{letters_form, variables_form}
use Rattle.uca_compact.specs.CompactKeys.{offset_bytes}
use Rattle.uca_tailorings.specs.Images.{Maps}
use Rattle.uca_tailorings.specs.Moves.{AreSent}
use Rattle.uca_book_images.specs.BookImages.{start_image, starts_image, book_image}
use Rattle.uca_book_images.specs.KeptKeys.{KeepsPlace}

-- Where each start has an image, these are the image, if they rise and fit.
abbrev pub StartsBecomeTheirImages : Type 0
StartsBecomeTheirImages = (images : WeightImages) (greatest : ℕ) (starts new_starts : List ℕ) → AreSent images starts new_starts →
    RiseAfter 1 new_starts → AllByRecursion (λ w. w ≤ greatest) new_starts → starts_image images greatest 1 starts ≡ new_starts

-- where the cell of a weight starts, and where it ends: the first cell starts at `start`, and the last one ends before
-- `end`
abbrev pub cell_start : (start : ℕ) → List ℕ → ℕ → ℕ
cell_start start [] w = start
cell_start start (next ∷ later) w = if nat_lt w next then start else cell_start next later w

abbrev pub cell_end : List ℕ → (end : ℕ) → ℕ → ℕ
cell_end [] end w = end
cell_end (next ∷ later) end w = if nat_lt w next then next else cell_end later end w

-- A weight and a new weight are as far from the starts of their cells, and as many bytes say so. The first cells start
-- at 1, and the last ones end before `end`.
pub record KeepsOffset (end : ℕ) (starts new_starts : List ℕ) (w x : ℕ) : Type 0 where
  pub offset : w - cell_start 1 starts w ≡ x - cell_start 1 new_starts x
  pub bytes : length (offset_bytes (cell_end starts end w - cell_start 1 starts w) 0)
      ≡ length (offset_bytes (cell_end new_starts end x - cell_start 1 new_starts x) 0)

-- Each start becomes its image, or, if it has none, the weight after the last image below it. Then a weight and its image
-- are in cells of one number. So the weight keeps its place, if its offset stays.
pub record WeightsKeepTheirPlaces (images : WeightImages) (book new_book : BookContent) : Type 0 where
  pub letters : new_book.letters ≡ map (start_image images) book.letters → (later w x : ℕ) → 0 < w → Sends images w x →
      KeepsOffset 0x1_0000 book.letters new_book.letters w x → KeepsPlace (letters_form book later) (letters_form new_book later) w x
  pub variables : new_book.variables ≡ map (start_image images) book.variables → (later w x : ℕ) → 0 < w → w < 0xFFFF → Sends images w x →
      KeepsOffset 0xFFFF book.variables new_book.variables w x → KeepsPlace (variables_form book later) (variables_form new_book later) w x

abbrev pub RisingMapsKeepPlaces : Type 0
RisingMapsKeepPlaces = (images : WeightImages) (book new_book : BookContent) → IsRisingMap One images → WeightsKeepTheirPlaces images book new_book

-- ---- The image of a book, and a key that is put through maps

-- no start of the book is pushed up by the one before it, and none is left out
pub record KeepsStarts (images : WeightImages) (book : BookContent) : Type 0 where
  pub letters : (book_image images book).letters ≡ map (start_image images) book.letters
  pub variables : (book_image images book).variables ≡ map (start_image images) book.variables

-- The weights of a key in its levels. Those of levels 1 and 4 keep their offsets in the image of the book, and those of
-- levels 2 and 3 stay.
abbrev pub WeightsStay : Maps → BookContent → List (List ℕ) → Type 0
WeightsStay maps book (letters ∷ accents ∷ cases ∷ later) =
    AllByRecursion (λ w. (x : ℕ) → Sends maps.primary w x → KeepsOffset 0x1_0000 book.letters (book_image maps.primary book).letters w x) letters
    × AllByRecursion (λ w. Sends maps.secondary w w) accents
    × AllByRecursion (λ w. Sends maps.tertiary w w) cases
    × AllByRecursion (AllByRecursion (λ w. (x : ℕ) → Sends maps.primary w x → KeepsOffset 0xFFFF book.variables (book_image maps.primary book).variables w x)) later
WeightsStay maps book levels = ⊥
