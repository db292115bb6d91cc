-- What is true of the images of all books, and of all keys.
use Rattle.std.specs.Prelude.{◌≡◌, ℕ, ◌<◌, List, Some, option_map}
use Rattle.std.specs.List.{AllByRecursion}
use Rattle.uca_weights.specs.declared.Depth.{Depth}
use Rattle.uca_weights.specs.declared.Weighting.{Weighting}
use Rattle.uca_weights.specs.Maps.{WeightImages}
use Rattle.uca_books.specs.Books.{BookContent, IsBook}
use Rattle.uca_compact.specs.Forms.{forms_of}
use Rattle.uca_compact.specs.CompactKeys.{KeyParts, compact_key}
use Rattle.uca_compact.specs.StoredParts.{stored_parts, IsCompactOf}
use Rattle.uca_tailorings.specs.Images.{Maps, AreRisingMaps}
use Rattle.uca_tailorings.specs.Moves.{moved_key}
use Rattle.uca_book_images.specs.BookImages.{book_image}
use Rattle.uca_book_images.specs.KeptKeys.{KeyKeepsPlaces, MapsKeepPlaces}
use Rattle.uca_book_images.specs.KeptPlaces.{KeepsStarts, WeightsStay}

-- The image of a book is a book, whatever the map is.
abbrev pub ImagesAreBooks : Type 0
ImagesAreBooks = (images : WeightImages) (book : BookContent) → IsBook book → IsBook (book_image images book)

-- A key that keeps its places has the compact key that it had.
abbrev pub KeptKeysStay : Type 0
KeptKeysStay = (depth : Depth) (weighting : Weighting) (book new_book : BookContent) (k new : KeyParts) →
    KeyKeepsPlaces weighting book new_book k new → compact_key depth weighting book k ≡ compact_key depth weighting new_book new

-- A stored key is put through rising maps, and each of its weights keeps its place. Then the compact key of the new
-- key, under the new book, is that of the old one.
abbrev pub MovedKeysStay : Type 0
MovedKeysStay = (maps : Maps) → AreRisingMaps maps → (depth : Depth) (weighting : Weighting) (book new_book : BookContent) (key new : List ℕ) (k : KeyParts) →
    moved_key maps depth weighting key ≡ Some new → stored_parts depth weighting key ≡ Some k →
    MapsKeepPlaces maps 1 (forms_of weighting book) (forms_of weighting new_book) k.levels →
    option_map (compact_key depth weighting new_book) (stored_parts depth weighting new) ≡ Some (compact_key depth weighting book k)

-- A book becomes its image, and a stored key is put through the same rising maps. No start of the book is pushed up or left
-- out, and the weights of the key stay in their cells. Then the new key has, by the new book, the compact key that the old
-- one has by the old book. A start of the book need not have an image.
abbrev pub BooksKeepCompactKeys : Type 0
BooksKeepCompactKeys = (maps : Maps) → AreRisingMaps maps → (depth : Depth) (weighting : Weighting) (book : BookContent) (key new : List ℕ) (k : KeyParts) →
    AllByRecursion (λ b. b < 256) key → moved_key maps depth weighting key ≡ Some new → stored_parts depth weighting key ≡ Some k →
    KeepsStarts maps.primary book → WeightsStay maps book k.levels →
    IsCompactOf depth weighting (book_image maps.primary book) new (compact_key depth weighting book k)
