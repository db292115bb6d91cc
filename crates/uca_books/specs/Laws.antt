-- What bytes mean as a book, as statements.
use Rattle.std.specs.Prelude.{◌≡◌, ℕ, List}
use Rattle.uca_books.specs.Books.{BookContent, IsBook}
use Rattle.uca_books.specs.BookTexts.{Means}

-- Bytes mean at most one book.
abbrev pub BytesMeanAtMostOneBook : Type 0
BytesMeanAtMostOneBook = (bytes : List ℕ) (a b : BookContent) → Means bytes a → Means bytes b → a ≡ b

-- The text of a book: it means the book, and no other text does.
pub record IsTextOf (bytes : List ℕ) (book : BookContent) : Type 0 where
  pub means : Means bytes book
  pub only : (others : List ℕ) → Means others book → others ≡ bytes

-- Each book has one text.
abbrev pub EachBookHasOneText : Type 0
EachBookHasOneText = (book : BookContent) → IsBook book → (bytes : List ℕ) × IsTextOf bytes book
