-- A table, a data file and a book with their sums, as a run reads them.
use Rattle.std.specs.Prelude.{ℕ, List, [], ◌∷◌}
use Rattle.uca_values.specs.Content.{Properties, TableContent}
use Rattle.uca_table.specs.DataSoFar as data_files
use Rattle.uca_table.specs.TableLines as tables
use Rattle.uca_books.specs.Books.{BookContent}
use Rattle.uca_books.specs.BookTexts as books
use Rattle.uca_run_parts.specs.declared.faults.Role.{Role}
use Rattle.uca_run_parts.specs.declared.faults.Role.TheVariants as roles
use Rattle.uca_run_parts.specs.Files.{OfLines, Reading, Done, Then}
use Rattle.uca_fingerprint_runs.specs.Sums.{MeansSummed}

-- what both files mean, and the SHA-256 of the bytes of each
pub record SummedContent : Type 0 where
  pub table : TableContent
  pub table_sum : List ℕ
  pub properties : Properties
  pub data_sum : List ℕ

-- what both files mean, and their sums, from what each of the files gives
abbrev pub summed_with : TableContent × List ℕ → Properties × List ℕ → SummedContent
summed_with table properties = record { table = table.0; table_sum = table.1; properties = properties.0; data_sum = properties.1 }

-- the table alone
abbrev pub summed_table : Reading (TableContent × List ℕ)
summed_table = Then roles.Table (MeansSummed tables.Means) (OfLines tables.Refuses) Done

-- the data file alone
abbrev pub summed_data : Reading (Properties × List ℕ)
summed_data = Then roles.Data (MeansSummed data_files.Means) (OfLines data_files.Refuses) Done

-- the table, and then the data file
abbrev pub summed_files : Reading SummedContent
summed_files = Then roles.Table (MeansSummed tables.Means) (OfLines tables.Refuses)
    (λ table. Then roles.Data (MeansSummed data_files.Means) (OfLines data_files.Refuses) (λ properties. Done (summed_with table properties)))

-- ---- A table, a data file and a book

-- what the three files mean, and the SHA-256 of the bytes of each
pub record BookedContent : Type 0 where
  pub files : SummedContent
  pub book : BookContent
  pub book_sum : List ℕ

-- what they mean, and their sums, from what the first two give and what the book gives
abbrev pub booked_with : SummedContent → BookContent × List ℕ → BookedContent
booked_with files book = record { files = files; book = book.0; book_sum = book.1 }

-- the book alone
abbrev pub summed_book : Reading (BookContent × List ℕ)
summed_book = Then roles.Book (MeansSummed books.Means) (OfLines books.Refuses) Done

-- the table, then the data file, and then the book
abbrev pub booked_files : Reading BookedContent
booked_files = Then roles.Table (MeansSummed tables.Means) (OfLines tables.Refuses)
    (λ table. Then roles.Data (MeansSummed data_files.Means) (OfLines data_files.Refuses)
    (λ properties. Then roles.Book (MeansSummed books.Means) (OfLines books.Refuses) (λ book. Done (booked_with (summed_with table properties) book))))

abbrev pub booked_roles : List Role
booked_roles = roles.Table ∷ roles.Data ∷ roles.Book ∷ []
