-- What the status of opening says of the caller's bytes and numbers.
use Rattle.std.specs.Prelude.{◌≡◌, ◌≢◌, ◌⊎◌, ℕ, List, Option, Some, None}
use Rattle.uca_weights.specs.declared.Asked.{Asked}
use Rattle.uca_values.specs.Content.{TableContent, Properties}
use Rattle.uca_values.specs.declared.faults.FaultKind.TheVariants.{Read, Memory}
use Rattle.uca_values.specs.declared.faults.TableFault.{TableFault}
use Rattle.uca_order.specs.Keyings.{Keying}
use Rattle.uca_books.specs.Books.{BookContent}
use Rattle.uca_books.specs.BookTexts as books
use Rattle.uca_number_keys.specs.Tables.{RefusesTable}
use Rattle.uca_owned.specs.Opening.{HasFingerprint, MeanFiles, Opens, RejectsTable, RejectsDataAfter}
use Rattle.uca_owned.specs.declared.faults.OpenFault.{OpenFault}
use Rattle.uca_owned.specs.declared.faults.OpenFault.TheVariants as faults
use Rattle.uca_c.specs.Numbers.{asked_of, kind_number}
use Rattle.uca_c.specs.declared.statuses.TheConstants.{ARGUMENT, TABLE, DATA, MEMORY, BOOK, DIGITS}

-- the numbers ask for settings, and the bytes mean a table and a data file: texts are keyed by these
pub record OpensBy (weighting depth : ℕ) (table_bytes data_bytes : List ℕ) (k : Keying) : Type 0 where
  pub asked : Asked
  pub is_asked : asked_of weighting depth ≡ Some asked
  pub opens : Opens asked table_bytes data_bytes k

-- the numbers ask for settings, and this is the fingerprint of what texts are keyed by
pub record FingerprintsBy (weighting depth : ℕ) (table_bytes data_bytes sum : List ℕ) : Type 0 where
  pub asked : Asked
  pub is_asked : asked_of weighting depth ≡ Some asked
  pub has : HasFingerprint asked table_bytes data_bytes sum

-- an error in a file, by its line and the number of its kind
pub record IsFileError (Rejects : TableFault → Type 0) (at number : ℕ) : Type 0 where
  pub fault : TableFault
  pub cause : Rejects fault
  pub line : at ≡ fault.line
  pub kind : number ≡ kind_number fault.kind

-- no file is rejected
abbrev pub IsNoFileError : ℕ → ℕ → Type 0
IsNoFileError line kind = (line ≡ 0) × (kind ≡ 0)

-- what a caller is told of an error: its line and the number of its kind, or the row to blame and 0, or 0 and 0; and the status
abbrev pub TellsFault : OpenFault → ℕ → ℕ → ℕ → Type 0
TellsFault (faults.Table fault) line kind status = (line ≡ fault.line) × (kind ≡ kind_number fault.kind) × (status ≡ TABLE)
TellsFault (faults.Data fault) line kind status = (line ≡ fault.line) × (kind ≡ kind_number fault.kind) × (status ≡ DATA)
TellsFault (faults.Digits row) line kind status = (line ≡ row) × (kind ≡ 0) × (status ≡ DIGITS)
TellsFault faults.Memory line kind status = (line ≡ 0) × (kind ≡ 0) × (status ≡ MEMORY)

-- the numbers ask for these settings, and the bytes mean this table and these properties
pub record Asks (weighting depth : ℕ) (table_bytes data_bytes : List ℕ) (asked : Asked) (table : TableContent) (properties : Properties) : Type 0 where
  pub is_asked : asked_of weighting depth ≡ Some asked
  pub mean : MeanFiles table_bytes data_bytes table properties

-- the numbers ask for some settings, and the bytes mean a table and a data file
abbrev pub AreRead : ℕ → ℕ → List ℕ → List ℕ → Type 0
AreRead weighting depth table_bytes data_bytes =
    (asked : Asked) × (table : TableContent) × (properties : Properties) × Asks weighting depth table_bytes data_bytes asked table properties

-- why nothing was read: a number, the table or the data file; or an allocation failed after both were read
abbrev pub IsReadStatus : ℕ → ℕ → List ℕ → List ℕ → ℕ → ℕ → ℕ → Type 0
IsReadStatus weighting depth table_bytes data_bytes line kind status =
    ((status ≡ ARGUMENT) × (asked_of weighting depth ≡ None) × IsNoFileError line kind)
    ⊎ ((status ≡ TABLE) × IsFileError (RejectsTable table_bytes) line kind)
    ⊎ ((status ≡ DATA) × IsFileError (RejectsDataAfter table_bytes data_bytes) line kind)
    ⊎ ((status ≡ MEMORY) × AreRead weighting depth table_bytes data_bytes × IsNoFileError line kind)

-- the table is none for numbers as they are asked for, and this row is to blame
abbrev pub RefusesNumbers : Asked → TableContent → Properties → ℕ → ℕ → ℕ → Type 0
RefusesNumbers asked table properties line kind status = (status ≡ DIGITS) × RefusesTable asked.numbers table properties line × (kind ≡ 0)

-- why nothing was opened: that, or such a table that was read
abbrev pub IsOpenStatus : ℕ → ℕ → List ℕ → List ℕ → ℕ → ℕ → ℕ → Type 0
IsOpenStatus weighting depth table_bytes data_bytes line kind status =
    IsReadStatus weighting depth table_bytes data_bytes line kind status
    ⊎ ((asked : Asked) × (table : TableContent) × (properties : Properties)
    × Asks weighting depth table_bytes data_bytes asked table properties × RefusesNumbers asked table properties line kind status)

-- nothing is rejected: an allocation failed
abbrev pub IsStopStatus : ℕ → ℕ → Type 0
IsStopStatus status kind = (status ≡ MEMORY) ⊎ (((status ≡ TABLE) ⊎ (status ≡ DATA)) × (kind ≡ kind_number Memory))

-- or the table that is read is none for numbers as they are asked for
abbrev pub IsOpenStopStatus : Asked → TableContent → Properties → ℕ → ℕ → ℕ → Type 0
IsOpenStopStatus asked table properties line kind status = IsStopStatus status kind ⊎ RefusesNumbers asked table properties line kind status

-- ---- With a book

-- the bytes mean this book
abbrev pub HasBook : List ℕ → Option BookContent → Type 0
HasBook bytes None = ⊥
HasBook bytes (Some book) = books.Means bytes book

-- Why the bytes of a book are rejected, whatever is left of them. Reading bytes in memory does not fail.
pub record RejectsBook (bytes : List ℕ) (fault : TableFault) : Type 0 where
  pub left : Option (List ℕ)
  pub cause : books.Refuses bytes left fault
  pub not_read : fault.kind ≢ Read

-- Why nothing was opened: a number, the table, the data file or memory, as without a book. Or these could be opened, and
-- the book could not.
abbrev pub IsCompactOpenStatus : ℕ → ℕ → List ℕ → List ℕ → List ℕ → ℕ → ℕ → ℕ → Type 0
IsCompactOpenStatus weighting depth table_bytes data_bytes book_bytes line kind status =
    IsOpenStatus weighting depth table_bytes data_bytes line kind status
    ⊎ ((status ≡ BOOK) × ((k : Keying) × OpensBy weighting depth table_bytes data_bytes k) × IsFileError (RejectsBook book_bytes) line kind)

-- no file is rejected, and no book either
abbrev pub IsCompactStopStatus : Asked → TableContent → Properties → ℕ → ℕ → ℕ → Type 0
IsCompactStopStatus asked table properties line kind status =
    IsOpenStopStatus asked table properties line kind status ⊎ ((status ≡ BOOK) × (kind ≡ kind_number Memory))
