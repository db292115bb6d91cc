-- The parts of a run of keys: what was read of its files, and the header that is made of their sums.
use Rattle.std.specs.Prelude.{◌≡◌, ℕ, ◌+◌, ◌-◌, ◌^◌, min, List, [], Bool, true, false, Option, Some, None, IfSome, option_map, Result, Ok, Err}
use Rattle.sha2.specs.Sha256.{sha256}
use Rattle.uca_weights.specs.declared.Settings.{Settings}
use Rattle.uca_values.specs.Content.{Properties, TableContent}
use Rattle.uca_books.specs.Books.{BookContent}
use Rattle.uca_fingerprint.specs.Fingerprints.{compact_fingerprint_text, fingerprint_text}
use Rattle.uca_fingerprint.specs.KeyHeaders.{compact_header, key_header}
use Rattle.uca_lines.specs.Lines.{ended}
use Rattle.uca_run_parts.specs.declared.faults.Role.TheVariants as roles
use Rattle.uca_run_parts.specs.declared.faults.RunFault.{RunFault}
use Rattle.uca_run_parts.specs.declared.faults.RunFault.TheVariants.{Write}
use Rattle.uca_run_parts.specs.Files.{Reading, Done, then_book, then_data, then_table}
use Rattle.uca_key_runs.specs.declared.key_files.FileSums.{FileSums}
use Rattle.uca_key_runs.specs.declared.keys.KeyForm.{KeyForm}
use Rattle.uca_key_runs.specs.declared.keys.KeyForm.TheVariants.{Alone, Digits, BeforeLine}
use Rattle.uca_key_runs.specs.KeysRun.{KeyContent}

-- what a table, a data file and a book mean, without their sums
pub record PackedContent : Type 0 where
  pub table : TableContent
  pub properties : Properties
  pub book : Option BookContent

abbrev pub packed_with : TableContent → Properties → Option BookContent → PackedContent
packed_with table properties book = record { table = table; properties = properties; book = book }

abbrev pub packed_booked : Reading PackedContent
packed_booked = then_table roles.Table (λ table. then_data roles.Data (λ properties. then_book (λ book. Done (packed_with table properties (Some book)))))

-- these are the sums of the files
pub record AreSums (content : KeyContent) (sums : FileSums) : Type 0 where
  pub table : sums.table ≡ content.files.table_sum
  pub properties : sums.properties ≡ content.files.data_sum
  pub book : sums.book ≡ option_map (λ book. book.1) content.book

-- this was read of the files, with their sums where these were made
pub record AreRead (table : TableContent) (properties : Properties) (its_book : Option BookContent) (its_sums : Option FileSums) (content : KeyContent) : Type 0 where
  pub same_table : table ≡ content.files.table
  pub same_properties : properties ≡ content.files.properties
  pub book : its_book ≡ option_map (λ book. book.0) content.book
  pub sums : IfSome its_sums (AreSums content)

-- the header of keys with these sums, without its LF
abbrev pub header_text : Settings → FileSums → Option (List ℕ) → List ℕ
header_text settings sums None = key_header settings (sha256 (fingerprint_text settings sums.table sums.properties))
header_text settings sums (Some book) =
    compact_header settings (sha256 (compact_fingerprint_text (sha256 (fingerprint_text settings sums.table sums.properties)) book))

-- the header that is written first, if there are sums
abbrev pub header_with : Settings → Option FileSums → List ℕ
header_with settings None = []
header_with settings (Some sums) = ended (header_text settings sums sums.book)

-- how a run ends that wrote so many bytes first: an error of the writer counts them too
abbrev pub ended_after : {A : Type 0} → ℕ → Result A RunFault → Result A RunFault
ended_after first (Ok x) = Ok x
ended_after first (Err (Write written)) = Err (Write (min (first + written) (2 ^ 64 - 1)))
ended_after first (Err fault) = Err fault

-- the form of a line of output: with the line after the key, or with the key alone, which is compact or not
abbrev pub form_as : (lines : Bool) → Option BookContent → KeyForm
form_as false None = Alone
form_as false (Some book) = Digits
form_as true book = BeforeLine
