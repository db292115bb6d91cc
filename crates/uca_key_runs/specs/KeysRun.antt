-- What the runs return and write that print keys: a header where one is asked for, and then the line of output of each line of the input.
use Rattle.std.specs.Prelude.{ℕ, List, [], ◌++◌, Bool, true, false, if◌then◌else◌, Option, Some, None, option_map, IfSome, Result, Ok, Err, ⊤}
use Rattle.std.specs.List.{flat_map}
use Rattle.std.specs.Io.KnownBytes.{Appends}
use Rattle.uca_weights.specs.declared.Asked.{Asked}
use Rattle.uca_weights.specs.Streams.{SourceState, SinkState}
use Rattle.uca_weights.specs.AskedSettings.{settings_by}
use Rattle.uca_table.specs.DataSoFar as data_files
use Rattle.uca_table.specs.TableLines as tables
use Rattle.uca_books.specs.Books.{BookContent}
use Rattle.uca_books.specs.BookTexts as books
use Rattle.uca_text.specs.Texts.{NfdText}
use Rattle.uca_fingerprint.specs.KeyHeaders.{compact_header, key_header}
use Rattle.uca_lines.specs.Lines.{ended, lines_of}
use Rattle.uca_order.specs.Keyings.{Keying, keying, text_of}
use Rattle.uca_compact.specs.CompactTexts.{compact_of_bytes}
use Rattle.uca_run_parts.specs.declared.faults.Role.{Role}
use Rattle.uca_run_parts.specs.declared.faults.Role.TheVariants as roles
use Rattle.uca_run_parts.specs.declared.faults.RunFault.{RunFault}
use Rattle.uca_run_parts.specs.declared.faults.RunFault.TheVariants.{Input, Memory, Write}
use Rattle.uca_run_parts.specs.EachLine.{PrintsEach}
use Rattle.uca_run_parts.specs.Files.{Reading, Done, Then, OfLines, TableAndData, table_and_data, table_and_data_roles, table_with}
use Rattle.uca_run_parts.specs.Input.{clean_lines}
use Rattle.uca_run_parts.specs.Print.{digits_line_of, keyed_line_of}
use Rattle.uca_run_parts.specs.Runs.{IsClean, IsInputFault, PartWentOut}
use Rattle.uca_fingerprint_runs.specs.FingerprintRun.{compact_fingerprint_under, fingerprint_under}
use Rattle.uca_fingerprint_runs.specs.SummedFiles.{SummedContent, booked_roles, booked_with, summed_with}
use Rattle.uca_fingerprint_runs.specs.Sums.{MeansSummed}
use Rattle.uca_key_runs.specs.declared.runs.KeyOutput.{KeyOutput}
use Rattle.uca_key_runs.specs.Keys.{IfTaken, keyed_line, printed_key}

-- ---- Lines

-- The line of output of a line: its key, or its compact key by a book; with `lines` the line follows.
abbrev pub output_line : (lines : Bool) → Option BookContent → Keying → List ℕ → List ℕ
output_line false None c line = printed_key c line
output_line true None c line = keyed_line c line
output_line false (Some book) c line = digits_line_of (compact_of_bytes book c line)
output_line true (Some book) c line = keyed_line_of (compact_of_bytes book c line) line

-- ---- Files

-- what the files of a run mean, with the SHA-256 of the bytes of each: a table, a data file, and perhaps a book
pub record KeyContent : Type 0 where
  pub files : SummedContent
  pub book : Option (BookContent × List ℕ)

-- a book comes after the table and the data file where there is one
abbrev pub then_book_if : Bool → SummedContent → Reading KeyContent
then_book_if false files = Done (record { files = files; book = None })
then_book_if true files = Then roles.Book (MeansSummed books.Means) (OfLines books.Refuses) (λ book. Done (record { files = files; book = Some book }))

-- the table, then the data file, and then perhaps a book
abbrev pub key_files : (booked : Bool) → Reading KeyContent
key_files booked = Then roles.Table (MeansSummed tables.Means) (OfLines tables.Refuses)
    (λ table. Then roles.Data (MeansSummed data_files.Means) (OfLines data_files.Refuses) (λ properties. then_book_if booked (summed_with table properties)))

abbrev pub key_roles : (booked : Bool) → List Role
key_roles false = table_and_data_roles
key_roles true = booked_roles

-- ---- The header

-- The header of keys, or of compact keys by a book, with its LF. It has the weighting that is asked for, or else the table's, or else
-- shifted, the depth, and the fingerprint that the run of fingerprints prints.
abbrev pub header_by : Asked → SummedContent → Option (BookContent × List ℕ) → List ℕ
header_by asked files None = ended (key_header (settings_by asked files.table.header.setting) (fingerprint_under asked files))
header_by asked files (Some book) =
    ended (compact_header (settings_by asked files.table.header.setting) (compact_fingerprint_under asked (booked_with files book)))

-- the header of a run, if one is asked for
abbrev pub header_of : KeyOutput → Asked → KeyContent → List ℕ
header_of output asked content = if output.header then header_by asked content.files content.book else []

-- ---- Runs

-- What is written of an input: the header, and the bytes of each line before the first one with an error. The source has
-- something left, and the writer held `begun` and holds `now`.
abbrev pub WritesAfter : {A : Type 0} → (header : List ℕ) → (List ℕ → NfdText) → (List ℕ → List ℕ) → List ℕ → Option (List ℕ) → Option (List ℕ) → Option (List ℕ) → Result A RunFault → Type 0
WritesAfter header read_of bytes_of bytes left begun now (Ok x) = IsClean read_of bytes × Appends begun now (header ++ flat_map bytes_of (lines_of bytes))
WritesAfter header read_of bytes_of bytes left begun now (Err (Input number kind)) = (before : List (List ℕ)) × IsInputFault read_of bytes left before number kind × Appends begun now (header ++ flat_map bytes_of before)
WritesAfter header read_of bytes_of bytes left begun now (Err (Write written)) = PartWentOut begun now (header ++ flat_map bytes_of (clean_lines read_of (lines_of bytes))) written
WritesAfter header read_of bytes_of bytes left begun now (Err _) = ⊥

-- What is written under a table and properties that are taken, with this header and these bytes for a line. An allocation
-- that failed for looking up rows says nothing of the lines.
abbrev pub WritesUnder : {A : Type 0} → (header : List ℕ) → (Keying → List ℕ → List ℕ) → Asked → SourceState → SourceState → SinkState → SinkState → Result A RunFault → TableAndData → Type 0
WritesUnder header bytes_of asked input input_new out out_new (Err Memory) files = ⊤
WritesUnder header bytes_of asked input input_new out out_new result files = let c = keying asked files.table files.properties in
    IfSome input.remaining (λ bytes. WritesAfter header (text_of c) (bytes_of c) bytes input_new.remaining out.contents out_new.contents result)

-- What a run returns under a table and properties that writes this header and these bytes for a line.
abbrev pub RunsUnder : {A : Type 0} → (header : List ℕ) → (Keying → List ℕ → List ℕ) → Asked → SourceState → SourceState → SinkState → SinkState → Result A RunFault → TableAndData → Type 0
RunsUnder header bytes_of asked input input_new out out_new result files =
    IfTaken asked.numbers files result (WritesUnder header bytes_of asked input input_new out out_new result files)

-- A run of keys.
abbrev pub PrintsKeys : {A : Type 0} → Asked → List SourceState → List SourceState → SourceState → SourceState → SinkState → SinkState → Result A RunFault → Type 0
PrintsKeys asked olds news input input_new out out_new result =
    PrintsEach table_and_data table_and_data_roles (RunsUnder [] printed_key asked input input_new out out_new result) olds news input input_new out out_new result

-- What a run returns under its files that has this output.
abbrev pub RunsKeys : {A : Type 0} → KeyOutput → Asked → SourceState → SourceState → SinkState → SinkState → Result A RunFault → KeyContent → Type 0
RunsKeys output asked input input_new out out_new result content =
    RunsUnder (header_of output asked content) (output_line output.lines (option_map (λ book. book.0) content.book)) asked input input_new out out_new result
    (table_with content.files.table content.files.properties)

-- A run of keys, or with a book of compact keys, that has this output.
abbrev pub PrintsKeysAs : {A : Type 0} → KeyOutput → (booked : Bool) → Asked → List SourceState → List SourceState → SourceState → SourceState → SinkState → SinkState → Result A RunFault → Type 0
PrintsKeysAs output booked asked olds news input input_new out out_new result =
    PrintsEach (key_files booked) (key_roles booked) (RunsKeys output asked input input_new out out_new result) olds news input input_new out out_new result
