-- Which of the three files is rejected, or what all mean.
use Rattle.std.proofs.Common.{Some, [], ◌∷◌, refl}
use Rattle.uca_values.specs.Content.{properties_of}
use Rattle.uca_books.specs.Books.{BookContent}
use Rattle.uca_run_parts.specs.declared.faults.Role.TheVariants as roles
use Rattle.uca_run_parts.specs.Files.{TableAndData, table_and_data, table_and_data_roles, table_with}
use Rattle.uca_run_parts.specs.ReadFiles.{book_file}
use Rattle.uca_run_parts.proofs.FilesLemmas.{stays}
use Rattle.uca_run_parts.proofs.ReadFilesLemmas.{both_read, first_rejected, second_rejected}
use Rattle.uca_key_runs.specs.inside.KeyParts.{PackedContent, packed_with}
use Rattle.uca_key_runs.proofs.key_files.read_packed_booked.Goals as goal

-- what all three mean
abbrev joined : TableAndData → BookContent → PackedContent
joined files book = packed_with files.table files.properties (Some book)

pub returns-in-Err-clause-read : goal.returns-in-Err-clause-read
returns-in-Err-clause-read g c =
    let unread = c.args.book.now in
    first_rejected table_and_data (λ files. book_file) joined table_and_data_roles (roles.Book ∷ [])
    (c.args.table.now ∷ c.args.properties.now ∷ []) (c.read_packed_files.new.table ∷ c.read_packed_files.new.properties ∷ []) (unread ∷ []) (unread ∷ [])
    (λ files. table_with files.0 (properties_of files.1)) _ (refl, λ table. (refl, λ points. tt))
    c.in-Err.fault refl (stays unread.failed, tt) c.in-Err.ensures

pub returns-in-Err-read_book_file-clause-read : goal.returns-in-Err-read_book_file-clause-read
returns-in-Err-read_book_file-clause-read g c =
    second_rejected table_and_data (λ files. book_file) joined table_and_data_roles (roles.Book ∷ [])
    (c.args.table.now ∷ c.args.properties.now ∷ []) (c.read_packed_files.new.table ∷ c.read_packed_files.new.properties ∷ [])
    (c.args.book.now ∷ []) (c.read_book_file.new.source ∷ [])
    (λ files. table_with files.0 (properties_of files.1)) _ (refl, λ table. (refl, λ points. tt)) (λ book. book) (c.in-Ok.table, c.in-Ok.properties)
    (λ files. (refl, λ book. tt)) c.in-Ok.ensures c.in-Err-read_book_file.fault refl c.in-Err-read_book_file.ensures

pub returns-in-Ok-read_book_file-clause-read : goal.returns-in-Ok-read_book_file-clause-read
returns-in-Ok-read_book_file-clause-read g c =
    both_read table_and_data (λ files. book_file) joined table_and_data_roles (roles.Book ∷ [])
    (c.args.table.now ∷ c.args.properties.now ∷ []) (c.read_packed_files.new.table ∷ c.read_packed_files.new.properties ∷ [])
    (c.args.book.now ∷ []) (c.read_book_file.new.source ∷ [])
    (λ files. table_with files.0 (properties_of files.1)) _ (refl, λ table. (refl, λ points. tt)) (λ book. book) (c.in-Ok.table, c.in-Ok.properties)
    (λ files. (refl, λ book. tt)) c.in-Ok.ensures c.in-Ok-read_book_file.book _ refl c.in-Ok-read_book_file.ensures
