-- Which of the files is rejected, or what all of them mean.
use Rattle.std.proofs.Common.{[], ◌∷◌, refl}
use Rattle.uca_values.specs.Content.{properties_of}
use Rattle.uca_run_parts.specs.declared.faults.Role.TheVariants as roles
use Rattle.uca_run_parts.specs.Files.{table_and_data_roles}
use Rattle.uca_run_parts.proofs.FilesLemmas.{stays}
use Rattle.uca_run_parts.proofs.ReadFilesLemmas.{both_read, first_rejected, second_rejected}
use Rattle.uca_fingerprint_runs.specs.SummedFiles.{booked_with, summed_book, summed_files, summed_with}
use Rattle.uca_fingerprint_runs.proofs.summed_files.read_booked_files.Goals as goal

pub returns-in-Err : goal.returns-in-Err
returns-in-Err g c =
    let unread = c.args.book.now in
    (first_rejected summed_files (λ files. summed_book) booked_with table_and_data_roles (roles.Book ∷ [])
    (c.args.table.now ∷ c.args.properties.now ∷ []) (c.read_summed_files.new.table ∷ c.read_summed_files.new.properties ∷ []) (unread ∷ []) (unread ∷ [])
    (λ read. summed_with read.table (properties_of read.properties.0, read.properties.1)) _ (refl, λ table. (refl, λ points. tt))
    c.in-Err.fault refl (stays unread.failed, tt) c.in-Err.ensures)

pub returns-in-Err-read_summed_book : goal.returns-in-Err-read_summed_book
returns-in-Err-read_summed_book g c =
    (second_rejected summed_files (λ files. summed_book) booked_with table_and_data_roles (roles.Book ∷ [])
    (c.args.table.now ∷ c.args.properties.now ∷ []) (c.read_summed_files.new.table ∷ c.read_summed_files.new.properties ∷ [])
    (c.args.book.now ∷ []) (c.read_summed_book.new.source ∷ [])
    (λ read. summed_with read.table (properties_of read.properties.0, read.properties.1)) _ (refl, λ table. (refl, λ points. tt)) (λ read. (read.0, read.1))
    c.in-Ok.files (λ files. (refl, λ book. tt)) c.in-Ok.ensures c.in-Err-read_summed_book.fault refl c.in-Err-read_summed_book.ensures)

pub returns-in-Ok-read_summed_book : goal.returns-in-Ok-read_summed_book
returns-in-Ok-read_summed_book g c =
    both_read summed_files (λ files. summed_book) booked_with table_and_data_roles (roles.Book ∷ [])
    (c.args.table.now ∷ c.args.properties.now ∷ []) (c.read_summed_files.new.table ∷ c.read_summed_files.new.properties ∷ [])
    (c.args.book.now ∷ []) (c.read_summed_book.new.source ∷ [])
    (λ read. summed_with read.table (properties_of read.properties.0, read.properties.1)) _ (refl, λ table. (refl, λ points. tt)) (λ read. (read.0, read.1))
    c.in-Ok.files (λ files. (refl, λ book. tt)) c.in-Ok.ensures c.in-Ok-read_summed_book.book _ refl c.in-Ok-read_summed_book.ensures
