-- The whole run, from what its files mean and the line that is written: without a book, and with one.
use Rattle.std.proofs.Common.{[], ◌∷◌}
use Rattle.uca_values.specs.Content.{properties_of}
use Rattle.uca_run_parts.specs.Files.{table_and_data_roles}
use Rattle.uca_fingerprint_runs.specs.FingerprintRun.{compact_fingerprint_under, fingerprint_under}
use Rattle.uca_fingerprint_runs.specs.SummedFiles.{booked_files, booked_roles, booked_with, summed_files, summed_with}
use Rattle.uca_fingerprint_runs.proofs.Writing.{files_rejected, line_printed}
use Rattle.uca_fingerprint_runs.proofs.fingerprint.run_fingerprint.Goals as goal

pub returns-in-Err : goal.returns-in-Err
returns-in-Err g c =
    rw c.in-None.is (files_rejected summed_files table_and_data_roles (fingerprint_under c.args.asked) (c.args.table.now ∷ c.args.properties.now ∷ [])
    (c.read_summed_files.new.table ∷ c.read_summed_files.new.properties ∷ [])
    (λ files. summed_with files.table (properties_of files.properties.0, files.properties.1)) c.args.out.now c.in-Err.fault c.in-Err.ensures)

pub returns-in-Ok : goal.returns-in-Ok
returns-in-Ok g c =
    let writes = c.write_text in
    rw c.in-None.is (line_printed summed_files table_and_data_roles (fingerprint_under c.args.asked) (c.args.table.now ∷ c.args.properties.now ∷ [])
    (c.read_summed_files.new.table ∷ c.read_summed_files.new.properties ∷ [])
    (λ files. summed_with files.table (properties_of files.properties.0, files.properties.1)) c.args.out.now writes.new.out c.in-Ok.files c.line_of.result
    c.fingerprint_of_files-sum.result writes.result c.in-Ok.ensures c.line_of.ensures c.fingerprint_of_files-sum.ensures writes.ensures.written
    writes.ensures.failed_in writes.ensures.no_file writes.ensures.of_output writes.ensures.failed)

pub returns-in-Err-read_booked_files : goal.returns-in-Err-read_booked_files
returns-in-Err-read_booked_files g c =
    rw c.in-Some.is (files_rejected booked_files booked_roles (compact_fingerprint_under c.args.asked)
    (c.args.table.now ∷ c.args.properties.now ∷ c.in-Some.book ∷ [])
    (c.read_booked_files.new.table ∷ c.read_booked_files.new.properties ∷ c.read_booked_files.new.book ∷ [])
    (λ read. booked_with (summed_with read.files.table (properties_of read.files.properties.0, read.files.properties.1)) read.book)
    c.args.out.now c.in-Err-read_booked_files.fault c.in-Err-read_booked_files.ensures)

pub returns-in-Ok-read_booked_files : goal.returns-in-Ok-read_booked_files
returns-in-Ok-read_booked_files g c =
    let writes = c.write_text-in-Ok-read_booked_files in
    rw c.in-Some.is (line_printed booked_files booked_roles (compact_fingerprint_under c.args.asked)
    (c.args.table.now ∷ c.args.properties.now ∷ c.in-Some.book ∷ [])
    (c.read_booked_files.new.table ∷ c.read_booked_files.new.properties ∷ c.read_booked_files.new.book ∷ [])
    (λ read. booked_with (summed_with read.files.table (properties_of read.files.properties.0, read.files.properties.1)) read.book)
    c.args.out.now writes.new.out c.in-Ok-read_booked_files.files c.line_of-in-Ok-read_booked_files.result c.compact_fingerprint_of_files-sum.result writes.result
    c.in-Ok-read_booked_files.ensures c.line_of-in-Ok-read_booked_files.ensures
    c.compact_fingerprint_of_files-sum.ensures writes.ensures.written writes.ensures.failed_in writes.ensures.no_file writes.ensures.of_output writes.ensures.failed)
