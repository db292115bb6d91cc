-- Which of the two files is rejected, or what both mean.
use Rattle.std.proofs.Common.{[], ◌∷◌, refl}
use Rattle.uca_run_parts.specs.declared.faults.Role.TheVariants as roles
use Rattle.uca_run_parts.specs.ReadFiles.{book_file, certificate_file}
use Rattle.uca_run_parts.proofs.FilesLemmas.{stays}
use Rattle.uca_run_parts.proofs.ReadFilesLemmas.{both_read, first_rejected, second_rejected}
use Rattle.uca_change_runs.specs.BookRun.{certificate_with}
use Rattle.uca_change_runs.proofs.book_files.read_image_files.Goals as goal

pub returns-in-Err : goal.returns-in-Err
returns-in-Err g c =
    let unread = c.args.book.now in
    (first_rejected certificate_file (λ certificate. book_file) certificate_with (roles.Certificate ∷ []) (roles.Book ∷ [])
    (c.args.certificate.now ∷ []) (c.read_certificate_file.new.source ∷ []) (unread ∷ []) (unread ∷ []) (λ certificate. certificate) _ (refl, λ certificate. tt)
    c.in-Err.fault refl (stays unread.failed, tt) c.in-Err.ensures)

pub returns-in-Err-read_book_file : goal.returns-in-Err-read_book_file
returns-in-Err-read_book_file g c =
    (second_rejected certificate_file (λ certificate. book_file) certificate_with (roles.Certificate ∷ []) (roles.Book ∷ [])
    (c.args.certificate.now ∷ []) (c.read_certificate_file.new.source ∷ []) (c.args.book.now ∷ []) (c.read_book_file.new.source ∷ [])
    (λ certificate. certificate) _ (refl, λ certificate. tt) (λ book. book) c.in-Ok.certificate (λ certificate. (refl, λ book. tt)) c.in-Ok.ensures
    c.in-Err-read_book_file.fault refl c.in-Err-read_book_file.ensures)

pub returns-in-Ok-read_book_file : goal.returns-in-Ok-read_book_file
returns-in-Ok-read_book_file g c =
    both_read certificate_file (λ certificate. book_file) certificate_with (roles.Certificate ∷ []) (roles.Book ∷ [])
    (c.args.certificate.now ∷ []) (c.read_certificate_file.new.source ∷ []) (c.args.book.now ∷ []) (c.read_book_file.new.source ∷ [])
    (λ certificate. certificate) _ (refl, λ certificate. tt) (λ book. book) c.in-Ok.certificate (λ certificate. (refl, λ book. tt)) c.in-Ok.ensures
    c.in-Ok-read_book_file.book _ refl c.in-Ok-read_book_file.ensures
