-- The whole run, from what its two files mean and the text that is written.
use Rattle.std.specs.Prelude.{⊤}
use Rattle.std.proofs.Common.{◌≡◌, [], ◌∷◌, Err, refl, subst}
use Rattle.uca_run_parts.proofs.FilesLemmas.{ended_by_files, failed_by_files, failed_by_no_file, runs_over_all}
use Rattle.uca_run_parts.proofs.Running.{as_before, file_before, no_write_before}
use Rattle.uca_change_runs.specs.BookRun.{WritesImage, certificate_and_book, certificate_and_book_roles, certificate_with, image_text}
use Rattle.uca_change_runs.proofs.book.run_book.Goals as goal

pub returns-in-Err : goal.returns-in-Err
returns-in-Err g c =
    let fault = c.in-Err.fault in
    let out = c.args.out.now in
    let olds = c.args.certificate.now ∷ c.args.book.now ∷ [] in
    let news = c.read_image_files.new.certificate ∷ c.read_image_files.new.book ∷ [] in
    record {
      runs = ended_by_files ⊤ ⊤ certificate_and_book olds news
          (λ files. WritesImage {A = ⊤} (image_text files) out.contents out.contents (Err fault)) fault c.in-Err.ensures.read;
      nothing_written = λ before. refl;
      failed = failed_by_files ⊤ ⊤ certificate_and_book_roles olds news fault c.in-Err.ensures.failed;
      out_failed = as_before out.failed _ (no_write_before ⊤ ⊤ fault (file_before ⊤ ⊤ fault c.in-Err.ensures.of_files));
    }

pub returns-in-Ok : goal.returns-in-Ok
returns-in-Ok g c =
    let read = certificate_with c.in-Ok.files.certificate c.in-Ok.files.book in
    let ends = c.print_image-printed in
    let begun = c.args.out.now.contents in
    let now = ends.new.out.contents in
    let olds = c.args.certificate.now ∷ c.args.book.now ∷ [] in
    let news = c.read_image_files.new.certificate ∷ c.read_image_files.new.book ∷ [] in
    record {
      runs = runs_over_all {B = ⊤} certificate_and_book olds news (λ files. read ≡ files)
          (λ files. WritesImage (image_text files) begun now ends.result) tt ends.result ends.ensures.no_file
          (λ files same. subst (λ it. WritesImage (image_text it) begun now ends.result) same ends.ensures.writes) c.in-Ok.ensures.read;
      nothing_written = ends.ensures.nothing_written;
      failed = failed_by_no_file {B = ⊤} certificate_and_book_roles olds news tt ends.result c.in-Ok.ensures.failed ends.ensures.no_file;
      out_failed = ends.ensures.failed;
    }
