-- What a run of `book` returns and writes.
use Rattle.std.specs.Prelude.{◌≡◌, ℕ, List, [], ◌∷◌, ◌||◌, true, Option, Result, Ok, Err, ⊤}
use Rattle.std.specs.Io.KnownBytes.{Appends}
use Rattle.uca_weights.specs.Streams.{SourceState, SinkState}
use Rattle.uca_books.specs.Books.{BookContent}
use Rattle.uca_books.specs.BookTexts.{book_text}
use Rattle.uca_certificates.specs.Certificates.{CertificateContent}
use Rattle.uca_tailorings.specs.Inputs.{maps_of}
use Rattle.uca_book_images.specs.BookImages.{book_image}
use Rattle.uca_run_parts.specs.declared.faults.Role.{Role}
use Rattle.uca_run_parts.specs.declared.faults.Role.TheVariants as roles
use Rattle.uca_run_parts.specs.declared.faults.RunFault.{RunFault}
use Rattle.uca_run_parts.specs.declared.faults.RunFault.TheVariants.{Memory, Write}
use Rattle.uca_run_parts.specs.Files.{HaveFailed, Over, Reading, Done, then_book, then_certificate}
use Rattle.uca_run_parts.specs.Runs.{PartWentOut, ended_before_output, ended_by_output}

-- what both files mean
pub record CertificateAndBook : Type 0 where
  pub certificate : CertificateContent
  pub book : BookContent

-- what a certificate and a book mean, from its parts
abbrev pub certificate_with : CertificateContent → BookContent → CertificateAndBook
certificate_with certificate book = record { certificate = certificate; book = book }

-- the certificate, and then the book
abbrev pub certificate_and_book : Reading CertificateAndBook
certificate_and_book = then_certificate (λ certificate. then_book (λ book. Done (certificate_with certificate book)))

abbrev pub certificate_and_book_roles : List Role
certificate_and_book_roles = roles.Certificate ∷ roles.Book ∷ []

-- the text of the image of the book under the map of level 1 of the certificate
abbrev pub image_text : CertificateAndBook → List ℕ
image_text files = book_text (book_image (maps_of files.certificate).primary files.book)

-- A text is written by a writer that had `begun` and has `now`, or as much of it as an error of the writer leaves. An
-- allocation that failed says nothing of the text.
abbrev pub WritesImage : {A : Type 0} → List ℕ → Option (List ℕ) → Option (List ℕ) → Result A RunFault → Type 0
WritesImage text begun now (Ok x) = Appends begun now text
WritesImage text begun now (Err (Write written)) = PartWentOut begun now text written
WritesImage text begun now (Err Memory) = ⊤
WritesImage text begun now (Err _) = ⊥

-- A run of book: what it writes if the bytes of its files are known. And for any files and output, when nothing is
-- written, and what has failed.
pub record PrintsBookImage {A : Type 0} (olds news : List SourceState) (out out_new : SinkState) (result : Result A RunFault) : Type 0 where
  pub runs : Over certificate_and_book olds news (λ files. WritesImage (image_text files) out.contents out_new.contents result) result
  pub nothing_written : ended_before_output result ≡ true → out_new ≡ out
  pub failed : HaveFailed certificate_and_book_roles olds news result
  pub out_failed : out_new.failed ≡ (out.failed || ended_by_output result)
