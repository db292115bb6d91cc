-- The whole run, from what its book means and what is written of its lines.
use Rattle.std.proofs.Common.{◌∙◌, ap, option_map}
use Rattle.uca_books.specs.Books.{BookContent}
use Rattle.uca_compact.specs.Programs.{CompacterState}
use Rattle.uca_run_parts.specs.declared.faults.Role.TheVariants.{Book}
use Rattle.uca_run_parts.specs.ReadFiles.{book_file}
use Rattle.uca_rekey.specs.ChangedLines.{expands}
use Rattle.uca_rekey.specs.ChangeRun.{compact_headers, settings_of, swapped}
use Rattle.uca_rekey.specs.inside.ChangeSoFar.{headers_of}
use Rattle.uca_rekey.proofs.ByFile.{file_read, file_rejected}
use Rattle.uca_rekey.proofs.change.run_expand.Goals as goal

pub returns-in-Ok : goal.returns-in-Ok
returns-in-Ok g c =
    let ends = c.run_changes in
    let settings = settings_of c.args.weighting c.args.depth in
    file_read book_file Book (λ (by : CompacterState). expands by.settings.depth by.settings.weighting by.book) (λ (b : BookContent). record { book = b; settings = settings })
    (λ (b : BookContent). option_map swapped (option_map (compact_headers settings b) c.args.keys)) c.args.book.now c.read_book_file.new.source c.args.input.now c.args.out.now
    c.in-Ok.book c.new-change.result (headers_of c.swapped-headers.result) ends.new.input ends.new.out ends.result (rw c.settings_of-settings.ensures at c.new-change.ensures) (c.swapped-headers.ensures ∙ ap (option_map swapped) (rw c.settings_of-settings.ensures at c.compact_headers.ensures))
    c.in-Ok.ensures.read c.in-Ok.ensures.failed ends.ensures.changes
    ends.ensures.nothing_written ends.ensures.no_file ends.ensures.input_failed ends.ensures.out_failed

pub returns-in-Err : goal.returns-in-Err
returns-in-Err g c =
    let settings = settings_of c.args.weighting c.args.depth in
    file_rejected book_file Book (λ (by : CompacterState). expands by.settings.depth by.settings.weighting by.book) (λ (b : BookContent). record { book = b; settings = settings })
    (λ (b : BookContent). option_map swapped (option_map (compact_headers settings b) c.args.keys)) c.args.book.now c.read_book_file.new.source c.args.input.now c.args.out.now
    c.in-Err.fault c.in-Err.ensures.read c.in-Err.ensures.of_files c.in-Err.ensures.failed
