-- The hasher holds the header, and then the lines of both levels.
use Rattle.std.proofs.Common.{[], ◌++◌, ◌∙◌, ap, subst}
use Rattle.sha2.specs.Hashers.{Holds256}
use Rattle.sha2.specs.Sha256.{sha256}
use Rattle.uca_fingerprint_runs.proofs.BookText.{text_is}
use Rattle.uca_fingerprint_runs.proofs.book_sums.sum_of_book.Goals as goal

pub returns : goal.returns
returns g c =
    let first = c.update.ensures [] c.new-hasher.ensures in
    let second = c.add_starts.ensures _ first in
    let third = c.add_starts-2.ensures _ second in
    let all = rw (c.letters.ensures.value, c.variables.ensures.value) at third in
    c.finalize.ensures _ all ∙ ap sha256 (text_is c.args.book.now)
