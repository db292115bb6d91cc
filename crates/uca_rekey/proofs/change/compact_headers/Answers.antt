-- The fingerprint of compact keys is made of that of the keys and of the book.
use Rattle.std.proofs.Common.{◌∙◌, ℕ, List, Option, Some, ap, ap₂, option_map, sym}
use Rattle.sha2.specs.Sha256.{sha256}
use Rattle.uca_fingerprint.specs.Fingerprints.{compact_fingerprint_text}
use Rattle.uca_fingerprint.specs.KeyHeaders.{compact_header}
use Rattle.uca_rekey.specs.ChangeRun.{compact_headers}
use Rattle.uca_rekey.specs.inside.ChangeSoFar.{header_pair}
use Rattle.uca_rekey.proofs.change.compact_headers.Goals as goal

pub returns-in-Some : goal.returns-in-Some
returns-in-Some g c =
    ap₂ (λ (old new : List ℕ). Some (header_pair old new)) c.new-old_header.ensures.line (c.compact-new_header.ensures.line
    ∙ ap (λ (sum : List ℕ). compact_header c.args.settings sum) (c.compact_fingerprint_of_sums-compact_sum.ensures
    ∙ ap (λ (sum : List ℕ). sha256 (compact_fingerprint_text c.in-Some.keys sum)) c.sum_of_book-book_sum.ensures))
    ∙ sym (ap (λ (keys : Option (List ℕ)). option_map (compact_headers c.args.settings c.args.book.now) keys) c.in-Some.is)
