-- The hasher holds the lines that were added, from the first one on.
use Rattle.std.proofs.Common.{[], ◌++◌, ◌∙◌}
use Rattle.std.specs.Prelude.{codes}
use Rattle.sha2.specs.Sha256.{sha256}
use Rattle.uca_fingerprint.specs.Fingerprints.{compact_fingerprint_text, value_line}
use Rattle.uca_fingerprint.proofs.fingerprints.compact_fingerprint_of_sums.Goals as goal

pub returns : goal.returns
unfolding compact_fingerprint_text
returns c =
    let first = c.add_line.ensures [] c.new-hasher.ensures in
    let second = c.add_line-2.ensures _ first in
    let third = c.add_line-3.ensures _ second in
    c.finalize.ensures _ third
    ∙ (λ i. sha256 (value_line (codes "uca compact keys ") (codes "1")
    ++ value_line (codes "keys ") (c.digits.ensures i)
    ++ value_line (codes "book ") (c.digits-2.ensures i)))
