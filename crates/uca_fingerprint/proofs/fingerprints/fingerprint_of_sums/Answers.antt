-- The hasher holds the lines that were added, from the first one on.
use Rattle.std.proofs.Common.{[], ◌++◌, ◌∙◌}
use Rattle.std.specs.Prelude.{codes}
use Rattle.sha2.specs.Sha256.{sha256}
use Rattle.uca_fingerprint.specs.Fingerprints.{fingerprint_text, numbers_line, value_line}
use Rattle.uca_fingerprint.proofs.fingerprints.fingerprint_of_sums.Goals as goal

pub returns : goal.returns
unfolding fingerprint_text
returns c =
    let first = c.add_line.ensures [] c.new-hasher.ensures in
    let second = c.add_line-2.ensures _ first in
    let third = c.add_line-3.ensures _ second in
    let fourth = c.add_line-4.ensures _ third in
    let numbers = c.add_numbers.ensures _ fourth in
    let fifth = c.add_line-5.ensures _ numbers in
    let sixth = c.add_line-6.ensures _ fifth in
    c.finalize.ensures _ sixth
    ∙ (λ i. sha256 (value_line (codes "uca keys ") (codes "1")
    ++ value_line (codes "unicode ") ((c.as_bytes.ensures.value ∙ c.edition.ensures) i)
    ++ value_line (codes "weighting ") ((c.as_bytes-2.ensures.value ∙ c.name.ensures) i)
    ++ value_line (codes "depth ") ((c.as_bytes-3.ensures.value ∙ c.depth_name.ensures) i)
    ++ numbers_line c.args.settings.numbers
    ++ value_line (codes "table ") (c.digits.ensures i)
    ++ value_line (codes "data ") (c.digits-2.ensures i)))
