-- Numbers as text add nothing.
use Rattle.std.proofs.Common.{◌++◌, ap, sym, subst, ◌∙◌, append-nil}
use Rattle.sha2.specs.Hashers.{Holds256}
use Rattle.uca_fingerprint.specs.Fingerprints.{numbers_line}
use Rattle.uca_fingerprint.proofs.fingerprints.add_numbers.Goals as goal

pub returns-in-AsText : goal.returns-in-AsText
returns-in-AsText c text holds =
    subst (Holds256 c.args.hasher.now) (sym (append-nil text) ∙ ap (λ n. text ++ numbers_line n) (sym c.in-AsText.is)) holds
