-- The comparison is by what the collator reads texts by.
use Rattle.std.proofs.Common.{◌≡◌, chars, subst}
use Rattle.uca_elements.specs.Collations.{Collation}
use Rattle.uca_order.specs.Depths.{texts_compared}
use Rattle.uca_owned.proofs.comparing.compare_whole.Goals as goal

pub returns-in-Ok-clause-compared : goal.returns-in-Ok-clause-compared
returns-in-Ok-clause-compared c =
    let compared = c.in-Ok.compared in
    subst (λ (k : Collation). (compared.order ≡ (texts_compared k c.args.settings (chars c.args.left.now) (chars c.args.right.now)).order)
    × (compared.level ≡ (texts_compared k c.args.settings (chars c.args.left.now) (chars c.args.right.now)).level))
    c.collator-collator.ensures c.in-Ok.ensures.compared
