-- A short text is equal to itself by all that texts are read by.
use Rattle.uca_values.specs.Content.{properties_of}
use Rattle.uca_order.specs.Keyings.{keying_by}
use Rattle.uca_match.specs.OwnedCollations.{owned_collation}
use Rattle.uca_owned.proofs.OrderLemmas.{accepted_bytes}
use Rattle.uca_owned.proofs.comparing.compare_all.Goals as goal

pub returns-in-Some-clause-compared : goal.returns-in-Some-clause-compared
returns-in-Some-clause-compared c = c.in-Some.ensures.compared (keying_by (owned_collation c.args.collation.now) c.args.settings.now)

pub returns-in-Some-clause-accepted : goal.returns-in-Some-clause-accepted
returns-in-Some-clause-accepted c = c.in-Some.ensures.accepted (keying_by (owned_collation c.args.collation.now) c.args.settings.now)

pub returns-in-Some-order_after-clause-accepted : goal.returns-in-Some-order_after-clause-accepted
returns-in-Some-order_after-clause-accepted c =
    let properties = properties_of c.args.collation.now.properties in
    let accepted = c.in-Some-order_after.ensures.accepted properties in
    let left = c.in-Some-read_text.ensures in
    let right = c.in-Some-read_after.ensures in
    (accepted_bytes c.args.settings.now.numbers properties _ c.args.left.now left.0 left.1 accepted.0, accepted_bytes c.args.settings.now.numbers properties _ c.args.right.now right.0 right.1 accepted.1)
