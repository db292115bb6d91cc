use Rattle.uca_order.specs.Keyings.{keying_by}
use Rattle.uca_match.specs.OwnedCollations.{owned_collation}
use Rattle.uca_owned.proofs.comparing.compare_bytes.Goals as goal

pub returns-in-Some-clause-accepted : goal.returns-in-Some-clause-accepted
returns-in-Some-clause-accepted c = c.in-Some.ensures.accepted (keying_by (owned_collation c.args.collation.now) c.args.settings.now)
