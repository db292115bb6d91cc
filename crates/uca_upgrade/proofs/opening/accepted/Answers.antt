-- An upgrade of a change that the audit accepts renews keys.
use Rattle.uca_editions.specs.ReadChange.{change_of}
use Rattle.uca_upgrade.proofs.Renewed.{keys_renewed}
use Rattle.uca_upgrade.proofs.opening.accepted.Goals as goal

pub returns-in-Ok-kept : goal.returns-in-Ok-kept
returns-in-Ok-kept c = record {
  taken = c.requires;
  accepted = c.in-Ok.ensures.accepted;
  kept = c.in-Ok-kept.ensures;
  keys = keys_renewed c.args.files.now (change_of c.args.read) c.args.asked c.in-Ok-kept.upgrade c.in-Ok-kept.ensures c.in-Ok.ensures.meaning;
}
