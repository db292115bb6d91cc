-- What is read is the change that the files mean, and the audit is of that one.
use Rattle.std.proofs.Common.{subst}
use Rattle.std.specs.Prelude.{MatchResult}
use Rattle.uca_changes.specs.Changes.{Change}
use Rattle.uca_upgrade.specs.Causes.{IsUpgradeStop}
use Rattle.uca_upgrade.specs.Opening.{IsUpgradeOf}
use Rattle.uca_upgrade.specs.inside.Read.{IsAuditStop}
use Rattle.uca_upgrade.proofs.Opened.{each_way, stop_of_audit, stop_of_file}
use Rattle.uca_upgrade.proofs.owned.OwnedUpgrade.open.Goals as goal

pub returns-in-Ok-clause-only : goal.returns-in-Ok-clause-only
returns-in-Ok-clause-only c change mean =
    let files = c.args.files.now in
    each_way c.audited.result (IsUpgradeOf files change c.args.asked) (IsUpgradeStop c.args.asked.numbers change) (λ upgrade is. is)
    (λ fault stop. stop_of_audit c.args.asked.numbers change fault stop)
    (subst (λ (it : Change). MatchResult c.audited.result (IsUpgradeOf files it c.args.asked) (IsAuditStop c.args.asked.numbers it)) (c.in-Ok.ensures.only change mean)
    c.audited.ensures)

pub returns-in-Err-clause-only : goal.returns-in-Err-clause-only
returns-in-Err-clause-only c change mean = stop_of_file c.args.asked.numbers change c.in-Err.fault (c.in-Err.ensures.only change mean)
