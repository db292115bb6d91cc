use Rattle.std.proofs.Common.{◌≡◌}
use Rattle.std.proofs.lemmas.Result.{IfErr-weaker}
use Rattle.uca_changes.specs.declared.faults.ChangeFault.TheVariants.{Memory}
use Rattle.uca_editions.specs.Found.{RefusesChanges}
use Rattle.uca_editions.proofs.Refusals.{only_memory}
use Rattle.uca_editions.proofs.maker.find_changes.Goals as goal

pub returns-in-Err-clause-only : goal.returns-in-Err-clause-only
returns-in-Err-clause-only g c may =
    IfErr-weaker c.find_after.result (RefusesChanges c.args.editions.now) (λ fault. fault ≡ Memory) (only_memory c.args.editions.now may)
    c.find_after.ensures.refused
