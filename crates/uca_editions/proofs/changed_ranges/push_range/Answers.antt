use Rattle.std.proofs.lemmas.Result.{on_ok_weaker}
use Rattle.uca_change_files.specs.Changes.{OfRange}
use Rattle.uca_editions.proofs.ListedKeys.{added_if_it_may}
use Rattle.uca_editions.proofs.changed_ranges.push_range.Goals as goal

pub returns-in-Err : goal.returns-in-Err
returns-in-Err g c =
    on_ok_weaker c.unless_memory.result
    (λ other may. absurd (added_if_it_may c.args.list.now (OfRange (record { first = c.args.first; last = c.args.last })) c.in-Err.kind other
    c.in-Err.ensures.fault may))
    c.unless_memory.ensures
