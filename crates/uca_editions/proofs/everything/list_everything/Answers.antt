use Rattle.std.proofs.lemmas.Result.{on_ok_weaker}
use Rattle.uca_editions.proofs.EveryKey.{new_stay, old_stay}
use Rattle.uca_editions.proofs.everything.list_everything.Goals as goal

pub returns-in-Ok-clause-old : goal.returns-in-Ok-clause-old
returns-in-Ok-clause-old g c =
    on_ok_weaker c.push_range.result
    (old_stay c.args.editions.now.old.now.rows c.args.editions.now.new.now.rows c.list_keys.new.list c.push_range.new.list c.in-Ok.ensures)
    c.push_range.ensures

pub returns-in-Ok-clause-new : goal.returns-in-Ok-clause-new
returns-in-Ok-clause-new g c =
    on_ok_weaker c.push_range.result
    (new_stay c.args.editions.now.old.now.rows c.args.editions.now.new.now.rows c.list_keys.new.list c.push_range.new.list c.in-Ok.ensures)
    c.push_range.ensures
