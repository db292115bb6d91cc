use Rattle.std.proofs.Common.{rules}
use Rattle.uca_match.proofs.RowPlaces.{begins_is}
use Rattle.uca_match.proofs.row_list.begins.Goals as goal

pub returns : goal.returns
returns c = begins_is c.args.key.now c.args.start.now c.args.c c.index-key-len.result c.eq.result (search rules) c.index-key-len.is (search rules)
    c.eq.ensures
