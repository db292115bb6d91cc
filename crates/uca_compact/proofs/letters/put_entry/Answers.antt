use Rattle.std.proofs.Common.{arith}
use Rattle.uca_compact.proofs.Places.{first_put}
use Rattle.uca_compact.proofs.letters.put_entry.Goals as goal

pub returns-clause-put : goal.returns-clause-put
returns-clause-put c =
    first_put c.args.codes.now c.args.entry.code c.copy_from_slice.new.self c.args.at _ c.from.result c.args.entry.len
    (omega (arith, c.requires.room)) c.copy_from_slice.ensures.after c.from.ensures (omega (arith, c.requires.len, c.from.ensures, c.copy_from_slice.ensures.len))
