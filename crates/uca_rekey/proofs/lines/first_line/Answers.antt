-- The search for LF stops where the line ends.
use Rattle.std.proofs.lemmas.List.{take_rest}
use Rattle.uca_rekey.proofs.Places.{line_found, none_found}
use Rattle.uca_rekey.proofs.lines.first_line.Goals as goal

pub returns-in-Some : goal.returns-in-Some
returns-in-Some c =
    line_found c.args.bytes.now _ c.args.seen (take_rest c.args.bytes.now c.args.seen) c.requires.lacks c.in-Some.at c.requires.within c.in-Some.ensures

pub returns-in-None : goal.returns-in-None
returns-in-None c = none_found c.args.bytes.now _ c.args.seen (take_rest c.args.bytes.now c.args.seen) c.requires.lacks c.in-None.ensures
