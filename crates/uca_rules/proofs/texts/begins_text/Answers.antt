-- A character with which no text begins.
use Rattle.std.proofs.Common.{sym}
use Rattle.uca_rules.proofs.Placing.{no_character}
use Rattle.uca_rules.proofs.Breaking.{no_text}
use Rattle.uca_rules.proofs.texts.begins_text.Goals as goal

pub returns-in-Some-2-clause-fault : goal.returns-in-Some-2-clause-fault
returns-in-Some-2-clause-fault c =
    let item = c.in-Some.ensures.item.3 in
    let first = item.1 no_character in
    no_text c.args.end c.args.starred c.args.text.now no_character c.place_of-byte.result item.0 (rw (← first) (sym c.if-not-is_part.ensures))
    (rw (← first) (sym c.if-begins_piece.ensures)) c.place_of-byte.ensures
