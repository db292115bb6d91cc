use Rattle.std.proofs.Common.{refl, arith}
use Rattle.uca_elements.proofs.PlaceLemmas.{left_anew}
use Rattle.uca_elements.proofs.places.Place.moved.Goals as goal

pub returns-clause-left : goal.returns-clause-left
returns-clause-left c =
    let at = c.args.at in
    left_anew c.args.text.now c.args.self (record { at = at; run = at; end = at; removed = 0 }) at c.requires.place (omega arith) refl
