use Rattle.std.proofs.Common.{◌<◌, length, ap, sym, ◌∙◌, arith, add-one}
use Rattle.uca_elements.specs.Places.{left_at}
use Rattle.uca_elements.proofs.PlaceLemmas.{left_gone}
use Rattle.uca_elements.proofs.places.Place.first_left.Goals as goal

pub loop-i-preserved : goal.loop-i-preserved
loop-i-preserved c =
    let s = c.args.text.now in
    let within : c.loop-i.i < length s.points = omega (arith, ap length c.chars-len.ensures.value) in
    let gone = sym c.is_removed.ensures ∙ c.if-is_removed.true in
    let on = left_gone s c.args.self c.loop-i.i c.chars-len.ensures.accepted.same within gone in
    record {
      begun = omega arith;
      within = omega arith;
      same_left = ap (left_at s c.args.self) (add-one c.loop-i.i) ∙ sym on ∙ c.loop-i.invariant.same_left;
    }
