-- One character more, and all of them.
use Rattle.std.proofs.Common.{length, sym, ap, refl, ◌∙◌, arith}
use Rattle.std.specs.Str.Iter.{char_indices_offset}
use Rattle.std.proofs.lemmas.Str.{IsUtf8-past_char}
use Rattle.std.proofs.lemmas.List.{length-append}
use Rattle.std.proofs.lemmas.Grind.{common_steps}
use Rattle.uca_rules.proofs.Placing.{placed_more, placed_all}
use Rattle.uca_rules.proofs.characters.characters.Goals as goal

pub loop-place-preserved : goal.loop-place-preserved
loop-place-preserved g c =
    let s = c.in-Some.ensures.steps in
    let i = c.loop-place.invariant in
    let more = placed_more c.loop-place.characters.items (char_indices_offset c.loop-place.place-iterator) c.in-Some.code c.in-Some.place (char_indices_offset c.next.new.self) _ _ i.utf8 s.1 s.0 s.2 in
    record {
      items = grind (arith, common_steps);
      place = omega (arith, simp length-append at (ap length s.1));
      utf8 = IsUtf8-past_char _ _ _ i.utf8 s.1;
    }

pub returns-clause-found : goal.returns-clause-found
returns-clause-found g c = sym (placed_all _ _ _ c.in-None.ensures.steps.0) ∙ c.loop-place.invariant.items

pub returns-then-is_err-clause-fault : goal.returns-then-is_err-clause-fault
returns-then-is_err-clause-fault g c = (refl, omega (arith, c.in-Some.ensures.steps.0, c.loop-place.invariant.place))
