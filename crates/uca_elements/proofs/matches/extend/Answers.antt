use Rattle.std.proofs.Common.{◌≡◌, ◌<◌, length, get_or, ap, sym, ◌∙◌, arith}
use Rattle.uca_text.specs.Texts.{code_points}
use Rattle.uca_elements.proofs.ExtensionEnd.{after_at_start, going_at_start, near_start, extended_at_end}
use Rattle.uca_elements.proofs.matches.extend.Goals as goal
use Rattle.uca_elements.proofs.matches.extend.Goals.{then-loop-i-test+else-classes-i-ne0, else-loop-i-test}

pub loop-i-init : goal.loop-i-init
loop-i-init g c = record {
  after = after_at_start c.args.text.now c.args.place c.requires.place;
  going = λ front stands. going_at_start _ _ c.args.text.now c.args.place front c.args.node stands;
}

pub extended-so_far-requires : goal.extended-so_far-requires
extended-so_far-requires g c =
    let s = c.args.text.now in
    let i = c.loop-i.i in
    let value = c.classes-classes.ensures.value in
    let accepted = c.classes-classes.ensures.accepted in
    let after = c.loop-i.invariant.after in
    let going = c.loop-i.invariant.going c.requires.found.0 c.requires.found.1 in
    let non_starter : get_or s.classes i 0 ≡ 0 → ⊥ = λ zero. c.if-classes-i-ne0.true (ap (λ xs. get_or xs i 0) value ∙ zero) in
    let inside : i < length s.classes = omega (arith, ap length value) in
    record {
      found = (code_points going.key, going.node);
      within = omega (arith, accepted.same);
      non_starter = non_starter;
      after = omega (arith, after.run, after.begun, c.requires.place.begun);
      near = near_start s c.args.place c.loop-i.so_far.next i accepted after inside non_starter;
    }

pub loop-i-preserved : goal.loop-i-preserved
loop-i-preserved g c = record {
  after = c.extended-so_far.ensures.non_starters c.args.place c.loop-i.invariant.after;
  going = λ front stands. c.extended-so_far.ensures.matched c.args.place front c.loop-i.invariant.after (c.loop-i.invariant.going front stands);
}

pub returns : goal.returns
returns g c = λ front stands.
    let s = c.args.text.now in
    let i = c.loop-i.i in
    let so_far = c.loop-i.so_far in
    let value = c.classes-classes.ensures.value in
    let accepted = c.classes-classes.ensures.accepted in
    let ended : i < length s.points → get_or s.classes i 0 ≡ 0 = λ inside.
    elim c.loop-i-test.branch [
      | then-loop-i-test+else-classes-i-ne0 w ↦ ap (λ xs. get_or xs i 0) (sym value) ∙ w.if-classes-i-ne0.false
      | else-loop-i-test w ↦ absurd (omega (arith, ap length value, accepted.same))
    ] in
    extended_at_end s c.args.place so_far.next i accepted c.requires.place c.loop-i.invariant.after ended _ _ front so_far.node
    so_far.highest (c.loop-i.invariant.going front stands)
