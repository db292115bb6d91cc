use Rattle.std.proofs.Common.{◌+◌, ◌-◌, ◌*◌, ◌++◌, ap, ◌∙◌, arith, rules, subst}
use Rattle.std.specs.Str.{chars}
use Rattle.std.proofs.lemmas.Bool.Decides.{nat_tests}
use Rattle.std.proofs.lemmas.List.{nil_from_length}
use Rattle.std.proofs.lemmas.Str.{chars-nil}
use Rattle.uca_text.specs.Texts.{nfd_text}
use Rattle.uca_elements.specs.Collations.{elements_of}
use Rattle.uca_key_writer.specs.inside.LevelBuffers.{HoldsLevels, levels_of}
use Rattle.uca_key_writer.specs.inside.Pieces.{HasRead}
use Rattle.uca_key_writer.proofs.BufferLemmas.{less_room}
use Rattle.uca_key_writer.proofs.StretchSteps.{stretch_begins, read_next, stretch_ends}
use Rattle.uca_key_writer.proofs.stretches.put_stretch.Goals as goal

pub loop-turn-init : goal.loop-turn-init
loop-turn-init g c = record {
  utf8 = c.utf8.text;
  few = c.requires.few;
  room = c.requires.room;
  reads = λ collation key xs entries begins. stretch_begins collation c.args.weighting xs c.args.text.now _ c.args.first.now begins;
}

pub put_elements-counts-requires : goal.put_elements-counts-requires
put_elements-counts-requires g c =
    less_room (3 * (65 - c.loop-turn._turn)) _ _ _ _ _ _ (omega (arith, c.all_elements.ensures.few)) c.loop-turn.invariant.room

pub loop-turn-preserved : goal.loop-turn-preserved
unfolding HasRead
loop-turn-preserved g c =
    let so_far = c.loop-turn.invariant in
    let turn = c.loop-turn._turn in
    let new = c.put_elements-counts.new in
    record {
      utf8 = search rules;
      few = c.in-Some.ensures.few;
      room = c.put_elements-counts.ensures.room (3 * (65 - (turn + 1)))
          (less_room (3 * (65 - turn)) _ _ _ _ _ _ (omega (arith, c.all_elements.ensures.few)) so_far.room);
      reads = λ collation key xs entries begins.
          let some = so_far.reads collation key xs entries begins in
          let before = elements_of collation (nfd_text collation.properties some.reads.before) in
          read_next collation c.args.weighting xs c.args.text.now _ _ _ _ c.loop-turn.last.now c.in-Some.next.now some
          (subst (λ es. HoldsLevels c.args.weighting (before ++ es) (levels_of new.after_variable c.put_elements-counts.result new.primary new.secondary new.tertiary new.quaternary key))
          c.all_elements.ensures.value (c.put_elements-counts.ensures.holds key before some.reads.read.0))
          c.in-Some.ensures.text c.in-Some.ensures.few (c.in-Some.ensures.entry collation entries);
    }

pub returns-then-not-is_empty : goal.returns-then-not-is_empty
returns-then-not-is_empty g c = record {
  room = less_room (3 * (65 - c.loop-turn._turn)) 0 _ _ _ _ _ (omega arith) c.loop-turn.invariant.room;
  reads = c.loop-turn.invariant.reads;
}

pub put_elements-counts-requires-2 : goal.put_elements-counts-requires-2
put_elements-counts-requires-2 g c =
    less_room (3 * (65 - c.loop-turn._turn)) _ _ _ _ _ _ (omega (arith, c.all_elements-2.ensures.few)) c.loop-turn.invariant.room

pub returns : goal.returns
unfolding HasRead
returns g c = record {
  room = c.put_elements-counts-2.ensures.room 0
      (less_room (3 * (65 - c.loop-turn._turn)) _ _ _ _ _ _ (omega (arith, c.all_elements-2.ensures.few)) c.loop-turn.invariant.room);
  reads = λ collation key xs entries begins.
      let some = c.loop-turn.invariant.reads collation key xs entries begins in
      let before = elements_of collation (nfd_text collation.properties some.reads.before) in
      let new = c.put_elements-counts-2.new in
      let none = ap chars (nil_from_length c.loop-turn.rest.now (grind (arith, nat_tests, c.is_empty.ensures, c.if-not-is_empty.ensures, c.if-not-is_empty.false))) ∙ chars-nil in
      stretch_ends collation c.args.weighting xs c.args.text.now _ _ _ c.loop-turn.last.now some none
      (subst (λ es. HoldsLevels c.args.weighting (before ++ es) (levels_of new.after_variable c.put_elements-counts-2.result new.primary new.secondary new.tertiary new.quaternary key))
      c.all_elements-2.ensures.value (c.put_elements-counts-2.ensures.holds key before some.reads.read.0));
}
