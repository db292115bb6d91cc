use Rattle.std.proofs.Common.{◌≡◌, [], ◌∷◌, ◌++◌, sym, ◌∙◌, subst}
use Rattle.std.specs.Bool.{OnTrue}
use Rattle.std.specs.Str.{chars}
use Rattle.std.specs.Prelude.{IfOk}
use Rattle.std.proofs.lemmas.Iterator.{YieldsList-from_chars}
use Rattle.std.proofs.lemmas.Iterator.Consumers.{YieldsList-end, YieldsList-so_far, YieldsList-turn}
use Rattle.std.proofs.lemmas.List.{map-id}
use Rattle.uca_elements.specs.Collations.{collation_of}
use Rattle.uca_key_writer.specs.inside.Pieces.{ReadsTo, HasRead}
use Rattle.uca_key_writer.proofs.PieceSteps.{begin_text}
use Rattle.uca_key_writer.proofs.BeginningSteps.{begun_all, begun_early, text_parts}
use Rattle.uca_key_writer.proofs.beginnings.push_beginning.Goals as goal

pub loop-point-init : goal.loop-point-init
loop-point-init g c = record {
  entries = c.requires.entries;
  reads = begin_text (collation_of g.L.Lookup.content c.args.collator.now) c.args.weighting c.args.levels.now c.clear.new.self
      c.requires.empty c.clear.ensures.points c.clear.ensures.alone;
}

pub loop-point-preserved : goal.loop-point-preserved
loop-point-preserved g c =
    let collation = collation_of g.L.Lookup.content c.args.collator.now in record {
      entries = c.go_on.ensures.entries;
      reads = subst (λ accepted. OnTrue accepted (ReadsTo collation c.args.weighting (c.loop-point.yielded ++ c.in-Some.point ∷ []) c.go_on.new.levels c.go_on.new.self))
          c.in-Ok-true.field-0-test (c.in-Ok-true.ensures.read c.loop-point.yielded c.loop-point.invariant.reads);
    }

pub returns-then-has_beginning : goal.returns-then-has_beginning
returns-then-has_beginning g c =
    let collation = collation_of g.L.Lookup.content c.args.collator.now in
    let so_far = c.loop-point.invariant in
    let xs = c.loop-point.yielded in
    let all = chars c.args.text.now in
    let road = YieldsList-from_chars c.args.text.now c.utf8.text (rw c.into_iter-point-iterator.ensures.into_iter_gives c.chars-point-items.ensures.rest) in
    let before = YieldsList-so_far road xs _ c.loop-point.yielded_by in
    let next = YieldsList-turn road xs _ c.loop-point.yielded_by _ _ c.in-Some.point c.in-Some.is c.next.ensures.steps in
    let reads = subst (λ accepted. OnTrue accepted (ReadsTo collation c.args.weighting (xs ++ c.in-Some.point ∷ []) c.go_on.new.levels c.go_on.new.self))
    c.in-Ok-true.field-0-test (c.in-Ok-true.ensures.read xs so_far.reads) in
    record {
      entries = c.go_on.ensures.entries;
      begun = begun_early collation c.args.weighting all (xs ++ c.in-Some.point ∷ []) _ c.go_on.new.levels c.go_on.new.self
          (text_parts all xs c.in-Some.point before next) reads c.if-has_beginning.ensures;
    }

pub returns : goal.returns
returns g c =
    let collation = collation_of g.L.Lookup.content c.args.collator.now in
    let so_far = c.loop-point.invariant in
    let end = YieldsList-end (YieldsList-from_chars c.args.text.now c.utf8.text (rw c.into_iter-point-iterator.ensures.into_iter_gives c.chars-point-items.ensures.rest)) c.loop-point.yielded _ c.loop-point.yielded_by _ _ c.in-None.is
    c.next.ensures.steps in
    let all : c.loop-point.yielded ≡ chars c.args.text.now = sym (map-id c.loop-point.yielded) ∙ end.0 in
    record {
      entries = c.end.ensures.entries;
      begun = begun_all collation c.args.weighting (chars c.args.text.now) c.end.new.levels c.end.result
          (subst (λ xs. IfOk c.end.result (λ accepted. OnTrue accepted (HasRead collation c.args.weighting xs c.end.new.levels))) all
          (c.end.ensures.read c.loop-point.yielded so_far.reads));
    }

pub returns-in-Ok-false : goal.returns-in-Ok-false
returns-in-Ok-false g c = record { entries = c.go_on.ensures.entries; begun = tt }

pub returns-in-Err : goal.returns-in-Err
returns-in-Err g c = record { entries = c.go_on.ensures.entries; begun = tt }
