-- One weight more, the end of the level, a weight without an image, and a single byte at the end.
use Rattle.std.proofs.Common.{◌≡◌, ◌+◌, ◌*◌, get_or, refl, sym, ap, ◌∙◌, arith}
use Rattle.std.proofs.lemmas.List.{length-set}
use Rattle.uca_images.proofs.MovingSteps.{weight_step, next_level, missing_weight, odd_end}
use Rattle.uca_images.proofs.levels.move_level.Goals as goal

pub loop-at-preserved : goal.loop-at-preserved
loop-at-preserved c =
    let w = c.from-in-loop-at-2.result in
    let x = get_or c.args.images.now w 0 in
    record {
      within = simp length-set (omega arith);
      moved = λ maps depth level more moved is so_far.
          weight_step maps depth level more c.loop-at.key c.loop-at.at moved c.args.images.now w x c.to_be_bytes.result is (omega arith) (omega arith)
          (λ none. c.if-weight-eq0.false (omega arith)) (omega arith) refl c.if-image-eq0.false (omega (arith, c.type_inv.images w)) c.to_be_bytes.ensures
          (c.loop-at.invariant.moved maps depth level more moved is so_far);
    }

pub returns-else-at-key-clause-moved : goal.returns-else-at-key-clause-moved
returns-else-at-key-clause-moved c = λ maps depth level more moved is so_far.
    odd_end maps depth level more c.loop-at.key c.loop-at.at moved (omega arith) (omega arith) (c.loop-at.invariant.moved maps depth level more moved is so_far)

pub returns-then-weight-eq0-clause-moved : goal.returns-then-weight-eq0-clause-moved
returns-then-weight-eq0-clause-moved c = λ maps depth level more moved is so_far.
    next_level maps depth level more c.loop-at.key c.loop-at.at moved (omega arith) (omega arith) (c.loop-at.invariant.moved maps depth level more moved is so_far)

pub returns-then-image-eq0-clause-moved : goal.returns-then-image-eq0-clause-moved
returns-then-image-eq0-clause-moved c = λ maps depth level more moved is so_far.
    let table = c.args.images.now in
    let key = c.loop-at.key in
    let w = c.from-in-loop-at-2.result in
    let same : w ≡ 256 * get_or key c.loop-at.at 0 + get_or key (c.loop-at.at + 1) 0 = omega arith in
    missing_weight maps depth level more key c.loop-at.at moved table is (omega arith) (omega arith) (omega arith)
    (sym c.if-image-eq0.true ∙ ap (λ n. get_or table n 0) same) (c.loop-at.invariant.moved maps depth level more moved is so_far)
