-- Level by level, and then what may follow.
use Rattle.std.proofs.Common.{◌≡◌, ℕ, suc, ◌+◌, ◌-◌, List, length, take, drop, Some, None, if◌then◌else◌, ap, subst, ◌∙◌, arith}
use Rattle.std.proofs.lemmas.List.{take_all, length-drop}
use Rattle.uca_order.specs.Levels.{level_count}
use Rattle.uca_tailorings.specs.Inputs.{maps_of}
use Rattle.uca_tailorings.specs.Moves.{after_weights, moved_key}
use Rattle.uca_images.specs.Moving.{MoverState}
use Rattle.uca_images.proofs.MovingSteps.{key_ends, none_moved, with_level, after_level, rest_stays}
use Rattle.uca_images.proofs.mover.KeyMover.move_key.Goals as goal

pub loop-level-init : goal.loop-level-init
loop-level-init g c = record {
  within = omega arith;
  moved = none_moved (maps_of c.args.self.now.certificate) c.args.self.now.settings.depth c.args.self.now.settings.weighting _ c.args.key.now
      (c.level_count-levels.ensures.count ∙ ap (λ (s : MoverState). level_count s.settings.weighting) c.self.view_is);
}

pub returns-in-Key : goal.returns-in-Key
returns-in-Key g c =
    let state = c.args.self.now in
    let maps = maps_of state.certificate in
    let moved = moved_key maps state.settings.depth state.settings.weighting c.args.key.now in
    let level = c.loop-level.level in
    let levels = c.level_count-levels.result in
    let so_far = with_level maps state.settings.depth level levels c.loop-level.at c.loop-level.key moved c.loop-level-test.true c.loop-level.invariant.moved in
    key_ends state.settings.depth c.self.inside.settings.depth c.move_level.new.key (levels - (level + 1)) moved c.may_end.result (ap (λ (s : MoverState). s.settings.depth) c.self.view_is)
    (c.in-Key.ensures.moved maps state.settings.depth (suc level) (levels - (level + 1)) moved c.images.ensures so_far) (c.may_end.ensures c.move_level.new.key)

pub returns-in-Missing : goal.returns-in-Missing
returns-in-Missing g c =
    let state = c.args.self.now in
    let maps = maps_of state.certificate in
    let moved = moved_key maps state.settings.depth state.settings.weighting c.args.key.now in
    let level = c.loop-level.level in
    let levels = c.level_count-levels.result in
    let so_far = with_level maps state.settings.depth level levels c.loop-level.at c.loop-level.key moved c.loop-level-test.true c.loop-level.invariant.moved in
    c.in-Missing.ensures.moved maps state.settings.depth (suc level) (levels - (level + 1)) moved c.images.ensures so_far

pub loop-level-preserved : goal.loop-level-preserved
loop-level-preserved g c =
    let state = c.args.self.now in
    let maps = maps_of state.certificate in
    let moved = moved_key maps state.settings.depth state.settings.weighting c.args.key.now in
    let level = c.loop-level.level in
    let levels = c.level_count-levels.result in
    let so_far = with_level maps state.settings.depth level levels c.loop-level.at c.loop-level.key moved c.loop-level-test.true c.loop-level.invariant.moved in
    record {
      within = omega (arith, c.in-Next.ensures.within);
      moved = after_level maps state.settings.depth level (levels - (level + 1)) c.in-Next.next c.move_level.new.key moved
          (c.in-Next.ensures.moved maps state.settings.depth (suc level) (levels - (level + 1)) moved c.images.ensures so_far);
    }

pub returns : goal.returns
returns g c =
    let state = c.args.self.now in
    let at = c.loop-level.at in
    let key = c.loop-level.key in
    let rest : take (length key - at) (drop at key) ≡ drop at key = take_all (length key - at) (drop at key) (omega (arith, length-drop at key)) in
    rest_stays (maps_of state.certificate) state.settings.depth c.self.inside.settings.depth _ _ at key _ c.may_follow.result
    (ap (λ (s : MoverState). s.settings.depth) c.self.view_is) (omega arith) c.loop-level.invariant.moved
    (subst (λ (bytes : List ℕ). after_weights c.self.inside.settings.depth bytes ≡ (if c.may_follow.result then Some bytes else None)) rest c.may_follow.ensures)
