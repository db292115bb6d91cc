use Rattle.std.proofs.Common.{[], ◌∷◌, ◌++◌, sym, ◌∙◌, subst, append-nil, append_assoc}
use Rattle.uca_key_writer.specs.inside.LevelBuffers.{HoldsLevels}
use Rattle.uca_order.proofs.KeyLength.{shown}
use Rattle.uca_key_writer.proofs.pieces.push_elements.Goals as goal

pub loop-element-init : goal.loop-element-init
loop-element-init g c = λ es h. subst (λ l. HoldsLevels c.args.weighting l c.args.levels.now) (sym (append-nil es)) h

pub loop-element-preserved : goal.loop-element-preserved
loop-element-preserved g c = λ es h.
    subst (λ l. HoldsLevels c.args.weighting l c.push.new.self) (append_assoc es c.loop-element.yielded (c.in-Some.element ∷ []))
    (c.in_ok-push.ensures (es ++ c.loop-element.yielded) (c.loop-element.invariant es h))

pub returns : goal.returns
returns g c = λ es h.
    let all = shown _ c.loop-element.yielded _ _ c.loop-element.yielded_by c.in-None.ensures.steps
    ∙ c.into_iter-element-iterator.ensures.into_iter_gives ∙ c.elements-element-items.ensures in
    subst (λ l. HoldsLevels c.args.weighting (es ++ l) c.loop-element.levels) all (c.loop-element.invariant es h)
