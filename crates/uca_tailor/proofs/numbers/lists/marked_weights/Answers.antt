-- With a mark or without one, and at the end.
use Rattle.std.proofs.Common.{◌≡◌, ℕ, ◌+◌, ◌<◌, Bool, true, false, cond, List, [], ◌∷◌, ◌++◌, length, get_or, drop, map, refl, sym, ap, ◌∙◌, append_assoc}
use Rattle.std.proofs.lemmas.List.{append-nil, drop_more, drop_all}
use Rattle.uca_plans.specs.declared.drafts.DraftWeight.{DraftWeight}
use Rattle.uca_plans.specs.declared.drafts.DraftWeight.TheVariants.{Base}
use Rattle.uca_tailor.specs.inside.Marks.{slots_from}
use Rattle.uca_tailor.proofs.numbers.lists.marked_weights.Goals as goal
use Rattle.uca_tailor.proofs.numbers.lists.marked_weights.Goals.{then-marked+in_ok-push, else-marked}

-- One more mark gives one more weight if it is set, and otherwise none.
weights_more : (marks : List Bool) (i : ℕ) (old new all : List DraftWeight) (mark : Bool) → i < length marks → get_or marks i false ≡ mark →
    old ++ map Base (slots_from i (drop i marks)) ≡ all → new ≡ cond mark (old ++ Base i ∷ []) old → new ++ map Base (slots_from (i + 1) (drop (i + 1) marks)) ≡ all
weights_more marks i old new all true within is so_far more =
    let left = map Base (slots_from (i + 1) (drop (i + 1) marks)) in
    let here = drop_more marks i false within ∙ ap (λ m. m ∷ drop (i + 1) marks) is in
    ap (λ l. l ++ left) more ∙ append_assoc old (Base i ∷ []) left ∙ sym (ap (λ ms. old ++ map Base (slots_from i ms)) here) ∙ so_far
weights_more marks i old new all false within is so_far more =
    let left = map Base (slots_from (i + 1) (drop (i + 1) marks)) in
    let here = drop_more marks i false within ∙ ap (λ m. m ∷ drop (i + 1) marks) is in
    ap (λ l. l ++ left) more ∙ sym (ap (λ ms. old ++ map Base (slots_from i ms)) here) ∙ so_far

pub loop-weight-preserved : goal.loop-weight-preserved
loop-weight-preserved g c =
    let marks = c.args.marks.now in
    let at = c.loop-weight.weight in
    let old = c.loop-weight.weights.items in
    let all = map Base (slots_from 0 marks) in
    elim c.if-marked.branch [
      | then-marked+in_ok-push w ↦ rw w.weights-is
          (weights_more marks at old w.push.new.self.items all true c.loop-weight-test.true w.if-marked.true c.loop-weight.invariant w.in_ok-push.ensures.items)
      | else-marked w ↦ rw w.weights-is (weights_more marks at old old all false c.loop-weight-test.true w.if-marked.false c.loop-weight.invariant refl)
    ]

pub returns : goal.returns
returns g c =
    let weights = c.loop-weight.weights.items in
    sym (append-nil weights)
    ∙ ap (λ ms. weights ++ map Base (slots_from c.loop-weight.weight ms)) (sym (drop_all c.loop-weight.weight c.args.marks.now c.loop-weight-test.false))
    ∙ c.loop-weight.invariant
