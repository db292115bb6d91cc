use Rattle.std.proofs.Common.{◌≡◌, ◌+◌, ◌<◌, ◌≤◌, ◌↔◌, ℕ, List, length, drop, refl, subst, sym, arith}
use Rattle.std.proofs.lemmas.List.{drop_all}
use Rattle.uca_text.specs.Occurring.{OccursInOrder}
use Rattle.uca_text.proofs.InOrder.{all_found, both_further, text_further, ended}
use Rattle.uca_text.proofs.in_order.occurs_in_order.Goals as goal
use Rattle.uca_text.proofs.in_order.occurs_in_order.Goals.{then-c-part, else-c-part}

pub returns-then-at-part : goal.returns-then-at-part
returns-then-at-part c =
    let part : List ℕ = c.args.part.now in
    let at : ℕ = c.loop-c.at in
    ((λ _. all_found part c.args.text.now at c.loop-c.c-index (drop_all at part (omega arith)) c.loop-c.invariant.1), (λ _. refl))

pub loop-c-preserved : goal.loop-c-preserved
loop-c-preserved c =
    let part : List ℕ = c.args.part.now in
    let text : List ℕ = c.args.text.now in
    let at : ℕ = c.loop-c.at in
    let i : ℕ = c.loop-c.c-index in
    let x : ℕ = c.index-part-at.result in
    let y : ℕ = c.c-item.result in
    let within : at ≤ length part = c.loop-c.invariant.0 in
    let other : at ≡ length part → ⊥ = c.if-at-part.false in
    let has : at < length part = omega arith in
    elim c.if-c-part.branch [
      | then-c-part w ↦
          let further : OccursInOrder part text ↔ OccursInOrder (drop (at + 1) part) (drop (i + 1) text) =
          both_further part text at i x y has c.loop-c-test.true c.index-part-at.is c.c-item.is (sym w.if-c-part.true) c.loop-c.invariant.1 in
          let count : c.if-c-part.at ≡ at + 1 = w.at-is in
          (omega arith, subst (λ (n : ℕ). OccursInOrder part text ↔ OccursInOrder (drop n part) (drop (i + 1) text)) (sym count) further)
      | else-c-part w ↦
          let further : OccursInOrder part text ↔ OccursInOrder (drop at part) (drop (i + 1) text) =
          text_further part text at i x y has c.loop-c-test.true c.index-part-at.is c.c-item.is (λ e. w.if-c-part.false (sym e)) c.loop-c.invariant.1 in
          let count : c.if-c-part.at ≡ at = w.at-is in
          (omega arith, subst (λ (n : ℕ). OccursInOrder part text ↔ OccursInOrder (drop n part) (drop (i + 1) text)) (sym count) further)
    ]

pub returns : goal.returns
returns c =
    let part : List ℕ = c.args.part.now in
    let text : List ℕ = c.args.text.now in
    let at : ℕ = c.loop-c.at in
    ended part text at c.loop-c.c-index c.loop-c-test.false c.loop-c.invariant.0 c.loop-c.invariant.1
