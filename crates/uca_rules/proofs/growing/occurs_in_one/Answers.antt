use Rattle.std.proofs.Common.{List, ℕ, Contains, ◌∙◌, sym, subst, rules}
use Rattle.std.proofs.lemmas.Bool.{false≢true}
use Rattle.std.proofs.lemmas.List.{take_all}
use Rattle.uca_text.specs.Occurring.{OccursInOrder}
use Rattle.uca_rules.proofs.HeldTexts.{none_further}
use Rattle.uca_rules.proofs.growing.occurs_in_one.Goals as goal

pub loop-text-preserved : goal.loop-text-preserved
loop-text-preserved g c =
    none_further c.args.part.now c.args.texts.now c.loop-text.text-index c.loop-text-item.result c.loop-text-test.true c.loop-text-item.is
    (λ occurs. false≢true (c.if-occurs_in_order.ensures.1
    (subst (λ (text : List ℕ). OccursInOrder c.args.part.now text) (sym (c.deref.ensures.value ∙ c.texts.view_is)) occurs)))
    c.loop-text.invariant

pub returns-clause-none : goal.returns-clause-none
returns-clause-none g c = λ none text contained.
    c.loop-text.invariant text (subst (λ (texts : List (List ℕ)). Contains texts text) (sym (take_all c.loop-text.text-index c.args.texts.now c.loop-text-test.false)) contained)

pub returns-then-occurs_in_order-clause-none : goal.returns-then-occurs_in_order-clause-none
returns-then-occurs_in_order-clause-none g c = search rules
