use Rattle.std.proofs.Common.{◌≡◌, length, ap, ◌∙◌}
use Rattle.uca_elements.specs.Collations.{collation_of, elements_of}
use Rattle.uca_comparison.specs.Fronts.{counted}
use Rattle.uca_order.proofs.KeyLength.{shown}
use Rattle.uca_comparison.proofs.Counts.{count_one}
use Rattle.uca_text_comparer.proofs.PlainComparisons.{itself_compared}
use Rattle.uca_text_comparer.proofs.itself.compare_itself.Goals as goal

pub loop-element-preserved : goal.loop-element-preserved
loop-element-preserved g c = count_one c.loop-element.yielded _ _ _ c.loop-element.invariant c.saturating_add-count.ensures

pub returns : goal.returns
returns g c =
    let es = elements_of (collation_of g.L.Lookup.content c.args.collator.now) c.args.text.now in
    let all : c.loop-element.yielded ≡ es =
    shown _ c.loop-element.yielded _ _ c.loop-element.yielded_by c.in-None.ensures.steps
    ∙ c.into_iter-element-iterator.ensures.into_iter_gives ∙ c.elements-element-items.ensures in
    itself_compared c.args.weighting es c.loop-element.count c.level_count.result (c.loop-element.invariant ∙ ap (λ l. counted 0 (length l)) all)
    c.level_count.ensures
