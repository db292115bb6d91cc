-- With one more element, and with all of them.
use Rattle.std.proofs.Common.{[], false, map, sym, ap, ◌∙◌}
use Rattle.std.proofs.lemmas.Simd.{map-map}
use Rattle.uca_weights.specs.declared.Element.{Element}
use Rattle.uca_plans.specs.declared.drafts.DraftElement.{DraftElement}
use Rattle.uca_plans.specs.declared.drafts.DraftWeight.TheVariants.{Base}
use Rattle.uca_plans.specs.Drafts.{as_draft}
use Rattle.uca_plans.specs.Plans.{numbered}
use Rattle.uca_tailor.specs.inside.RowDrafts.{row_elements}
use Rattle.uca_tailor.proofs.Mapped.{mapped_more, mapped_all}
use Rattle.uca_tailor.proofs.RowElements.{no_element}
use Rattle.uca_tailor.proofs.plan.number_elements.Goals as goal

-- What a read past the end would give.
abbrev none_drafted : DraftElement
none_drafted = record { primary = Base 0; secondary = Base 0; tertiary = Base 0; mark = false; implicit = false }

pub loop-element-preserved : goal.loop-element-preserved
loop-element-preserved g c =
    mapped_more (λ (e : Element). numbered c.args.numbers.now (as_draft false e)) c.in-Base.own.now c.loop-element.element-index no_element []
    c.loop-element.numbered.items c.push.new.self.items c.number_element.result c.loop-element-test.true
    (c.number_element.ensures ∙ ap (numbered c.args.numbers.now) c.as_draft.ensures) c.loop-element.invariant c.in_ok-push-in-Base.ensures.items

pub loop-drafted-preserved : goal.loop-drafted-preserved
loop-drafted-preserved g c =
    mapped_more (numbered c.args.numbers.now) c.deref-drafted-items.result.now c.loop-drafted.drafted-index none_drafted [] c.loop-drafted.numbered.items
    c.push-in-loop-drafted.new.self.items c.number_element-in-loop-drafted.result c.loop-drafted-test.true c.number_element-in-loop-drafted.ensures
    c.loop-drafted.invariant c.in_ok-push-in-Target.ensures.items

pub returns-after-loop-element : goal.returns-after-loop-element
returns-after-loop-element g c =
    mapped_all (λ (e : Element). numbered c.args.numbers.now (as_draft false e)) c.in-Base.own.now c.loop-element.element-index [] c.loop-element.numbered.items
    c.loop-element-test.false c.loop-element.invariant
    ∙ sym (map-map (numbered c.args.numbers.now) (as_draft false) c.in-Base.own.now)
    ∙ ap (λ rows. map (numbered c.args.numbers.now) (row_elements rows)) (sym c.in-Base.is)

pub returns-after-loop-drafted : goal.returns-after-loop-drafted
returns-after-loop-drafted g c =
    mapped_all (numbered c.args.numbers.now) c.deref-drafted-items.result.now c.loop-drafted.drafted-index [] c.loop-drafted.numbered.items c.loop-drafted-test.false
    c.loop-drafted.invariant
    ∙ ap (map (numbered c.args.numbers.now)) c.deref-drafted-items.ensures.value
    ∙ ap (λ rows. map (numbered c.args.numbers.now) (row_elements rows)) (sym c.in-Target.is)
