-- The marks of the weight that stays, and of those of all rows.
use Rattle.std.proofs.Common.{map, ap, sym, subst, ◌∙◌, ◌≡◌, false, [], slice_index_or}
use Rattle.std.proofs.lemmas.Result.{IfOk-weaker}
use Rattle.uca_check.specs.WellFormed.{elements_of}
use Rattle.uca_plans.specs.declared.drafts.DraftWeight.TheVariants.{Base}
use Rattle.uca_tailor.specs.inside.Marks.{AreMarked}
use Rattle.uca_tailor.proofs.NumberLemmas.MarkLaws.{marked_are}
use Rattle.uca_tailor.proofs.NumberLemmas.TableLaws.{as_far}
use Rattle.uca_tailor.proofs.numbers.lists.base_weights.Goals as goal

pub mark_fixed-requires-clause-count : goal.mark_fixed-requires-clause-count
mark_fixed-requires-clause-count g c = c.deref_mut.ensures.len ∙ c.in_ok-marks.ensures.length

pub mark_fixed-requires-clause-none : goal.mark_fixed-requires-clause-none
mark_fixed-requires-clause-none g c w = ap (λ marks. slice_index_or marks w false) c.deref_mut.ensures.value ∙ c.in_ok-marks.ensures.none w

pub mark_rows-requires : goal.mark_rows-requires
mark_rows-requires g c =
    let same = c.deref_mut-2.ensures.value
    ∙ as_far c.mark_fixed.new.marks _ c.in_ok-marks.marks.len (c.mark_fixed.ensures.count ∙ sym c.in_ok-marks.ensures.length) in
    subst (AreMarked c.args.level []) (sym same) c.mark_fixed.ensures

pub marked_weights-requires : goal.marked_weights-requires
marked_weights-requires g c = c.deref.ensures.len ∙ c.in_ok-marks.ensures.length

pub returns : goal.returns
returns g c =
    let same : c.deref.result.now ≡ c.mark_rows.new.marks =
    c.deref.ensures.value ∙ as_far c.mark_rows.new.marks _ c.in_ok-marks.marks.len (c.mark_rows.ensures.count ∙ sym c.in_ok-marks.ensures.length) in
    let marked : AreMarked c.args.level (elements_of c.args.rows.now) c.deref.result.now =
    subst (AreMarked c.args.level (elements_of c.args.rows.now)) (sym same) c.mark_rows.ensures in
    IfOk-weaker c.marked_weights.result _ _
    (λ weights is. is ∙ ap (map Base) (marked_are c.args.level (elements_of c.args.rows.now) c.deref.result.now marked)) c.marked_weights.ensures
