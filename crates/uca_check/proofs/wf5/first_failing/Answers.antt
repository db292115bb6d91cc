use Rattle.std.proofs.Common.{sym, ◌∙◌, arith}
use Rattle.std.proofs.lemmas.Bool.{false≢true}
use Rattle.std.proofs.lemmas.List.Elements.{recursion_from_All, All-from_all_within, AllWithin-upto, at_read}
use Rattle.uca_values.specs.Content.{properties_of}
use Rattle.uca_check.specs.WellFormed.{MeetsWF5}
use Rattle.uca_check.proofs.Firsts.{first_at, within_more}
use Rattle.uca_check.proofs.wf5.first_failing.Goals as goal

pub loop-at-init : goal.loop-at-init
loop-at-init g c = λ k d low high. absurd (omega arith)

pub loop-at-preserved : goal.loop-at-preserved
loop-at-preserved g c =
    let rows = c.args.rows.now in
    let class = (properties_of c.args.«data».now).class in
    within_more (MeetsWF5 class rows) rows c.loop-at.at c.index-rows-at.result c.loop-at-test.true c.index-rows-at.is c.loop-at.invariant (c.has_shorter.ensures.0 c.if-not-has_shorter.false)

pub returns-then-not-has_shorter : goal.returns-then-not-has_shorter
returns-then-not-has_shorter g c =
    let rows = c.args.rows.now in
    let class = (properties_of c.args.«data».now).class in
    let fails = λ (meets : MeetsWF5 class rows c.index-rows-at.result). false≢true (sym c.if-not-has_shorter.true ∙ c.has_shorter.ensures.1 meets) in
    (c.loop-at-test.true, first_at (MeetsWF5 class rows) rows c.loop-at.at c.loop-at-test.true (at_read rows (λ row. MeetsWF5 class rows row → ⊥) c.loop-at.at c.index-rows-at.result c.loop-at-test.true c.index-rows-at.is fails) c.loop-at.invariant)

pub returns : goal.returns
returns g c =
    let rows = c.args.rows.now in
    let class = (properties_of c.args.«data».now).class in
    recursion_from_All (MeetsWF5 class rows) rows (All-from_all_within (MeetsWF5 class rows) rows (AllWithin-upto (MeetsWF5 class rows) rows 0 c.loop-at.at _ (omega arith) c.loop-at.invariant))
