use Rattle.std.proofs.Common.{◌+◌, true, false, List, drop, get_or, refl, sym, ap, ◌∙◌}
use Rattle.std.proofs.lemmas.List.{drop_more, drop_all}
use Rattle.uca_weights.specs.declared.Level.TheVariants.{One}
use Rattle.uca_plans.specs.declared.drafts.DraftWeight.TheVariants.{Base}
use Rattle.uca_plans.specs.declared.drafts.Insertion.{Insertion}
use Rattle.uca_plans.specs.Lists.{all_inserted}
use Rattle.uca_tailor.proofs.NumberLemmas.LevelLaws.{levels_compared, one_more}
use Rattle.uca_tailor.proofs.numbers.lists.members.Goals as goal
use Rattle.uca_tailor.proofs.numbers.lists.members.Goals.{then-eq+in_ok-insert, else-eq}

pub loop-insertion-preserved : goal.loop-insertion-preserved
loop-insertion-preserved g c =
    let at = c.loop-insertion.insertion-index in
    let level = c.args.level in
    let ms = c.loop-insertion.members.items in
    let none : Insertion = record { level = One; before = false; anchor = Base 0; new = Base 0 } in
    let i : Insertion = get_or c.args.insertions.now at none in
    let rest : List Insertion = drop (at + 1) c.args.insertions.now in
    let so_far = sym (ap (λ is. all_inserted level is ms) (drop_more c.args.insertions.now at none c.loop-insertion-test.true)) ∙ c.loop-insertion.invariant in
    let tested = levels_compared i.level level ∙ sym c.eq.ensures in
    elim c.if-eq.branch [
      | then-eq+in_ok-insert w ↦ rw w.members-is (one_more level i rest ms w.insert.new.members.items _ true so_far (tested ∙ w.if-eq.true) w.in_ok-insert.ensures)
      | else-eq w ↦ rw w.members-is (one_more level i rest ms ms _ false so_far (tested ∙ w.if-eq.false) refl)
    ]

pub loop-insertion-init : goal.loop-insertion-init
loop-insertion-init g c = ap (all_inserted c.args.level c.args.insertions.now) c.in_ok-members.ensures

pub returns : goal.returns
returns g c =
    ap (λ is. all_inserted c.args.level is c.loop-insertion.members.items)
    (sym (drop_all c.loop-insertion.insertion-index c.args.insertions.now c.loop-insertion-test.false))
    ∙ c.loop-insertion.invariant
