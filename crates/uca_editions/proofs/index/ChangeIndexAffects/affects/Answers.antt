-- One more code point that affects nothing, and that all affect nothing.
use Rattle.std.proofs.Common.{◌≡◌, false, List, ℕ, ap, sym, ◌∙◌, subst}
use Rattle.uca_table.specs.inside.Keeping.{has_bit}
use Rattle.uca_change_files.specs.Changes.{ChangeContent, IsChangeList}
use Rattle.uca_editions.specs.AffectedTexts.{is_affected_by}
use Rattle.uca_editions.specs.inside.Index.{AreMarked}
use Rattle.uca_editions.proofs.FreeTexts.{all_free, unmarked_free}
use Rattle.uca_editions.proofs.index.ChangeIndexAffects.affects.Goals as goal
use Rattle.uca_editions.proofs.index.ChangeIndexAffects.affects.Goals.{else-is_marked-via-then-is_marked+else-is_hit, else-is_marked-via-else-is_marked}

pub loop-at-preserved : goal.loop-at-preserved
loop-at-preserved g c =
    elim c.else-is_marked.branch [
      | else-is_marked-via-then-is_marked+else-is_hit w ↦ w.is_hit.ensures.free w.if-is_hit.false
      | else-is_marked-via-else-is_marked w ↦
          let words = c.self.inside.marks.items in
          let point = c.index-points-at.result in
          unmarked_free c.args.self.now c.chars-points.result.now words c.loop-at.at point
          (subst (λ (content : ChangeContent). AreMarked content words) c.self.view_is c.self.invariant)
          (ap (λ (ws : List ℕ). has_bit ws point) (sym c.deref.ensures.value) ∙ sym c.is_marked.ensures ∙ w.if-is_marked.false)
          c.loop-at-test.true c.index-points-at.is c.loop-at.invariant
    ]

pub returns : goal.returns
returns g c =
    let none = all_free c.args.self.now c.chars-points.result.now c.loop-at.at (subst IsChangeList c.self.view_is c.self.invariant.list) c.loop-at-test.false c.loop-at.invariant in
    sym (subst (λ (points : List ℕ). is_affected_by c.args.self.now points ≡ false) c.chars-points.ensures.value none)
