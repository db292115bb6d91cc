use Rattle.std.proofs.Common.{◌≡◌, ℕ, Bool, true, false, List, true≢false, ap, sym, ◌∙◌, subst}
use Rattle.uca_values.specs.Ranges.{is_within}
use Rattle.uca_change_files.specs.Changes.{ChangeContent, IsChangeList}
use Rattle.uca_editions.proofs.AffectedTexts.{affected_by_point}
use Rattle.uca_editions.proofs.FreeTexts.{found_later, new_free, seen_free}
use Rattle.uca_editions.proofs.index.ChangeIndex.is_hit.Goals as goal

-- whether a range has a code point
in_ranges : (list now : ChangeContent) (point : ℕ) (held answer : Bool) → list ≡ now → held ≡ is_within list.ranges point → held ≡ answer → is_within now.ranges point ≡ answer
in_ranges list now point held answer same told answered = ap (λ (l : ChangeContent). is_within l.ranges point) (sym same) ∙ sym told ∙ answered

pub returns-then-has_point-clause-hit : goal.returns-then-has_point-clause-hit
returns-then-has_point-clause-hit g c = λ same.
    affected_by_point c.args.self.now c.args.points.now c.args.at c.index-points-at.result c.requires.within c.index-points-at.is
    (in_ranges c.self.inside.list c.args.self.now c.index-points-at.result c.has_point.result true c.self.view_is c.has_point.ensures c.if-has_point.true)

pub returns-then-is_among-clause-free : goal.returns-then-is_among-clause-free
returns-then-is_among-clause-free g c = λ same.
    seen_free c.args.self.now c.args.points.now c.args.at c.index-points-at.result (c.is_among.ensures.0 c.if-is_among.true)
    (in_ranges c.self.inside.list c.args.self.now c.index-points-at.result c.has_point.result false c.self.view_is c.has_point.ensures c.if-has_point.false)
    c.requires.within c.index-points-at.is c.requires.free

pub returns-clause-hit : goal.returns-clause-hit
returns-clause-hit g c = λ found.
    let there = c.one_occurs.ensures.found found in
    found_later c.args.self.now c.args.points.now c.texts.result.now c.args.at (c.texts.ensures.value ∙ ap (λ (l : ChangeContent). l.texts) c.self.view_is)
    there.0 there.1 there.2

pub returns-clause-free : goal.returns-clause-free
returns-clause-free g c = λ none.
    new_free c.args.self.now c.args.points.now c.texts.result.now c.args.at c.index-points-at.result
    (c.texts.ensures.value ∙ ap (λ (l : ChangeContent). l.texts) c.self.view_is) (subst IsChangeList c.self.view_is c.self.invariant.list)
    (λ seen. true≢false (sym (c.is_among.ensures.1 seen) ∙ c.if-is_among.false)) (c.one_occurs.ensures.none none)
    (in_ranges c.self.inside.list c.args.self.now c.index-points-at.result c.has_point.result false c.self.view_is c.has_point.ensures c.if-has_point.false)
    c.requires.within c.index-points-at.is c.requires.free
