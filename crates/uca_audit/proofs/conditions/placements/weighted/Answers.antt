-- The row of a target by the anchor's position.
use Rattle.std.proofs.Common.{refl, sym, ◌∙◌, subst}
use Rattle.std.proofs.lemmas.Bool.{false≢true}
use Rattle.uca_tailorings.specs.Placing.{IsOnSide}
use Rattle.uca_audit.proofs.PlacedRowSteps.{row_by_place, none_on_side, row_there}
use Rattle.uca_audit.proofs.conditions.placements.weighted.Goals as goal

pub returns-in_err-new : goal.returns-in_err-new
returns-in_err-new c =
    rw c.from_residual-in_err-new.ensures
    (λ old new is. c.in_err-new.ensures new
    (row_by_place c.args.level c.args.is_before c.args.anchor.now c.args.expansion.now c.args.row.now c.in_ok-at.at _ c.in_ok-at.ensures old new is).1)

pub returns-then-not-is_on_side : goal.returns-then-not-is_on_side
returns-then-not-is_on_side c =
    none_on_side c.args.level c.args.is_before c.args.anchor.now c.args.expansion.now c.args.row.now c.in_ok-at.at _ c.in_ok-at.ensures
    c.in_ok-new.new c.in_ok-new.ensures
    (λ side. false≢true (sym c.if-not-is_on_side.true
    ∙ c.is_on_side.ensures.1 (subst (λ w. IsOnSide c.args.is_before w c.in_ok-new.new) (sym c.weight-old.ensures) side)))

pub returns-in_err-at : goal.returns-in_err-at
returns-in_err-at c =
    rw c.from_residual.ensures
    (λ old new is. c.in_err-at.ensures is.before is.last is.trailing is.is_anchor)

pub returns : goal.returns
returns c = (
  refl,
  row_there c.args.level c.args.is_before c.args.anchor.now c.args.expansion.now c.args.row.now c.in_ok-at.at _ c.in_ok-at.ensures c.weight-old.result
      c.in_ok-new.new c.weight-old.ensures c.in_ok-new.ensures (c.is_on_side.ensures.0 c.if-not-is_on_side.false),
)
