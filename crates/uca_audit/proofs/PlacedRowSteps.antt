-- What the row of a target says of its anchor and its new weight.
use Rattle.std.proofs.Common.{◌≡◌, ℕ, ◌+◌, List, ◌∷◌, Bool, take, drop, get_or, sym, ap, subst, ◌∙◌}
use Rattle.std.proofs.lemmas.List.{append_cancel_left}
use Rattle.uca_weights.specs.declared.Element.{Element}
use Rattle.uca_weights.specs.declared.Level.{Level}
use Rattle.uca_weights.specs.Levels.{weight}
use Rattle.uca_tailorings.specs.Placing.{reweighted, placed, IsAnchor, IsOnSide}
use Rattle.uca_tailorings.proofs.Relating.{one_anchor}
use Rattle.uca_audit.specs.inside.Anchors.{IsAnchorAt}
use Rattle.uca_audit.specs.inside.PlacedRows.{IsRowAt}
use Rattle.uca_audit.proofs.AnchorSteps.{member_at}
use Rattle.uca_tailorings.proofs.Relating.{weight_of_new}

-- a row has one new weight
pub one_weight : (level : Level) (before : List Element) (last : Element) (expansion : List Element) (v w : ℕ) →
    placed level before last expansion v ≡ placed level before last expansion w → v ≡ w
one_weight level before last expansion v w same =
    let after : reweighted level v last ∷ expansion ≡ reweighted level w last ∷ expansion =
    append_cancel_left before (reweighted level v last ∷ expansion) (reweighted level w last ∷ expansion) same in
    let element : reweighted level v last ≡ reweighted level w last = cc in
    sym (weight_of_new level v last) ∙ ap (weight level) element ∙ weight_of_new level w last

module _ (level : Level) (is_before : Bool) (anchor expansion row : List Element) (at : ℕ) (d : Element) (found : IsAnchorAt level anchor at) where
  -- the row of a target has the old weight and the elements as the anchor's position says
  pub row_by_place : (old new : ℕ) → IsRowAt level is_before anchor expansion row old new →
      (weight level (get_or anchor at d) ≡ old) × (row ≡ placed level (take at anchor) (get_or anchor at d) expansion new)
  row_by_place old new is =
      let parts = one_anchor level is.before (take at anchor) is.last found.last is.trailing (drop (at + 1) anchor)
      (sym is.is_anchor.whole ∙ found.anchor.whole) is.is_anchor.ignorable found.anchor.ignorable is.is_anchor.not_ignorable found.anchor.not_ignorable in
      let last : is.last ≡ get_or anchor at d = parts.1 ∙ member_at anchor at found.last d found.within found.anchor.whole in (
        ap (weight level) (sym last) ∙ is.old_weight,
        is.is_row ∙ ap (λ before. placed level before is.last expansion new) parts.0 ∙ ap (λ e. placed level (take at anchor) e expansion new) last,
      )

  -- a row that is on the other side of the old weight is no row of the target
  pub none_on_side : (v : ℕ) → row ≡ placed level (take at anchor) (get_or anchor at d) expansion v →
      ¬ (IsOnSide is_before (weight level (get_or anchor at d)) v) → (old new : ℕ) → ¬ (IsRowAt level is_before anchor expansion row old new)
  none_on_side v row_is off old new is =
      let by_place = row_by_place old new is in
      let same : new ≡ v = one_weight level (take at anchor) (get_or anchor at d) expansion new v (sym by_place.1 ∙ row_is) in
      off (subst (λ w. IsOnSide is_before w v) (sym by_place.0) (subst (λ w. IsOnSide is_before old w) same is.side))

  -- a row that is on the right side of the old weight is a row of the target
  pub row_there : (old v : ℕ) → old ≡ weight level (get_or anchor at d) → row ≡ placed level (take at anchor) (get_or anchor at d) expansion v →
      IsOnSide is_before old v → IsRowAt level is_before anchor expansion row old v
  row_there old v was row_is side = record {
    before = take at anchor;
    last = get_or anchor at d;
    trailing = drop (at + 1) anchor;
    is_anchor = subst (λ e. IsAnchor level anchor (take at anchor) e (drop (at + 1) anchor)) (member_at anchor at found.last d found.within found.anchor.whole) found.anchor;
    old_weight = sym was;
    side = side;
    is_row = row_is;
  }
