-- The text stands at its place, or nowhere.
use Rattle.std.proofs.Common.{Contains, List, ℕ, arith, subst, sym, ◌∙◌}
use Rattle.std.proofs.lemmas.Bool.{false≢true}
use Rattle.std.proofs.lemmas.Grind.{common_steps}
use Rattle.std.proofs.lemmas.Slice.Eq.{slice_eq-Decides}
use Rattle.uca_change_files.specs.Changes.{ChangeContent}
use Rattle.uca_change_files.proofs.Orders.{IsTextPlace, no_text_there, text_is_there}
use Rattle.uca_change_files.proofs.list.ChangeList.has_text.Goals as goal

pub returns-then-place-len : goal.returns-then-place-len
returns-then-place-len g c =
    let text = c.args.text.now in
    let place = subst (λ (texts : List (List ℕ)). IsTextPlace text texts c.text_place-place.result) c.deref.ensures.value c.text_place-place.ensures.place in
    let none = no_text_there text c.self.inside.texts.items c.text_place-place.result c.self.invariant.texts_rise place (omega (arith, c.if-place-len.true, c.len.ensures)) in
    (λ h. absurd (false≢true h), λ held. absurd (none (subst (λ (list : ChangeContent). Contains list.texts text) (sym c.self.view_is) held)))

pub returns : goal.returns
returns g c =
    let text = c.args.text.now in
    let at = c.text_place-place.result in
    let place = subst (λ (texts : List (List ℕ)). IsTextPlace text texts at) c.deref.ensures.value c.text_place-place.ensures.place in
    let bound = c.text_place-place.ensures.bound in
    let there = text_is_there text c.self.inside.texts.items at c.self.invariant.texts_rise place
    (omega (arith, c.if-place-len.false, c.len.ensures, bound, c.deref.ensures.len)) c.index.result.now c.index.ensures in
    let same = slice_eq-Decides (λ a b. grind (arith, common_steps)) c.as_slice.result.now text c.eq.result c.eq.ensures in
    let own = c.as_slice.ensures.value ∙ c.behind-self.view_is in (
      λ h. subst (λ (list : ChangeContent). Contains list.texts text) c.self.view_is (there.0 (sym own ∙ same.0 h)),
      λ held. same.1 (own ∙ there.1 (subst (λ (list : ChangeContent). Contains list.texts text) (sym c.self.view_is) held)),
    )
