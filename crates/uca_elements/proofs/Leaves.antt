-- A key with which no longer key begins takes no non-starters.
use Rattle.std.proofs.Common.{◌≡◌, ℕ, List, [], ◌∷◌, ◌++◌, ⊎_elim, refl, sym, ap, subst, ◌∙◌, append-nil}
use Rattle.std.proofs.lemmas.Bool.{cases_Bool}
use Rattle.uca_text.specs.Texts.{Text, NfdText, code_points}
use Rattle.uca_elements.specs.Rows.{Keys}
use Rattle.uca_elements.specs.Lookups.{BeginsNoKeyIn}
use Rattle.uca_elements.specs.Parts.{Row}
use Rattle.uca_elements.specs.Reading.{is_taken, removed, members, others, non_starters_at_front, after_non_starters}
use Rattle.uca_elements.specs.Places.{left_of, IsPlace}
use Rattle.uca_elements.specs.Matches.{IsExtended}
use Rattle.uca_elements.specs.declared.places.Place.{Place}
use Rattle.uca_elements.specs.declared.matches.Match.TheVariants.{Key}
use Rattle.uca_elements.proofs.RemovedLemmas.{IsKeyOf, code_points-push, removed_skipped, taken_iff}
use Rattle.uca_elements.proofs.MatchLemmas.{marks-append}

module _ (keys : Keys) (key : Text) (leaf : (c : ℕ) → BeginsNoKeyIn keys (code_points key ++ c ∷ [])) where
  -- none of the non-starters is taken
  takes_none : (skipped marks : Text) →
      (members (removed keys key skipped marks) marks ≡ []) × (others (removed keys key skipped marks) marks ≡ marks)
  takes_none skipped [] = (refl, refl)
  takes_none skipped (c ∷ marks) =
      ⊎_elim
      (λ taken.
      let longer : IsKeyOf keys (code_points key ++ c.code ∷ []) =
      subst (IsKeyOf keys) (code_points-push key c) ((taken_iff keys key skipped c).0 taken).1 in
      absurd (leaf c.code ([], subst (IsKeyOf keys) (sym (append-nil (code_points key ++ c.code ∷ []))) longer)))
      (λ left.
      let later = takes_none (skipped ++ c ∷ []) marks in
      let set : removed keys key skipped (c ∷ marks) ≡ _ = removed_skipped keys key skipped c marks left in (
        ap (λ set. members set (c ∷ marks)) set ∙ later.0,
        ap (λ set. others set (c ∷ marks)) set ∙ ap (λ t. c ∷ t) later.1,
      ))
      (cases_Bool (is_taken keys key skipped c))

-- so it stays as it is, and the text goes on where it did
pub extended_at_leaf : {N : Type 0} (stands_for : N → List ℕ → Type 0) (keys : Keys) (s : NfdText) (front : Text) (place : Place) (node : N) →
    ((c : ℕ) → BeginsNoKeyIn keys (code_points front ++ c ∷ [])) → stands_for node (code_points front) → IsPlace s place →
    IsExtended stands_for keys s front place (record { given = Key node; next = place })
extended_at_leaf stands_for keys s front place node leaf stands here =
    let rest : Text = left_of s place in
    let none = takes_none keys front leaf [] (non_starters_at_front rest) in
    record {
      given = (code_points front, ap (λ t. Row (code_points t)) (ap (λ t. front ++ t) none.0 ∙ append-nil front), stands);
      left = sym (ap (λ t. t ++ after_non_starters rest) none.1 ∙ marks-append rest);
      is_place = here;
      at = refl;
    }
