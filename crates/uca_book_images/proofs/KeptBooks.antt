-- Compact keys that stay by the image of a book.
use Rattle.std.proofs.Common.{◌≡◌, inl, inr, ℕ, ◌<◌, List, [], ◌∷◌, Some, refl, sym, subst, ◌∙◌, ap, arith}
use Rattle.std.specs.List.{AllByRecursion}
use Rattle.std.proofs.lemmas.Bool.{cases_lt}
use Rattle.uca_weights.specs.declared.Weighting.{Weighting}
use Rattle.uca_weights.specs.declared.Weighting.TheVariants.{NonIgnorable, Shifted}
use Rattle.uca_weights.specs.Maps.{WeightImages, Sends}
use Rattle.uca_books.specs.Books.{BookContent}
use Rattle.uca_order.specs.Levels.{level_count}
use Rattle.uca_compact.specs.Forms.{Form, AreWeights, AreLevels, letters_form, accents_form, cases_form, variables_form, forms_of}
use Rattle.uca_compact.proofs.OnlyCells.{same_some}
use Rattle.uca_compact.proofs.StoredBack.{stored_only}
use Rattle.uca_tailorings.specs.Images.{Maps, AreRisingMaps}
use Rattle.uca_book_images.specs.BookImages.{book_image}
use Rattle.uca_book_images.specs.KeptKeys.{KeepsPlace, MapsKeepPlaces}
use Rattle.uca_book_images.specs.KeptPlaces.{KeepsOffset, KeepsStarts, WeightsStay, WeightsKeepTheirPlaces}
use Rattle.uca_book_images.specs.Laws.{BooksKeepCompactKeys}
use Rattle.uca_book_images.proofs.KeptPlaces.{rising_maps_keep_places}
use Rattle.uca_book_images.proofs.MovedKeys.{moved_keys_stay}

-- a weight that stays keeps its place
same_place : (f : Form) (w x : ℕ) → w ≡ x → KeepsPlace f f w x
same_place f w x same = subst (λ (y : ℕ). KeepsPlace f f w y) same (record { side = refl; place = refl })

-- each weight of a level stays
each_stays : (f : Form) (images : WeightImages) (ws : List ℕ) → AllByRecursion (λ w. Sends images w w) ws
    → AllByRecursion (λ w. (x : ℕ) → Sends images w x → KeepsPlace f f w x) ws
each_stays f images [] stay = tt
each_stays f images (w ∷ ws) stay = ((λ x sent. same_place f w x (same_some w x (sym stay.0 ∙ sent))), each_stays f images ws stay.1)

module _ (maps : Maps) (rising : AreRisingMaps maps) (book : BookContent) (starts : KeepsStarts maps.primary book) where
  abbrev new_book : BookContent
  new_book = book_image maps.primary book

  places : WeightsKeepTheirPlaces maps.primary book new_book
  places = rising_maps_keep_places maps.primary book new_book rising.primary

  letters_keep : (later : ℕ) (ws : List ℕ) → AreWeights ws
      → AllByRecursion (λ w. (x : ℕ) → Sends maps.primary w x → KeepsOffset 0x1_0000 book.letters new_book.letters w x) ws
      → AllByRecursion (λ w. (x : ℕ) → Sends maps.primary w x → KeepsPlace (letters_form book later) (letters_form new_book later) w x) ws
  letters_keep later [] are stay = tt
  letters_keep later (w ∷ ws) are stay =
      ((λ x sent. places.letters starts.letters later w x are.0.0 sent (stay.0 x sent)), letters_keep later ws are.1 stay.1)

  -- the greatest weight of level 4 is its common one
  common_keeps : (w x : ℕ) → w ≡ 0xFFFF → x ≡ 0xFFFF → KeepsPlace (variables_form book 0) (variables_form new_book 0) w x
  common_keeps w x one two =
      subst (λ (v : ℕ). KeepsPlace (variables_form book 0) (variables_form new_book 0) v x) (sym one)
      (subst (λ (y : ℕ). KeepsPlace (variables_form book 0) (variables_form new_book 0) 0xFFFF y) (sym two) (record { side = refl; place = refl }))

  variables_keep : (ws : List ℕ) → AreWeights ws
      → AllByRecursion (λ w. (x : ℕ) → Sends maps.primary w x → KeepsOffset 0xFFFF book.variables new_book.variables w x) ws
      → AllByRecursion (λ w. (x : ℕ) → Sends maps.primary w x → KeepsPlace (variables_form book 0) (variables_form new_book 0) w x) ws
  variables_keep [] are stay = tt
  variables_keep (w ∷ ws) are stay = (
    (λ x sent. elim (cases_lt w 0xFFFF) [
      | inl less ↦ places.variables starts.variables 0 w x are.0.0 less sent (stay.0 x sent)
      | inr most ↦
          let high : w < 65536 = are.0.1 in
          let last : w ≡ 0xFFFF = omega (arith, high, most) in
          let own : Sends maps.primary 0xFFFF 0xFFFF = rising.primary.fixed.0 0xFFFF (omega arith) (omega arith) in
          common_keeps w x last (sym (same_some 0xFFFF x (sym own ∙ ap maps.primary (sym last) ∙ sent)))
    ]),
    variables_keep ws are.1 stay.1,
  )

  -- so the levels of a key keep their places
  levels_keep : (weighting : Weighting) (levels : List (List ℕ)) → AreLevels (level_count weighting) levels → WeightsStay maps book levels
      → MapsKeepPlaces maps 1 (forms_of weighting book) (forms_of weighting new_book) levels
  levels_keep weighting [] are stay = absurd stay
  levels_keep weighting (a ∷ []) are stay = absurd stay
  levels_keep weighting (a ∷ b ∷ []) are stay = absurd stay
  levels_keep NonIgnorable (a ∷ b ∷ c ∷ []) are stay = (
    letters_keep 2 a are.1.0 stay.0,
    (each_stays (accents_form 1) maps.secondary b stay.1, (each_stays (cases_form 0) maps.tertiary c stay.2, tt)),
  )
  levels_keep NonIgnorable (a ∷ b ∷ c ∷ d ∷ more) are stay = absurd (omega (arith, are.0))
  levels_keep Shifted (a ∷ b ∷ c ∷ []) are stay = absurd (omega (arith, are.0))
  levels_keep Shifted (a ∷ b ∷ c ∷ d ∷ []) are stay = (
    letters_keep 3 a are.1.0 stay.0,
    (
      each_stays (accents_form 2) maps.secondary b stay.1,
      (each_stays (cases_form 1) maps.tertiary c stay.2, (variables_keep d are.1.1.1.1.0 stay.3.0, tt)),
    ),
  )
  levels_keep Shifted (a ∷ b ∷ c ∷ d ∷ e ∷ more) are stay = absurd (omega (arith, are.0))

-- the law
pub books_keep_compact_keys : BooksKeepCompactKeys
books_keep_compact_keys maps rising depth weighting book key new k bytes moved read starts stay =
    moved_keys_stay maps rising depth weighting book (book_image maps.primary book) key new k moved read
    (levels_keep maps rising book starts weighting k.levels (stored_only depth weighting key bytes k read).0.levels stay)
