-- Counts of elements are exact where texts and rows are within their limits.
use Rattle.std.proofs.Common.{◌≡◌, ℕ, zero, suc, ◌<◌, ◌≤◌, ◌^◌, List, [], ◌∷◌, length, Bool, true, false, nat_eq, refl, arith}
use Rattle.std.proofs.lemmas.List.{length-map}
use Rattle.uca_weights.specs.declared.Weighting.{Weighting}
use Rattle.uca_text.specs.Texts.{NfdText, classed}
use Rattle.uca_text.specs.Limits.{IsAccepted}
use Rattle.uca_elements.specs.Collations.{Collation, elements_of}
use Rattle.uca_order.specs.Levels.{weight_at, weighted}
use Rattle.uca_order.specs.Fetched.{length_to, primaries, first_difference}
use Rattle.uca_order.specs.Lengths.{HasShortRows}
use Rattle.uca_order.specs.Laws.{CountsAreExact}
use Rattle.uca_order.proofs.KeyLength.{length-weighted, length-elements, length-with_classes}

-- at most all are fetched
few_step : (place w : ℕ) (ws : List ℕ) (b : Bool) → nat_eq w 0 ≡ b → ((place : ℕ) → length_to place ws ≤ length ws) → length_to place (w ∷ ws) ≤ length (w ∷ ws)
few_step zero w ws true is few = let later : length_to 0 ws ≤ length ws = few 0 in rw is (omega arith)
few_step zero w ws false is few = rw is (omega arith)
few_step (suc place) w ws true is few = let later : length_to (suc place) ws ≤ length ws = few (suc place) in rw is (omega arith)
few_step (suc place) w ws false is few = let later : length_to place ws ≤ length ws = few place in rw is (omega arith)

pub few_fetched : (place : ℕ) (ws : List ℕ) → length_to place ws ≤ length ws
few_fetched place [] = omega arith
few_fetched place (w ∷ ws) = few_step place w ws (nat_eq w 0) refl (λ p. few_fetched p ws)

-- counts of the elements of a text are exact under short rows
few_elements : (c : Collation) (weighting : Weighting) (text : NfdText) (place : ℕ) → HasShortRows c.rows → IsAccepted text
    → length_to place (primaries weighting (elements_of c text)) < 2 ^ 64
few_elements c weighting text place short accepted =
    let es = elements_of c text in
    let few = few_fetched place (primaries weighting es) in
    let all = length-map (weighted weighting es) (weight_at 1) in
    let each = length-weighted weighting [] es in
    let some = length-elements c (classed text) short in
    let with_classes = length-with_classes text.points text.classes in
    let short_text = accepted.few in
    omega (arith, few, all, each, some, with_classes, short_text)

pub counts_exact : CountsAreExact
counts_exact c weighting left right short good good_too = (
  few_elements c weighting left (first_difference weighting (elements_of c left) (elements_of c right)) short good,
  few_elements c weighting right (first_difference weighting (elements_of c left) (elements_of c right)) short good_too,
)
