-- Two bytes for each number of a list, written in turn after others.
use Rattle.std.proofs.Common.{◌≡◌, ℕ, ◌+◌, ◌*◌, ◌<◌, ◌≤◌, List, [], ◌∷◌, ◌++◌, length, length-set, take, get_or, set, ap, sym, ◌∙◌, append_assoc, arith}
use Rattle.std.specs.List.{flat_map}
use Rattle.std.proofs.lemmas.List.{flat_map_more, take_all, take_more, take_more_set}

module _ (f : ℕ → List ℕ) (front bytes xs : List ℕ) (start : ℕ) (long : length bytes ≡ start + 2 * length xs) where
  -- those of one more number
  pub pair_put : (at next i high low : ℕ) → i < length xs → at ≡ start + 2 * i → next ≡ start + 2 * (i + 1)
      → take at bytes ≡ front ++ flat_map f (take i xs) → f (get_or xs i 0) ≡ high ∷ low ∷ []
      → take next (set (set bytes at high) (at + 1) low) ≡ front ++ flat_map f (take (i + 1) xs)
  pair_put at next i high low within here after so_far pair =
      let more : next ≡ at + 1 + 1 = omega arith in
      let same : length (set bytes at high) ≡ length bytes = length-set bytes at high in
      ap (λ (n : ℕ). take n (set (set bytes at high) (at + 1) low)) more
      ∙ take_more_set (set bytes at high) (at + 1) low (omega (arith, same, long, within, here))
      ∙ ap (λ (l : List ℕ). l ++ low ∷ []) (take_more_set bytes at high (omega (arith, long, within, here)))
      ∙ append_assoc (take at bytes) (high ∷ []) (low ∷ [])
      ∙ ap (λ (l : List ℕ). l ++ high ∷ low ∷ []) so_far
      ∙ ap (λ (l : List ℕ). (front ++ flat_map f (take i xs)) ++ l) (sym pair)
      ∙ flat_map_more f front (take i xs) (get_or xs i 0)
      ∙ ap (λ (l : List ℕ). front ++ flat_map f l) (sym (take_more xs i 0 within))

  -- those of all
  pub pairs_put : (at i : ℕ) → length xs ≤ i → at ≡ start + 2 * i → take at bytes ≡ front ++ flat_map f (take i xs) → bytes ≡ front ++ flat_map f xs
  pairs_put at i end here so_far =
      sym (take_all at bytes (omega (arith, long, end, here))) ∙ so_far ∙ ap (λ (l : List ℕ). front ++ flat_map f l) (take_all i xs end)
