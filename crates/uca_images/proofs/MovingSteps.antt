-- A key that is put through maps weight by weight.
use Rattle.std.proofs.Common.{◌≡◌, ℕ, suc, ◌+◌, ◌-◌, ◌*◌, ◌/◌, ◌%◌, ◌<◌, ◌≤◌, Bool, true, false, List, [], ◌∷◌, ◌++◌, length, take, drop, set, get_or, Option, Some, None, nat_eq, if◌then◌else◌, refl, ap, sym, subst, ◌∙◌, append_assoc, arith}
use Rattle.std.specs.Option.{option_map}
use Rattle.std.proofs.lemmas.Bool.Decides.{nat_tests}
use Rattle.std.proofs.lemmas.List.{drop_more, take_more, take_more_set, take_all, drop_all, drop-set-lt, length-set, take-append-drop}
use Rattle.uca_weights.specs.declared.Depth.{Depth}
use Rattle.uca_weights.specs.declared.Weighting.{Weighting}
use Rattle.uca_order.specs.Levels.{weight_bytes, level_count}
use Rattle.uca_tailorings.specs.Images.{Maps}
use Rattle.uca_tailorings.specs.Moves.{level_images, weight_before, ended, after_weights, moved_from, moved_key}
use Rattle.uca_images.specs.inside.ImageTables.{IsImageTable}
use Rattle.uca_images.specs.Moving.{HasMoved}

-- ---- Lists

-- two parts before a rest
joined : (p q : List ℕ) (moved : Option (List ℕ)) → option_map (λ rest. p ++ rest) (option_map (λ rest. q ++ rest) moved)
    ≡ option_map (λ rest. (p ++ q) ++ rest) moved
joined p q None = refl
joined p q (Some rest) = ap (λ bytes. Some bytes) (sym (append_assoc p q rest))

-- a list from a place on, where two members are there
two_more : (key : List ℕ) (at : ℕ) → at + 1 < length key → drop at key ≡ get_or key at 0 ∷ get_or key (at + 1) 0 ∷ drop (at + 2) key
two_more key at within =
    let second = drop_more key (at + 1) 0 within in
    let sum : at + 1 + 1 ≡ at + 2 = omega arith in
    drop_more key at 0 (omega arith) ∙ ap (λ rest. get_or key at 0 ∷ rest) (second ∙ ap (λ n. get_or key (at + 1) 0 ∷ drop n key) sum)

-- and up to the place after them
two_taken : (key : List ℕ) (at : ℕ) → at + 1 < length key → take (at + 2) key ≡ take at key ++ (get_or key at 0 ∷ get_or key (at + 1) 0 ∷ [])
two_taken key at within =
    let sum : at + 2 ≡ at + 1 + 1 = omega arith in
    ap (λ n. take n key) sum ∙ take_more key (at + 1) 0 within ∙ ap (λ front. front ++ get_or key (at + 1) 0 ∷ []) (take_more key at 0 (omega arith))
    ∙ append_assoc (take at key) (get_or key at 0 ∷ []) (get_or key (at + 1) 0 ∷ [])

-- where the two are written
two_set : (key : List ℕ) (at a b : ℕ) → at + 1 < length key → take (at + 2) (set (set key at a) (at + 1) b) ≡ take at key ++ (a ∷ b ∷ [])
two_set key at a b within =
    let sum : at + 2 ≡ at + 1 + 1 = omega arith in
    let fits : at + 1 < length (set key at a) = omega (arith, length-set key at a) in
    ap (λ n. take n (set (set key at a) (at + 1) b)) sum ∙ take_more_set (set key at a) (at + 1) b fits
    ∙ ap (λ front. front ++ b ∷ []) (take_more_set key at a (omega arith)) ∙ append_assoc (take at key) (a ∷ []) (b ∷ [])

-- what follows them stays
two_left : (key : List ℕ) (at a b : ℕ) → drop (at + 2) (set (set key at a) (at + 1) b) ≡ drop (at + 2) key
two_left key at a b = drop-set-lt (at + 2) (set key at a) (at + 1) b (omega arith) ∙ drop-set-lt (at + 2) key at a (omega arith)

-- ---- One weight

module _ (maps : Maps) (depth : Depth) (level more : ℕ) (key : List ℕ) (at : ℕ) (moved : Option (List ℕ)) where
  -- the test of a weight
  abbrev first : ℕ
  first = 256 * get_or key at 0 + get_or key (at + 1) 0

  -- the rest of the key, by its first two bytes
  by_weight : at + 1 < length key → HasMoved maps depth level (suc more) at key moved → moved ≡ option_map (λ rest. take at key ++ rest)
      (if nat_eq first 0 then weight_before (Some 0) (moved_from maps depth (suc level) more (drop (at + 2) key)) else
      weight_before (level_images maps level first) (moved_from maps depth level (suc more) (drop (at + 2) key)))
  by_weight within so_far = so_far ∙ ap (λ bytes. option_map (λ rest. take at key ++ rest) (moved_from maps depth level (suc more) bytes)) (two_more key at within)

  -- a weight with an image
  pub moved_weight : (table : List ℕ) → IsImageTable (level_images maps level) table → at + 1 < length key → 0 < first → first < 0x1_0000 →
      (x : ℕ) → x ≡ get_or table first 0 → 0 < x → HasMoved maps depth level (suc more) at key moved →
      HasMoved maps depth level (suc more) (at + 2) (set (set key at (x / 256)) (at + 1) (x % 256)) moved
  moved_weight table is within some fits x read above so_far =
      let whole = by_weight within so_far in
      let apart : nat_eq first 0 ≡ false = grind (arith, nat_tests) in
      let found : nat_eq (get_or table first 0) 0 ≡ false = grind (arith, nat_tests) in
      let image : level_images maps level first ≡ Some x = is.entries first fits ∙ rw (found, read) refl in
      let rest = moved_from maps depth level (suc more) (drop (at + 2) key) in
      let here : moved ≡ option_map (λ rest. take at key ++ rest) (option_map (λ rest. weight_bytes x ++ rest) rest) =
      whole ∙ rw (apart, image) refl in
      let both : moved ≡ option_map (λ rest. (take at key ++ weight_bytes x) ++ rest) rest = here ∙ joined (take at key) (weight_bytes x) rest in
      both ∙ rw (two_set key at (x / 256) (x % 256) within, two_left key at (x / 256) (x % 256)) refl

  -- as the code has it
  pub weight_step : (table : List ℕ) (w x : ℕ) (bytes : List ℕ) → IsImageTable (level_images maps level) table → at + 1 < length key → w ≡ first →
      (w ≡ 0 → ⊥) → w < 0x1_0000 → x ≡ get_or table w 0 → (x ≡ 0 → ⊥) → x < 0x1_0000 → bytes ≡ x / 256 % 256 ∷ x % 256 ∷ [] → HasMoved maps depth level (suc more) at key moved →
      HasMoved maps depth level (suc more) (at + 2) (set (set key at (get_or bytes 0 0)) (at + 1) (get_or bytes 1 0)) moved
  weight_step table w x bytes is within same some fits read found small written so_far =
      let high : x / 256 % 256 ≡ x / 256 = omega arith in
      let image : x ≡ get_or table first 0 = read ∙ ap (λ n. get_or table n 0) same in
      let low : first < 0x1_0000 = omega arith in
      let above : 0 < x = omega arith in
      let more_than : 0 < first = omega arith in
      rw (written, high) (moved_weight table is within more_than low x image above so_far)

  -- a weight without one
  pub missing_weight : (table : List ℕ) → IsImageTable (level_images maps level) table → at + 1 < length key → 0 < first → first < 0x1_0000 →
      0 ≡ get_or table first 0 → HasMoved maps depth level (suc more) at key moved → moved ≡ None
  missing_weight table is within some fits read so_far =
      let apart : nat_eq first 0 ≡ false = grind (arith, nat_tests) in
      let found : nat_eq (get_or table first 0) 0 ≡ true = grind (arith, nat_tests) in
      let image : level_images maps level first ≡ None = is.entries first fits ∙ rw (found, apart) refl in
      by_weight within so_far ∙ rw (apart, image) refl

  -- the end of a level
  pub next_level : at + 1 < length key → first ≡ 0 → HasMoved maps depth level (suc more) at key moved → HasMoved maps depth (suc level) more (at + 2) key moved
  next_level within none so_far =
      let test : nat_eq first 0 ≡ true = grind (arith, nat_tests) in
      let a : get_or key at 0 ≡ 0 = omega arith in
      let b : get_or key (at + 1) 0 ≡ 0 = omega arith in
      let rest = moved_from maps depth (suc level) more (drop (at + 2) key) in
      let here : moved ≡ option_map (λ rest. take at key ++ rest) (option_map (λ rest. weight_bytes 0 ++ rest) rest) =
      by_weight within so_far ∙ rw test refl in
      let both : moved ≡ option_map (λ rest. (take at key ++ weight_bytes 0) ++ rest) rest = here ∙ joined (take at key) (weight_bytes 0) rest in
      both ∙ rw (two_taken key at within, a, b) refl

  -- the end of the key
  pub key_end : at ≡ length key → HasMoved maps depth level (suc more) at key moved → moved ≡ option_map (λ rest. key ++ rest) (ended depth more)
  key_end end so_far =
      so_far ∙ rw (drop_all at key (omega arith), take_all at key (omega arith)) refl

  -- a single byte there
  pub odd_end : at < length key → length key ≤ at + 1 → HasMoved maps depth level (suc more) at key moved → moved ≡ None
  odd_end within last so_far =
      let one = drop_more key at 0 within in
      so_far ∙ rw (one, drop_all (at + 1) key last) refl

-- ---- Whole keys

-- a key that ends in a level
pub key_ends : (depth d : Depth) (key : List ℕ) (after : ℕ) (moved : Option (List ℕ)) (b : Bool) → d ≡ depth
    → moved ≡ option_map (λ rest. key ++ rest) (ended depth after) → option_map (λ rest. key ++ rest) (ended d after) ≡ (if b then Some key else None)
    → moved ≡ (if b then Some key else None)
key_ends depth d key after moved b same is may =
    is ∙ subst (λ (e : Depth). option_map (λ rest. key ++ rest) (ended e after) ≡ (if b then Some key else None)) same may

-- nothing is moved yet
pub none_moved : (maps : Maps) (depth : Depth) (weighting : Weighting) (levels : ℕ) (key : List ℕ) → levels ≡ level_count weighting
    → HasMoved maps depth (suc 0) (levels - 0) 0 key (moved_key maps depth weighting key)
none_moved maps depth weighting levels key e =
    let all : levels - 0 ≡ level_count weighting = omega (arith, e) in
    rw all (go (moved_key maps depth weighting key))
  where
    go : (moved : Option (List ℕ)) → moved ≡ option_map (λ rest. [] ++ rest) moved
    go None = refl
    go (Some bytes) = refl

-- before a level there is one level more
pub with_level : (maps : Maps) (depth : Depth) (level levels at : ℕ) (key : List ℕ) (moved : Option (List ℕ)) → level < levels
    → HasMoved maps depth (suc level) (levels - level) at key moved → HasMoved maps depth (suc level) (suc (levels - (level + 1))) at key moved
with_level maps depth level levels at key moved some so_far =
    let e : levels - level ≡ suc (levels - (level + 1)) = omega arith in
    subst (λ (left : ℕ). HasMoved maps depth (suc level) left at key moved) e so_far

-- the number of the next level
pub after_level : (maps : Maps) (depth : Depth) (level left at : ℕ) (key : List ℕ) (moved : Option (List ℕ))
    → HasMoved maps depth (suc (suc level)) left at key moved → HasMoved maps depth (suc (level + 1)) left at key moved
after_level maps depth level left at key moved so_far =
    let e : suc level ≡ level + 1 = omega arith in
    subst (λ (n : ℕ). HasMoved maps depth (suc n) left at key moved) e so_far

-- after all levels of weights the rest stays, if there may be one
pub rest_stays : (maps : Maps) (depth d : Depth) (level left at : ℕ) (key : List ℕ) (moved : Option (List ℕ)) (b : Bool) → d ≡ depth → left ≡ 0
    → HasMoved maps depth level left at key moved → after_weights d (drop at key) ≡ (if b then Some (drop at key) else None)
    → moved ≡ (if b then Some key else None)
rest_stays maps depth d level left at key moved b same none so_far may =
    let end : HasMoved maps depth level 0 at key moved = subst (λ (n : ℕ). HasMoved maps depth level n at key moved) none so_far in
    let rest = subst (λ (e : Depth). after_weights e (drop at key) ≡ (if b then Some (drop at key) else None)) same may in
    end ∙ ap (option_map (λ more. take at key ++ more)) rest ∙ go b
  where
    go : (c : Bool) → option_map (λ more. take at key ++ more) (if c then Some (drop at key) else None) ≡ (if c then Some key else None)
    go true = ap (λ bytes. Some bytes) (take-append-drop at key)
    go false = refl
