-- Keys compare as bytes as the level lists do.
use Rattle.std.proofs.Common.{◌≡◌, ◌≢◌, ◌↔◌, ℕ, zero, suc, ◌/◌, ◌%◌, ◌<◌, List, [], ◌∷◌, ◌++◌, Bool, true, false, cond}
use Rattle.std.proofs.Common.{not, nat_eq, filter, map, refl, sym, ap, ◌∙◌, arith, eq-eqb}
use Rattle.std.specs.Prelude.{⊤}
use Rattle.std.specs.List.{AllByRecursion}
use Rattle.std.specs.Ordering.{nat_cmp, ordering_then, is_eq}
use Rattle.std.specs.declared.cmp.Ordering.{Ordering}
use Rattle.std.specs.declared.cmp.Ordering.TheVariants.{Less, Equal, Greater}
use Rattle.std.proofs.lemmas.Cmp.{ranked, by_ranked}
use Rattle.std.proofs.lemmas.Bool.Decides.{nat_tests}
use Rattle.std.proofs.lemmas.Grind.{flat_map-append}
use Rattle.std.proofs.lemmas.Map.Text.{is_eq-slice_cmp}
use Rattle.std.proofs.lemmas.Slice.Eq.{bytes_eq-Decides}
use Rattle.uca_weights.specs.declared.Element.{Element}
use Rattle.uca_weights.specs.declared.Weighting.{Weighting}
use Rattle.uca_order.specs.Levels.{Comparison, Weights, weight_at, level_lists, level_lists_from, level_count, weighted}
use Rattle.uca_order.specs.Levels.{lexicographic, decided, compare_from, compared, weight_bytes, level_bytes, levels_bytes}
use Rattle.uca_order.specs.Levels.{key_bytes}
use Rattle.uca_order.specs.Laws.{KeysCompareAsElements}

-- ---- Numbers

-- how two numbers compare if the first is less
pub cmp_less : (v w : ℕ) → v < w → nat_cmp v w ≡ Less
cmp_less v w h = grind (arith, nat_tests)

-- how two equal numbers compare
pub cmp_equal : (v w : ℕ) → v ≡ w → nat_cmp v w ≡ Equal
cmp_equal v w h = grind (arith, nat_tests)

-- and where the second is less
pub cmp_greater : (v w : ℕ) → w < v → nat_cmp v w ≡ Greater
cmp_greater v w h = grind (arith, nat_tests)

-- pairs of numbers in the same order compare in the same way
pub same_cmp : (a b v w : ℕ) → (a < b → v < w) → (a ≡ b → v ≡ w) → (b < a → w < v) → nat_cmp a b ≡ nat_cmp v w
same_cmp a b v w less equal greater =
    by_ranked (a < b) (a ≡ b) (b < a) (nat_cmp a b) (ranked a b (nat_cmp a b) refl)
    (λ e h. e ∙ sym (cmp_less v w (less h)))
    (λ e h. e ∙ sym (cmp_equal v w (equal h)))
    (λ e h. e ∙ sym (cmp_greater v w (greater h)))

-- of three orders the first that decides does
pub then_assoc : (a b c : Ordering) → ordering_then (ordering_then a b) c ≡ ordering_then a (ordering_then b c)
then_assoc Less b c = refl
then_assoc Equal b c = refl
then_assoc Greater b c = refl

-- the two bytes of a weight, the high one first, compare as the weight
pub bytes_order : (v w : ℕ) → ordering_then (nat_cmp (v / 256) (w / 256)) (nat_cmp (v % 256) (w % 256)) ≡ nat_cmp v w
bytes_order v w =
    let high = nat_cmp (v / 256) (w / 256) in
    let low = nat_cmp (v % 256) (w % 256) in
    by_ranked (v / 256 < w / 256) (v / 256 ≡ w / 256) (w / 256 < v / 256) high (ranked (v / 256) (w / 256) high refl)
    (λ e h. ap (λ o. ordering_then o low) e ∙ sym (cmp_less v w (omega arith)))
    (λ e h. ap (λ o. ordering_then o low) e
    ∙ same_cmp (v % 256) (w % 256) v w (λ less. omega arith) (λ equal. omega arith) (λ greater. omega arith))
    (λ e h. ap (λ o. ordering_then o low) e ∙ sym (cmp_greater v w (omega arith)))

-- ---- Lists of numbers

-- a list is equal to itself
pub lexicographic_itself : (xs : List ℕ) → lexicographic xs xs ≡ Equal
lexicographic_itself [] = refl
lexicographic_itself (x ∷ xs) = ap (λ o. ordering_then o (lexicographic xs xs)) (cmp_equal x x refl) ∙ lexicographic_itself xs

-- so are lists of levels, at each level
pub lists_themselves : (level : ℕ) (lists : List (List ℕ)) → compare_from level lists lists ≡ record { order = Equal; level = 0 }
lists_themselves level [] = refl
lists_themselves level (a ∷ more) =
    ap (λ o. decided o level (compare_from (suc level) more more)) (lexicographic_itself a) ∙ lists_themselves (suc level) more

-- lists that compare as equal are equal
pub same_from_lexicographic : (xs ys : List ℕ) → lexicographic xs ys ≡ Equal → xs ≡ ys
same_from_lexicographic xs ys h = (bytes_eq-Decides xs ys).0 (sym (is_eq-slice_cmp xs ys) ∙ ap is_eq h)

-- the bytes of weights compare as the weights
pub lexicographic-level_bytes : (vs ws : List ℕ) → lexicographic (level_bytes vs) (level_bytes ws) ≡ lexicographic vs ws
lexicographic-level_bytes [] [] = refl
lexicographic-level_bytes [] (w ∷ ws) = refl
lexicographic-level_bytes (v ∷ vs) [] = refl
lexicographic-level_bytes (v ∷ vs) (w ∷ ws) =
    sym (then_assoc (nat_cmp (v / 256) (w / 256)) (nat_cmp (v % 256) (w % 256)) (lexicographic (level_bytes vs) (level_bytes ws)))
    ∙ ap (λ o. ordering_then o (lexicographic (level_bytes vs) (level_bytes ws))) (bytes_order v w)
    ∙ ap (ordering_then (nat_cmp v w)) (lexicographic-level_bytes vs ws)

-- no number is 0
abbrev pub AreNonZero : List ℕ → Type 0
AreNonZero = AllByRecursion (λ w. w ≢ 0)

-- lists of weights that are not 0, each followed by 0 and more, compare first by the lists and then by what follows
pub lexicographic_zero : (vs ws xs ys : List ℕ) → AreNonZero vs → AreNonZero ws
    → lexicographic (vs ++ 0 ∷ xs) (ws ++ 0 ∷ ys) ≡ ordering_then (lexicographic vs ws) (lexicographic xs ys)
lexicographic_zero [] [] xs ys a b = refl
lexicographic_zero [] (w ∷ ws) xs ys a b =
    let above : 0 < w = let apart : w ≢ 0 = b.0 in omega arith in
    ap (λ o. ordering_then o (lexicographic xs (ws ++ 0 ∷ ys))) (cmp_less 0 w above)
lexicographic_zero (v ∷ vs) [] xs ys a b =
    let above : 0 < v = let apart : v ≢ 0 = a.0 in omega arith in
    ap (λ o. ordering_then o (lexicographic (vs ++ 0 ∷ xs) ys)) (cmp_greater v 0 above)
lexicographic_zero (v ∷ vs) (w ∷ ws) xs ys a b =
    ap (ordering_then (nat_cmp v w)) (lexicographic_zero vs ws xs ys a.1 b.1)
    ∙ sym (then_assoc (nat_cmp v w) (lexicographic vs ws) (lexicographic xs ys))

-- ---- Levels

-- the level lists in order, with the weight 0 between two of them
abbrev pub joined : List (List ℕ) → List ℕ
joined [] = []
joined (a ∷ []) = a
joined (a ∷ b ∷ more) = a ++ 0 ∷ joined (b ∷ more)

-- the bytes of the levels are those of the joined lists
pub levels_bytes-joined : (levels : List (List ℕ)) → levels_bytes levels ≡ level_bytes (joined levels)
levels_bytes-joined [] = refl
levels_bytes-joined (a ∷ []) = refl
levels_bytes-joined (a ∷ b ∷ more) =
    ap (λ bytes. level_bytes a ++ (0 ∷ 0 ∷ bytes)) (levels_bytes-joined (b ∷ more))
    ∙ sym (flat_map-append weight_bytes a (0 ∷ joined (b ∷ more)))

-- as many levels on both sides, and no weight 0 in them
abbrev pub AreLevels : List (List ℕ) → List (List ℕ) → Type 0
AreLevels [] [] = ⊤
AreLevels [] (b ∷ right) = ⊥
AreLevels (a ∷ left) [] = ⊥
AreLevels (a ∷ left) (b ∷ right) = AreNonZero a × AreNonZero b × AreLevels left right

-- the order is that of the level, or else of the later ones
pub order-decided : (o : Ordering) (level : ℕ) (later : Comparison) → (decided o level later).order ≡ ordering_then o later.order
order-decided Less level later = refl
order-decided Equal level later = refl
order-decided Greater level later = refl

-- nothing is decided after it
pub then_equal : (o : Ordering) → ordering_then o Equal ≡ o
then_equal Less = refl
then_equal Equal = refl
then_equal Greater = refl

-- joined lists compare as the levels do
pub joined_order : (n : ℕ) (left right : List (List ℕ)) → AreLevels left right → lexicographic (joined left) (joined right) ≡ (compare_from n left right).order
joined_order n [] [] h = refl
joined_order n [] (b ∷ right) h = absurd h
joined_order n (a ∷ left) [] h = absurd h
joined_order n (a ∷ []) (b ∷ []) h =
    sym (then_equal (lexicographic a b)) ∙ sym (order-decided (lexicographic a b) n (record { order = Equal; level = 0 }))
joined_order n (a ∷ []) (b ∷ d ∷ right) h = absurd h.2
joined_order n (a ∷ c ∷ left) (b ∷ []) h = absurd h.2
joined_order n (a ∷ c ∷ left) (b ∷ d ∷ right) h =
    lexicographic_zero a b (joined (c ∷ left)) (joined (d ∷ right)) h.0 h.1
    ∙ ap (ordering_then (lexicographic a b)) (joined_order (suc n) (c ∷ left) (d ∷ right) h.2)
    ∙ sym (order-decided (lexicographic a b) n (compare_from (suc n) (c ∷ left) (d ∷ right)))

-- where no level decides, the difference level is 0
pub decided_equal : (o : Ordering) (level : ℕ) (later : Comparison) → (later.order ≡ Equal → later.level ≡ 0)
    → (decided o level later).order ≡ Equal → (decided o level later).level ≡ 0
decided_equal Less level later f h = cc
decided_equal Equal level later f h = f h
decided_equal Greater level later f h = cc

-- where none of all levels decides, the difference level is 0
pub level_zero : (n : ℕ) (left right : List (List ℕ)) → (compare_from (suc n) left right).order ≡ Equal → (compare_from (suc n) left right).level ≡ 0
level_zero n [] right h = refl
level_zero n (a ∷ left) [] h = refl
level_zero n (a ∷ left) (b ∷ right) h =
    decided_equal (lexicographic a b) (suc n) (compare_from (suc (suc n)) left right) (level_zero (suc n) left right) h

-- and only there
pub decided_zero : (o : Ordering) (n : ℕ) (later : Comparison) → (later.level ≡ 0 → later.order ≡ Equal)
    → (decided o (suc n) later).level ≡ 0 → (decided o (suc n) later).order ≡ Equal
decided_zero Less n later f h = absurd (omega (arith, h))
decided_zero Equal n later f h = f h
decided_zero Greater n later f h = absurd (omega (arith, h))

-- where the difference level is 0, none of the levels from 1 on decides
pub order_equal : (n : ℕ) (left right : List (List ℕ)) → (compare_from (suc n) left right).level ≡ 0 → (compare_from (suc n) left right).order ≡ Equal
order_equal n [] right h = refl
order_equal n (a ∷ left) [] h = refl
order_equal n (a ∷ left) (b ∷ right) h =
    decided_zero (lexicographic a b) n (compare_from (suc (suc n)) left right) (order_equal (suc n) left right) h

-- ---- Level lists have no weight 0

-- a filter with one more weight
pub kept_step : (w : ℕ) (ws : List ℕ) (b : Bool) → nat_eq w 0 ≡ b → AreNonZero ws → AreNonZero (cond (not b) (w ∷ ws) ws)
kept_step w ws true is h = h
kept_step w ws false is h = ((λ same. let e : nat_eq w 0 ≡ true = eq-eqb w 0 same in cc), h)

-- a level list has no weight 0
pub kept_non_zero : (ws : List ℕ) → AreNonZero (filter (λ w. not (nat_eq w 0)) ws)
kept_non_zero [] = tt
kept_non_zero (w ∷ ws) = kept_step w (filter (λ v. not (nat_eq v 0)) ws) (nat_eq w 0) refl (kept_non_zero ws)

-- so the level lists of two texts are such levels
pub AreLevels-from : (start n : ℕ) (left right : List Weights) → AreLevels (level_lists_from start n left) (level_lists_from start n right)
AreLevels-from start zero left right = tt
AreLevels-from start (suc n) left right =
    (kept_non_zero (map (weight_at start) left), kept_non_zero (map (weight_at start) right), AreLevels-from (suc start) n left right)

-- ---- Keys

-- keys compare as the elements do level by level
pub key_order : (weighting : Weighting) (left right : List Element)
    → lexicographic (key_bytes weighting left) (key_bytes weighting right) ≡ (compared weighting left right).order
key_order weighting left right =
    let first = level_lists weighting left in
    let second = level_lists weighting right in
    ap (λ bytes. lexicographic bytes (levels_bytes second)) (levels_bytes-joined first)
    ∙ ap (lexicographic (level_bytes (joined first))) (levels_bytes-joined second)
    ∙ lexicographic-level_bytes (joined first) (joined second)
    ∙ joined_order 1 first second (AreLevels-from 1 (level_count weighting) (weighted weighting left) (weighted weighting right))

-- keys are equal exactly where no level differs
pub key_same : (weighting : Weighting) (left right : List Element)
    → (key_bytes weighting left ≡ key_bytes weighting right) ↔ ((compared weighting left right).level ≡ 0)
key_same weighting left right =
    let first = level_lists weighting left in
    let second = level_lists weighting right in
    let key = key_bytes weighting left in (
      (λ same. level_zero 0 first second (sym (key_order weighting left right) ∙ (ap (lexicographic key) (sym same) ∙ lexicographic_itself key))),
      (λ none. same_from_lexicographic key (key_bytes weighting right) (key_order weighting left right ∙ order_equal 0 first second none)),
    )

-- the law
pub keys_compare : KeysCompareAsElements
keys_compare weighting left right = (key_order weighting left right, key_same weighting left right)
