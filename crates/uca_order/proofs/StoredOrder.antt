-- Stored keys compare as the elements that they are of.
use Rattle.std.proofs.Common.{◌≡◌, ◌≢◌, ℕ, suc, ◌+◌, ◌/◌, ◌%◌, ◌<◌, ◌≤◌, List, [], ◌∷◌, ◌++◌, length, Bool, true}
use Rattle.std.proofs.Common.{false, cond, nat_eq, refl, sym, ap, ◌∙◌, arith, eq-eqb, min, count_by, bytes_eq}
use Rattle.std.specs.declared.cmp.Ordering.{Ordering}
use Rattle.std.specs.declared.cmp.Ordering.TheVariants.{Less, Equal, Greater}
use Rattle.std.proofs.lemmas.Bool.{eqb-true, ne_eqb}
use Rattle.std.proofs.lemmas.List.Sums.{sum_by-cons}
use Rattle.std.proofs.lemmas.Slice.Eq.{bytes_eq-Decides}
use Rattle.uca_weights.specs.declared.Element.{Element}
use Rattle.uca_weights.specs.declared.Weighting.{Weighting}
use Rattle.uca_weights.specs.declared.Weighting.TheVariants.{NonIgnorable, Shifted}
use Rattle.uca_weights.proofs.Tests.{same_bytes, other_bytes}
use Rattle.uca_order.specs.Levels.{Comparison, level_lists, level_count, weighted, lexicographic, decided, compare_from}
use Rattle.uca_order.specs.Levels.{compared, weight_bytes, level_bytes, levels_bytes, key_bytes}
use Rattle.uca_order.specs.StoredKeys.{groups, shared_groups, shared_separators, stored_level}
use Rattle.uca_order.specs.Laws.{StoredKeysCompareAsElements}
use Rattle.uca_order.proofs.KeyOrder.{AreNonZero, AreLevels, AreLevels-from, joined, levels_bytes-joined, key_order}
use Rattle.uca_order.proofs.KeyOrder.{key_same, same_from_lexicographic, lexicographic_itself}

-- ---- Groups that both sides begin with

-- the groups that both begin with, after a group of each
pub shared_same : (a b : List ℕ) (left right : List (List ℕ)) → bytes_eq a b ≡ true → shared_groups (a ∷ left) (b ∷ right) ≡ a ∷ shared_groups left right
shared_same a b left right same = rw same

-- none where these groups differ
pub shared_other : (a b : List ℕ) (left right : List (List ℕ)) → bytes_eq a b ≡ false → shared_groups (a ∷ left) (b ∷ right) ≡ []
shared_other a b left right other = rw other

-- whether a group is a separator between two levels
abbrev pub is_separator : List ℕ → Bool
is_separator = bytes_eq (0 ∷ 0 ∷ [])

-- how many separators both have before the first group that differs, after an equal group of each
pub separators_same : (a b : ℕ) (left right : List ℕ)
    → shared_separators (a ∷ b ∷ left) (a ∷ b ∷ right) ≡ cond (is_separator (a ∷ b ∷ [])) 1 0 + shared_separators left right
separators_same a b left right =
    ap (count_by is_separator) (shared_same (a ∷ b ∷ []) (a ∷ b ∷ []) (groups left) (groups right) (same_bytes (a ∷ b ∷ []) (a ∷ b ∷ []) refl))
    ∙ sum_by-cons (λ group. cond (is_separator group) 1 0) (a ∷ b ∷ []) (shared_groups (groups left) (groups right))

-- no separators, where the first groups differ
pub separators_other : (a b c d : ℕ) (left right : List ℕ) → bytes_eq (a ∷ b ∷ []) (c ∷ d ∷ []) ≡ false → shared_separators (a ∷ b ∷ left) (c ∷ d ∷ right) ≡ 0
separators_other a b c d left right other =
    ap (count_by is_separator) (shared_other (a ∷ b ∷ []) (c ∷ d ∷ []) (groups left) (groups right) other)

-- ---- Weights instead of groups

-- how many weights 0 two lists have before the first weight that differs
abbrev pub zeros_before : List ℕ → List ℕ → ℕ
zeros_before [] ws = 0
zeros_before (v ∷ vs) [] = 0
zeros_before (v ∷ vs) (w ∷ ws) = cond (nat_eq v w) (cond (nat_eq v 0) 1 0 + zeros_before vs ws) 0

-- a weight is its two bytes
pub same_weight : (v w : ℕ) → v / 256 ≡ w / 256 → v % 256 ≡ w % 256 → v ≡ w
same_weight v w high low = omega arith

-- so other weights have other bytes
pub other_weight : (v w : ℕ) → (v ≡ w → ⊥) → weight_bytes v ≡ weight_bytes w → ⊥
other_weight v w other same =
    let high : v / 256 ≡ w / 256 = cc in
    let low : v % 256 ≡ w % 256 = cc in
    other (same_weight v w high low)

-- so its bytes are 00 00 only where it is 0
pub separates : (v : ℕ) → is_separator (weight_bytes v) ≡ nat_eq v 0
separates v = at (nat_eq v 0) refl
  where
    at : (b : Bool) → nat_eq v 0 ≡ b → is_separator (weight_bytes v) ≡ nat_eq v 0
    at true is = let e : v ≡ 0 = eqb-true v 0 is in ap (λ w. is_separator (weight_bytes w)) e ∙ sym is
    at false is = other_bytes (0 ∷ 0 ∷ []) (weight_bytes v) (other_weight 0 v (λ e. let t : nat_eq v 0 ≡ true = eq-eqb v 0 (sym e) in cc)) ∙ sym is

-- with one more weight on both sides
separators_step : (v w : ℕ) (vs ws : List ℕ) (b : Bool) → nat_eq v w ≡ b
    → shared_separators (level_bytes vs) (level_bytes ws) ≡ zeros_before vs ws
    → shared_separators (level_bytes (v ∷ vs)) (level_bytes (w ∷ ws)) ≡ zeros_before (v ∷ vs) (w ∷ ws)
separators_step v w vs ws true is later =
    let same : v ≡ w = eqb-true v w is in
    ap (λ u. shared_separators (level_bytes (v ∷ vs)) (level_bytes (u ∷ ws))) (sym same)
    ∙ separators_same (v / 256) (v % 256) (level_bytes vs) (level_bytes ws)
    ∙ rw (separates v, later, is) refl
separators_step v w vs ws false is later =
    separators_other (v / 256) (v % 256) (w / 256) (w % 256) (level_bytes vs) (level_bytes ws)
    (other_bytes (weight_bytes v) (weight_bytes w) (other_weight v w (λ e. let t : nat_eq v w ≡ true = eq-eqb v w e in cc)))
    ∙ rw is refl

-- the separators are the weights 0
pub separators_zeros : (vs ws : List ℕ) → shared_separators (level_bytes vs) (level_bytes ws) ≡ zeros_before vs ws
separators_zeros [] ws = refl
separators_zeros (v ∷ vs) [] = refl
separators_zeros (v ∷ vs) (w ∷ ws) = separators_step v w vs ws (nat_eq v w) refl (separators_zeros vs ws)

-- ---- Weights 0 are only between levels

-- after one more weight, which is not 0
past_weight : (v w : ℕ) (rest : ℕ) (same : Bool) → nat_eq v w ≡ same → v ≢ 0 → (v ≡ w → rest ≡ 0) → cond same (cond (nat_eq v 0) 1 0 + rest) 0 ≡ 0
past_weight v w rest true is apart none =
    let no : nat_eq v 0 ≡ false = ne_eqb v 0 apart in
    let later : rest ≡ 0 = none (eqb-true v w is) in
    rw (no, later) refl
past_weight v w rest false is apart none = refl

-- a list without weights 0
pub zeros_none : (vs ws : List ℕ) → AreNonZero vs → zeros_before vs ws ≡ 0
zeros_none [] ws a = refl
zeros_none (v ∷ vs) [] a = refl
zeros_none (v ∷ vs) (w ∷ ws) a = past_weight v w (zeros_before vs ws) (nat_eq v w) refl a.0 (λ e. zeros_none vs ws a.1)

-- two that differ, with 0 and more after each
pub zeros_other : (vs ws xs ys : List ℕ) → AreNonZero vs → AreNonZero ws → (vs ≡ ws → ⊥) → zeros_before (vs ++ 0 ∷ xs) (ws ++ 0 ∷ ys) ≡ 0
zeros_other [] [] xs ys a b other = absurd (other refl)
zeros_other [] (w ∷ ws) xs ys a b other =
    let no : nat_eq 0 w ≡ false = ne_eqb 0 w (λ e. b.0 (sym e)) in
    rw no refl
zeros_other (v ∷ vs) [] xs ys a b other =
    let no : nat_eq v 0 ≡ false = ne_eqb v 0 a.0 in
    rw no refl
zeros_other (v ∷ vs) (w ∷ ws) xs ys a b other =
    past_weight v w (zeros_before (vs ++ 0 ∷ xs) (ws ++ 0 ∷ ys)) (nat_eq v w) refl a.0
    (λ first. zeros_other vs ws xs ys a.1 b.1 (λ rest. other (let e : v ∷ vs ≡ w ∷ ws = cc in e)))

-- and a list that is the same on both sides
pub zeros_same : (vs xs ys : List ℕ) → AreNonZero vs → zeros_before (vs ++ 0 ∷ xs) (vs ++ 0 ∷ ys) ≡ suc (zeros_before xs ys)
zeros_same [] xs ys a = omega arith
zeros_same (v ∷ vs) xs ys a =
    let same : nat_eq v v ≡ true = eq-eqb v v refl in
    let no : nat_eq v 0 ≡ false = ne_eqb v 0 a.0 in
    rw (same, no, zeros_same vs xs ys a.1) (omega arith)

-- ---- The level at which two keys differ

-- what a level says of its own lists and of the levels after it
pub level_step : (o : Ordering) (n zeros rest : ℕ) (later : Comparison) → ((o ≡ Equal → ⊥) → zeros ≡ 0) → (o ≡ Equal → zeros ≡ suc rest)
    → ((later.order ≡ Equal → ⊥) → later.level ≡ suc n + rest) → ((decided o n later).order ≡ Equal → ⊥) → (decided o n later).level ≡ n + zeros
level_step Less n zeros rest later apart same beyond differ = let e : zeros ≡ 0 = apart differ in omega arith
level_step Equal n zeros rest later apart same beyond differ =
    let e : zeros ≡ suc rest = same refl in
    let f : later.level ≡ suc n + rest = beyond differ in
    omega arith
level_step Greater n zeros rest later apart same beyond differ = let e : zeros ≡ 0 = apart differ in omega arith

-- how many weights 0 there are after a level, and then one level more
abbrev pub zeros_joined : List (List ℕ) → List (List ℕ) → ℕ
zeros_joined left right = zeros_before (joined left) (joined right)

-- none where the first levels differ
zeros_apart : (a b : List ℕ) (c d : List ℕ) (left right : List (List ℕ)) → AreNonZero a → AreNonZero b → (lexicographic a b ≡ Equal → ⊥)
    → zeros_joined (a ∷ c ∷ left) (b ∷ d ∷ right) ≡ 0
zeros_apart a b c d left right first second differ =
    zeros_other a b (joined (c ∷ left)) (joined (d ∷ right)) first second (λ same. differ (ap (lexicographic a) (sym same) ∙ lexicographic_itself a))

-- and one more where they are the same
zeros_after : (a b : List ℕ) (c d : List ℕ) (left right : List (List ℕ)) → AreNonZero a → lexicographic a b ≡ Equal
    → zeros_joined (a ∷ c ∷ left) (b ∷ d ∷ right) ≡ suc (zeros_joined (c ∷ left) (d ∷ right))
zeros_after a b c d left right first same =
    ap (λ l. zeros_before (joined (a ∷ c ∷ left)) (l ++ 0 ∷ joined (d ∷ right))) (sym (same_from_lexicographic a b same))
    ∙ zeros_same a (joined (c ∷ left)) (joined (d ∷ right)) first

-- where some level decides, it is the one after as many separators
pub level_zeros : (n : ℕ) (left right : List (List ℕ)) → AreLevels left right → ((compare_from n left right).order ≡ Equal → ⊥)
    → (compare_from n left right).level ≡ n + zeros_joined left right
level_zeros n [] [] h differ = absurd (differ refl)
level_zeros n [] (b ∷ right) h differ = absurd h
level_zeros n (a ∷ left) [] h differ = absurd h
level_zeros n (a ∷ []) (b ∷ []) h differ =
    level_step (lexicographic a b) n (zeros_joined (a ∷ []) (b ∷ [])) 0 (record { order = Equal; level = 0 })
    (λ e. zeros_none a b h.0) (λ e. absurd (differ (ap (λ o. (decided o n (record { order = Equal; level = 0 })).order) e))) (λ f. absurd (f refl)) differ
level_zeros n (a ∷ []) (b ∷ d ∷ right) h differ = absurd h.2
level_zeros n (a ∷ c ∷ left) (b ∷ []) h differ = absurd h.2
level_zeros n (a ∷ c ∷ left) (b ∷ d ∷ right) h differ =
    level_step (lexicographic a b) n (zeros_joined (a ∷ c ∷ left) (b ∷ d ∷ right)) (zeros_joined (c ∷ left) (d ∷ right))
    (compare_from (suc n) (c ∷ left) (d ∷ right))
    (zeros_apart a b c d left right h.0 h.1) (zeros_after a b c d left right h.0)
    (level_zeros (suc n) (c ∷ left) (d ∷ right) h.2) differ

-- and there are fewer separators than levels
fewer_step : (o : Ordering) (zeros rest levels : ℕ) → ((o ≡ Equal → ⊥) → zeros ≡ 0) → (o ≡ Equal → zeros ≡ suc rest)
    → suc rest ≤ levels → suc zeros ≤ suc levels
fewer_step Less zeros rest levels apart same few = let e : zeros ≡ 0 = apart (λ e. cc) in omega arith
fewer_step Equal zeros rest levels apart same few = let e : zeros ≡ suc rest = same refl in omega arith
fewer_step Greater zeros rest levels apart same few = let e : zeros ≡ 0 = apart (λ e. cc) in omega arith

-- lists of levels with at least one level share fewer separators than there are levels
pub fewer_zeros : (a : List ℕ) (left right : List (List ℕ)) → AreLevels (a ∷ left) right → suc (zeros_joined (a ∷ left) right) ≤ length (a ∷ left)
fewer_zeros a left [] h = absurd h
fewer_zeros a [] (b ∷ []) h = let none : zeros_before a b ≡ 0 = zeros_none a b h.0 in omega arith
fewer_zeros a [] (b ∷ d ∷ right) h = absurd h.2
fewer_zeros a (c ∷ left) (b ∷ []) h = absurd h.2
fewer_zeros a (c ∷ left) (b ∷ d ∷ right) h =
    fewer_step (lexicographic a b) (zeros_joined (a ∷ c ∷ left) (b ∷ d ∷ right)) (zeros_joined (c ∷ left) (d ∷ right)) (length (c ∷ left))
    (zeros_apart a b c d left right h.0 h.1) (zeros_after a b c d left right h.0) (fewer_zeros c left (d ∷ right) h.2)

-- ---- Stored keys

-- the separators of two keys are the weights 0 of the joined lists
separators_joined : (left right : List (List ℕ)) → shared_separators (levels_bytes left) (levels_bytes right) ≡ zeros_joined left right
separators_joined left right =
    ap (λ bytes. shared_separators bytes (levels_bytes right)) (levels_bytes-joined left)
    ∙ ap (shared_separators (level_bytes (joined left))) (levels_bytes-joined right)
    ∙ separators_zeros (joined left) (joined right)

-- fewer than the levels
few_of : (left right : List (List ℕ)) → AreLevels left right → 0 < length left → suc (zeros_joined left right) ≤ length left
few_of [] right h some = absurd (omega arith)
few_of (a ∷ left) right h some = fewer_zeros a left right h

-- so two keys share fewer separators than they have levels
pub few_separators : (weighting : Weighting) (left right : List Element)
    → suc (zeros_joined (level_lists weighting left) (level_lists weighting right)) ≤ level_count weighting
few_separators NonIgnorable left right =
    few_of (level_lists NonIgnorable left) (level_lists NonIgnorable right)
    (AreLevels-from 1 3 (weighted NonIgnorable left) (weighted NonIgnorable right)) (omega arith)
few_separators Shifted left right =
    few_of (level_lists Shifted left) (level_lists Shifted right)
    (AreLevels-from 1 4 (weighted Shifted left) (weighted Shifted right)) (omega arith)

-- where that is the level
stored_at : (same : Bool) (levels separators level : ℕ) → (same ≡ true → level ≡ 0) → (same ≡ false → level ≡ 1 + separators) → suc separators ≤ levels
    → cond same 0 (min levels (1 + separators)) ≡ level
stored_at true levels separators level equal apart few = sym (equal refl)
stored_at false levels separators level equal apart few = let e : level ≡ 1 + separators = apart refl in omega arith

-- the level at which two keys differ is the one at which their elements do
pub stored_key_level : (weighting : Weighting) (left right : List Element)
    → stored_level (level_count weighting) (key_bytes weighting left) (key_bytes weighting right) ≡ (compared weighting left right).level
stored_key_level weighting left right =
    let first = level_lists weighting left in
    let second = level_lists weighting right in
    let one = key_bytes weighting left in
    let other = key_bytes weighting right in
    ap (λ n. cond (bytes_eq one other) 0 (min (level_count weighting) (1 + n))) (separators_joined first second)
    ∙ stored_at (bytes_eq one other) (level_count weighting) (zeros_joined first second) (compared weighting left right).level
    (λ same. (key_same weighting left right).0 ((bytes_eq-Decides one other).0 same))
    (λ apart. level_zeros 1 first second (AreLevels-from 1 (level_count weighting) (weighted weighting left) (weighted weighting right))
    (λ undecided. let same : one ≡ other = same_from_lexicographic one other (key_order weighting left right ∙ undecided) in
    let t : bytes_eq one other ≡ true = same_bytes one other same in cc))
    (few_separators weighting left right)

-- the law of elements
pub stored_keys_compare : StoredKeysCompareAsElements
stored_keys_compare weighting left right = (key_order weighting left right, stored_key_level weighting left right)

-- ---- What `compare_keys` returns

-- equal slices have the level 0
pub equal_level : (levels : ℕ) (left right : List ℕ) → lexicographic left right ≡ Equal → 0 ≡ stored_level levels left right
equal_level levels left right same =
    let equal : bytes_eq left right ≡ true = same_bytes left right (same_from_lexicographic left right same) in
    rw equal refl

-- the others have the level that their separators give
pub differing_level : (levels level : ℕ) (left right : List ℕ) → (lexicographic left right ≡ Equal → ⊥) → level ≡ min levels (1 + shared_separators left right)
    → level ≡ stored_level levels left right
differing_level levels level left right differ is =
    let apart : bytes_eq left right ≡ false = other_bytes left right (λ same. differ (ap (lexicographic left) (sym same) ∙ lexicographic_itself left)) in
    rw apart is
