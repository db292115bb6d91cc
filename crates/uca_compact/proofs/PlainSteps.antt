-- Steps of comparing a level to a run of one weight, and of counting letters.
use Rattle.std.proofs.Common.{◌≡◌, ◌≢◌, ℕ, zero, suc, ◌+◌, ◌-◌, ◌<◌, ◌≤◌, List, [], ◌∷◌, length, get_or, drop, drop-cons, Bool, true, false, ◌&&◌, not, if◌then◌else◌, refl, ap, sym, subst, ◌∙◌, arith}
use Rattle.std.specs.Ordering.{nat_cmp, ordering_then}
use Rattle.std.specs.declared.cmp.Ordering.{Ordering}
use Rattle.std.specs.declared.cmp.Ordering.TheVariants.{Less, Equal, Greater}
use Rattle.std.proofs.lemmas.List.{drop_all}
use Rattle.std.proofs.lemmas.Bool.Decides.{nat_tests}
use Rattle.uca_order.specs.Levels.{lexicographic}
use Rattle.uca_compact.specs.PlainLevels.{copies, is_lead, letters_after}

-- the rest of a level, compared to so many weights
abbrev pub RunIs : List ℕ → ℕ → ℕ → ℕ → Ordering → Type 0
RunIs level i w left o = lexicographic (drop i level) (copies w left) ≡ o

-- the level is longer
pub longer_level : (level : List ℕ) (i w left : ℕ) (o : Ordering) → i < length level → left ≡ 0 → RunIs level i w left o → Greater ≡ o
longer_level level i w left o within none h =
    subst (λ (n : ℕ). lexicographic (drop i level) (copies w n) ≡ o → Greater ≡ o) (sym none)
    (λ is. ap (λ (xs : List ℕ). lexicographic xs []) (sym (drop-cons level i 0 within)) ∙ is) h

-- a weight and what follows it
compare_step : (level : List ℕ) (i w left : ℕ) → i < length level → 0 < left
    → lexicographic (drop i level) (copies w left) ≡ ordering_then (nat_cmp (get_or level i 0) w) (lexicographic (drop (i + 1) level) (copies w (left - 1)))
compare_step level i w zero within some = absurd (omega arith)
compare_step level i w (suc left) within some =
    let next : suc i ≡ i + 1 = omega arith in
    let back : left ≡ suc left - 1 = omega arith in
    ap (λ (xs : List ℕ). lexicographic xs (copies w (suc left))) (drop-cons level i 0 within)
    ∙ ap (λ (n : ℕ). ordering_then (nat_cmp (get_or level i 0) w) (lexicographic (drop n level) (copies w left))) next
    ∙ ap (λ (n : ℕ). ordering_then (nat_cmp (get_or level i 0) w) (lexicographic (drop (i + 1) level) (copies w n))) back

-- another weight decides
decides : (v w : ℕ) (o rest : Ordering) → v ≢ w → nat_cmp v w ≡ o → ordering_then o rest ≡ o
decides v w Less rest apart is = refl
decides v w Equal rest apart is = absurd (apart (grind (arith, nat_tests)))
decides v w Greater rest apart is = refl

pub other_weight : (level : List ℕ) (i w left : ℕ) (o : Ordering) → i < length level → left ≢ 0 → get_or level i 0 ≢ w → RunIs level i w left o
    → nat_cmp (get_or level i 0) w ≡ o
other_weight level i w left o within some apart h =
    sym (decides (get_or level i 0) w (nat_cmp (get_or level i 0) w) (lexicographic (drop (i + 1) level) (copies w (left - 1))) apart refl)
    ∙ sym (compare_step level i w left within (omega (arith, some))) ∙ h

-- the same weight does not
pub same_weight : (level : List ℕ) (i w left : ℕ) (o : Ordering) → i < length level → left ≢ 0 → get_or level i 0 ≡ w → RunIs level i w left o
    → RunIs level (i + 1) w (left - 1) o
same_weight level i w left o within some same h =
    let equal : nat_cmp (get_or level i 0) w ≡ Equal = grind (arith, nat_tests) in
    sym (compare_step level i w left within (omega (arith, some)) ∙ ap (λ (x : Ordering). ordering_then x (lexicographic (drop (i + 1) level) (copies w (left - 1)))) equal) ∙ h

-- the level is shorter
pub shorter_level : (level : List ℕ) (i w left : ℕ) (o : Ordering) → length level ≤ i → left ≢ 0 → RunIs level i w left o → Less ≡ o
shorter_level level i w zero o end some h = absurd (some refl)
shorter_level level i w (suc left) o end some h = ap (λ (xs : List ℕ). lexicographic xs (copies w (suc left))) (sym (drop_all i level end)) ∙ h

-- one more weight of level 1
pub count_step : (ws : List ℕ) (i count all : ℕ) (lead : Bool) → i < length ws → count + letters_after lead (drop i ws) ≡ all
    → (count + (if lead then 0 else 1)) + letters_after (not lead && is_lead (get_or ws i 0)) (drop (i + 1) ws) ≡ all
count_step ws i count all lead within h =
    let next : suc i ≡ i + 1 = omega arith in
    let cons : drop i ws ≡ get_or ws i 0 ∷ drop (i + 1) ws = drop-cons ws i 0 within ∙ ap (λ (n : ℕ). get_or ws i 0 ∷ drop n ws) next in
    count_by lead (subst (λ (xs : List ℕ). count + letters_after lead xs ≡ all) cons h)
  where
    count_by : (b : Bool) → count + letters_after b (get_or ws i 0 ∷ drop (i + 1) ws) ≡ all
        → (count + (if b then 0 else 1)) + letters_after (not b && is_lead (get_or ws i 0)) (drop (i + 1) ws) ≡ all
    count_by true is = omega (arith, is)
    count_by false is = omega (arith, is)

-- a count rises by one at most
pub one_more : (count i : ℕ) (lead : Bool) → count ≤ i → count + (if lead then 0 else 1) ≤ i + 1
one_more count i true h = omega arith
one_more count i false h = omega arith
