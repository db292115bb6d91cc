-- The runs of a level's map, made from the last member to the first: a weight continues the last run or begins a new one.
use Rattle.std.proofs.Common.{◌≡◌, ℕ, suc, ◌+◌, ◌<◌, Bool, true, false, ◌&&◌, List, [], ◌∷◌, ◌++◌, length, get_or, take, drop, reverse, nat_eq, if◌then◌else◌, refl, sym, ap, ◌∙◌, arith, subst, drop-cons}
use Rattle.std.proofs.Math.ListN.{set}
use Rattle.std.proofs.Math.Seq.{set-append_seam}
use Rattle.std.proofs.lemmas.Bool.Decides.{nat_tests}
use Rattle.std.proofs.lemmas.List.{reverse-append, take_all, length-take, set-get_or}
use Rattle.std.specs.List.{AllByRecursion}
use Rattle.uca_weights.specs.declared.maps.Run.{Run}
use Rattle.uca_weights.proofs.Lists.{taken_more}
use Rattle.uca_plans.specs.declared.drafts.DraftWeight.{DraftWeight}
use Rattle.uca_plans.specs.declared.drafts.DraftWeight.TheVariants.{Base, New}
use Rattle.uca_plans.specs.Plans.{run_before, runs_of}
use Rattle.uca_tailor.specs.inside.NumberTables.{EndsLow}

-- ---- One weight more

-- the last of some runs grows where it goes on from the weight
grown_last : (front : List Run) (r : Run) (from to : ℕ) → (nat_eq r.from (from + 1) && nat_eq r.to (to + 1)) ≡ true
    → reverse (set (front ++ r ∷ []) (length front) (record { from = from; to = to; count = r.count + 1 })) ≡ run_before from to (reverse (front ++ r ∷ []))
grown_last front r from to goes =
    let s : Run = record { from = from; to = to; count = r.count + 1 } in
    ap reverse (set-append_seam front r [] s) ∙ (reverse-append front (s ∷ []) ∙ (rw (reverse-append front (r ∷ []), goes) refl))

-- the last of some runs, given its position, grows where it goes on from the weight
pub grown : (runs : List Run) (i : ℕ) (r : Run) (from to : ℕ) → i + 1 ≡ length runs → r ≡ get_or runs i r
    → (nat_eq r.from (from + 1) && nat_eq r.to (to + 1)) ≡ true
    → reverse (set runs i (record { from = from; to = to; count = r.count + 1 })) ≡ run_before from to (reverse runs)
grown runs i r from to last is goes =
    let s : Run = record { from = from; to = to; count = r.count + 1 } in
    let whole : runs ≡ take i runs ++ r ∷ [] = sym (take_all (i + 1) runs (omega arith)) ∙ taken_more runs i r (omega arith) is in
    let at : i ≡ length (take i runs) = omega (arith, length-take i runs) in
    let moved : reverse (set (take i runs ++ r ∷ []) i s) ≡ run_before from to (reverse (take i runs ++ r ∷ [])) =
    ap (λ k. reverse (set (take i runs ++ r ∷ []) k s)) at ∙ grown_last (take i runs) r from to goes in
    subst (λ xs. reverse (set xs i s) ≡ run_before from to (reverse xs)) (sym whole) moved

-- the last of some runs comes first in reverse
last_first : (runs : List Run) (i : ℕ) (r : Run) → i + 1 ≡ length runs → r ≡ get_or runs i r → reverse runs ≡ r ∷ reverse (take i runs)
last_first runs i r last is =
    let whole : runs ≡ take i runs ++ r ∷ [] = sym (take_all (i + 1) runs (omega arith)) ∙ taken_more runs i r (omega arith) is in
    ap reverse whole ∙ reverse-append (take i runs) (r ∷ [])

-- where the last does not go on from the weight, there is one run more
pub alone : (runs new : List Run) (i : ℕ) (r : Run) (from to : ℕ) → i + 1 ≡ length runs → r ≡ get_or runs i r
    → (nat_eq r.from (from + 1) && nat_eq r.to (to + 1)) ≡ false → new ≡ set runs i r ++ record { from = from; to = to; count = 1 } ∷ []
    → reverse new ≡ run_before from to (reverse runs)
alone runs new i r from to last is ends more =
    let s : Run = record { from = from; to = to; count = 1 } in
    let as_it_was : set runs i r ≡ runs = ap (set runs i) is ∙ set-get_or runs i r in
    ap reverse more ∙ ap (λ xs. reverse (xs ++ s ∷ [])) as_it_was ∙ reverse-append runs (s ∷ [])
    ∙ subst (λ xs. s ∷ xs ≡ run_before from to xs) (sym (last_first runs i r last is)) (rw ends refl)

-- where it goes on, it has room for one weight more
pub has_room : (runs : List Run) (i : ℕ) (r : Run) (from to : ℕ) → i + 1 ≡ length runs → r ≡ get_or runs i r
    → (nat_eq r.from (from + 1) && nat_eq r.to (to + 1)) ≡ true → 0 < from → AllByRecursion EndsLow (reverse runs) → r.count + 1 < 0x1_0000
has_room runs i r from to last is goes some low =
    let ends : EndsLow r = (subst (AllByRecursion EndsLow) (last_first runs i r last is) low).0 in
    let next : r.from ≡ from + 1 = grind (arith, nat_tests) in
    omega arith

-- so is it where there is none
pub first_run : (runs new : List Run) (count from to : ℕ) → length runs ≡ count → (0 < count → false ≡ true)
    → new ≡ runs ++ record { from = from; to = to; count = 1 } ∷ [] → reverse new ≡ run_before from to (reverse runs)
first_run [] new count from to long none more = ap reverse more
first_run (r ∷ runs) new count from to long none more = let some : false ≡ true = none (omega arith) in absurd (cc)

-- runs end with weights of 16 bits, with one weight more
pub before_low : (from to : ℕ) (runs : List Run) → from < 0x1_0000 → AllByRecursion EndsLow runs → AllByRecursion EndsLow (run_before from to runs)
before_low from to [] small low = (omega arith, tt)
before_low from to (r ∷ runs) small low = go (nat_eq r.from (from + 1) && nat_eq r.to (to + 1)) refl
  where
    -- by the test
    go : (b : Bool) → (nat_eq r.from (from + 1) && nat_eq r.to (to + 1)) ≡ b
        → AllByRecursion EndsLow (if b then record { from = from; to = to; count = r.count + 1 } ∷ runs else record { from = from; to = to; count = 1 } ∷ r ∷ runs)
    go true e = let next : r.from ≡ from + 1 = grind (arith, nat_tests) in (omega (arith, low.0), low.1)
    go false e = (omega arith, low)

-- ---- One member more

-- a list from a position on
pub rest_from : {A : Type 0} (xs : List A) (i next : ℕ) (x d : A) → next ≡ i + 1 → i < length xs → get_or xs i d ≡ x → drop i xs ≡ x ∷ drop next xs
rest_from xs i next x d after within is =
    let same : suc i ≡ next = omega arith in
    drop-cons xs i d within ∙ (ap (λ y. y ∷ drop (suc i) xs) is ∙ ap (λ k. x ∷ drop k xs) same)

-- 0 is in no run
pub one_zero : (ms : List DraftWeight) (ns : List ℕ) (i next w : ℕ) (d : DraftWeight) → next ≡ i + 1 → i < length ms → length ns ≡ length ms
    → get_or ms i d ≡ Base w → w ≡ 0
    → runs_of (drop next ms) (drop next ns) ≡ runs_of (drop i ms) (drop i ns)
one_zero ms ns i next w d after within same is zero =
    let first : get_or ms i d ≡ Base 0 = is ∙ ap Base zero in
    sym (ap (λ xs. runs_of xs (drop i ns)) (rest_from ms i next (Base 0) d after within first)
    ∙ ap (λ xs. runs_of (Base 0 ∷ drop next ms) xs) (rest_from ns i next (get_or ns i 0) 0 after (omega arith) refl))

-- another base weight comes first
pub one_base : (ms : List DraftWeight) (ns : List ℕ) (i next w : ℕ) (d : DraftWeight) → next ≡ i + 1 → i < length ms → length ns ≡ length ms
    → get_or ms i d ≡ Base w → 0 < w
    → run_before w (get_or ns i 0) (runs_of (drop next ms) (drop next ns)) ≡ runs_of (drop i ms) (drop i ns)
one_base ms ns i next w d after within same is some =
    let other : nat_eq w 0 ≡ false = grind (arith, nat_tests) in
    sym (ap (λ xs. runs_of xs (drop i ns)) (rest_from ms i next (Base w) d after within is)
    ∙ ap (λ xs. runs_of (Base w ∷ drop next ms) xs) (rest_from ns i next (get_or ns i 0) 0 after (omega arith) refl)
    ∙ rw other refl)

-- nor is a new weight in a run
pub one_new : (ms : List DraftWeight) (ns : List ℕ) (i next p : ℕ) (d : DraftWeight) → next ≡ i + 1 → i < length ms → length ns ≡ length ms
    → get_or ms i d ≡ New p
    → runs_of (drop next ms) (drop next ns) ≡ runs_of (drop i ms) (drop i ns)
one_new ms ns i next p d after within same is =
    sym (ap (λ xs. runs_of xs (drop i ns)) (rest_from ms i next (New p) d after within is)
    ∙ ap (λ xs. runs_of (New p ∷ drop next ms) xs) (rest_from ns i next (get_or ns i 0) 0 after (omega arith) refl))
