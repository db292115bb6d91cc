-- Steps of putting the levels of a compact key.
use Rattle.std.proofs.Common.{◌≡◌, ◌≢◌, ℕ, zero, suc, ◌+◌, ◌*◌, ◌-◌, ◌/◌, ◌<◌, ◌≤◌, List, [], ◌∷◌, ◌++◌, Bool, true, false, nat_eq, nat_lt, ◌&&◌, not, if◌then◌else◌, length, length-append, get_or, drop, min, take, refl, ap, ap₂, sym, subst, subst₂, ◌⊎◌, ⊎_elim, ◌∙◌, arith, append_assoc, append-nil}
use Rattle.std.specs.Int.{w16, from_be_bytes}
use Rattle.std.specs.List.{AllByRecursion}
use Rattle.std.specs.Ordering.{nat_cmp}
use Rattle.std.specs.declared.cmp.Ordering.{Ordering}
use Rattle.std.specs.declared.cmp.Ordering.TheVariants.{Greater}
use Rattle.std.proofs.lemmas.Bool.Decides.{nat_tests}
use Rattle.std.proofs.lemmas.List.{drop_all, get_or-drop, length-drop}
use Rattle.uca_lanes.specs.Pairs.{pair_at, MarksPairs, IsPairRun}
use Rattle.uca_order.specs.Levels.{lexicographic}
use Rattle.uca_order.proofs.KeyOrder.{cmp_less, cmp_equal, cmp_greater}
use Rattle.uca_compact.specs.Forms.{AreRising, Form, IsForm, step, full, first_cell}
use Rattle.uca_compact.specs.PlainLevels.{copies, is_lead, letters_after, letter_count}
use Rattle.uca_compact.specs.CompactKeys.{cell, written, run_after, level_code}
use Rattle.uca_compact.specs.LevelBytes.{weights_in, AreWeightBytes}
use Rattle.uca_compact.specs.inside.LevelsPut.{AreBefore, IsPutTo, AreUpTo, IsLaterTo}
use Rattle.uca_compact.proofs.OnlyLevels.{weight_code}
use Rattle.uca_compact.proofs.PlainSteps.{RunIs, longer_level, other_weight, same_weight, shorter_level}
use Rattle.uca_compact.proofs.StoredSteps.{two_at}

-- ---- The weights of bytes

-- no weight is before the first
pub none_before : (level : List ℕ) → AreBefore level 0 []
none_before level = record { size = refl; within = omega arith; upto = refl }

-- one weight more is before the next position
pub more_before : (level front : List ℕ) (at w : ℕ) → AreBefore level at front → at + 1 < length level → w ≡ pair_at level at → AreBefore level (at + 2) (front ++ w ∷ [])
more_before level front at w before within is =
    let size = before.size in
    let longer : length (front ++ w ∷ []) ≡ length front + 1 = length-append front (w ∷ []) in
    let rest = weights_in (drop (at + 2) level) in
    record {
      size = omega (arith, longer, size);
      within = omega arith;
      upto = append_assoc front (w ∷ []) rest
          ∙ ap (λ (n : ℕ). front ++ n ∷ rest) is
          ∙ ap (λ (bytes : List ℕ). front ++ weights_in bytes) (sym (two_at level at within))
          ∙ before.upto;
    }

-- the weight that two bytes are
pub weight_read : (level : List ℕ) (at w : ℕ) → w ≡ from_be_bytes w16 (get_or level at 0 ∷ get_or level (at + 1) 0 ∷ []) → w ≡ pair_at level at
weight_read level at w is = omega (arith, is)

-- no position of a weight is that of the last byte
pub two_left : (level front : List ℕ) (at : ℕ) → AreWeightBytes level → AreBefore level at front → at < length level → at + 1 < length level
two_left level front at are before within = let whole = are.whole in let size = before.size in omega (arith, whole, size, within)

-- a weight among others
among : (front rest : List ℕ) (w : ℕ) → AllByRecursion (λ (v : ℕ). 0 < v) (front ++ w ∷ rest) → 0 < w
among [] rest w all = all.0
among (v ∷ front) rest w all = among front rest w all.1

-- the weight there is not 0
pub some_there : (level front : List ℕ) (at : ℕ) → AreWeightBytes level → AreBefore level at front → at + 1 < length level → 0 < pair_at level at
some_there level front at are before within =
    among front (weights_in (drop (at + 2) level)) (pair_at level at)
    (subst (AllByRecursion (λ (v : ℕ). 0 < v)) (sym (ap (λ (bytes : List ℕ). front ++ weights_in bytes) (sym (two_at level at within)) ∙ before.upto)) are.some)

-- all weights are before the end
pub all_before : (level front : List ℕ) (at : ℕ) → AreBefore level at front → length level ≤ at → front ≡ weights_in level
all_before level front at before end =
    sym (append-nil front) ∙ ap (λ (bytes : List ℕ). front ++ weights_in bytes) (sym (drop_all at level end)) ∙ before.upto

-- a weight by its number
weight_in : (level : List ℕ) (k : ℕ) → 2 * k + 1 < length level → get_or (weights_in level) k 0 ≡ pair_at level (2 * k)
weight_in [] k within = absurd (omega arith)
weight_in (a ∷ []) k within = absurd (omega (arith, within))
weight_in (a ∷ b ∷ level) zero within = refl
weight_in (a ∷ b ∷ level) (suc k) within =
    let twice : suc (suc (2 * k)) ≡ 2 * suc k = omega arith in
    let beside : suc (suc (2 * k + 1)) ≡ 2 * suc k + 1 = omega arith in
    weight_in level k (omega (arith, within))
    ∙ ap (λ (n : ℕ). 256 * get_or (a ∷ b ∷ level) n 0 + get_or level (2 * k + 1) 0) twice
    ∙ ap (λ (n : ℕ). 256 * get_or (a ∷ b ∷ level) (2 * suc k) 0 + get_or (a ∷ b ∷ level) n 0) beside

pub half_of : (level : List ℕ) → AreWeightBytes level → length level / 2 ≡ length (weights_in level)
half_of level are = let whole = are.whole in omega (arith, whole)

-- ---- Level 1

-- a weight of a level without a common weight is its cell
letter_code : (f : Form) (end w : ℕ) (ws : List ℕ) → f.common ≡ 0 → 0 < w
    → level_code f end 0 (w ∷ ws) ≡ cell (first_cell f) 1 f.greater 65536 w ++ level_code f end 0 ws
letter_code f end w ws none some =
    weight_code f end 0 w ws Greater (cmp_greater w f.common (omega (arith, none)))
    ∙ ap (λ (n : ℕ). cell (first_cell f) (suc n) f.greater 65536 w ++ level_code f end 0 ws) none

-- the cells of such a level rise from 1
pub greater_rise : (f : Form) → IsForm f → f.common ≡ 0 → AreRising 1 f.greater 65536
greater_rise f form none = ⊎_elim (λ few. absurd (omega (arith, few.0, none))) (λ rise. subst (λ (n : ℕ). AreRising (suc n) f.greater 65536) none rise) form.greater

-- nothing was put yet
pub none_put : (f : Form) (level : List ℕ) → IsPutTo f level [] 0 0 false
none_put f level = record {
  weights = [];
  before = none_before level;
  few = omega arith;
  counted = λ more. omega arith;
  code = λ end more. refl;
}

-- a count with one weight more
count_more : (lead : Bool) (w count more : ℕ) (rest : List ℕ) → more ≡ count + (if lead then 0 else 1)
    → more + letters_after (not lead && is_lead w) rest ≡ count + letters_after lead (w ∷ rest)
count_more true w count more rest one = omega (arith, one)
count_more false w count more rest one = omega (arith, one)

count_fits : (lead : Bool) (count more n : ℕ) → more ≡ count + (if lead then 0 else 1) → count ≤ n → more ≤ n + 1
count_fits true count more n one few = omega (arith, one)
count_fits false count more n one few = omega (arith, one)

-- one weight more was put
pub letter_put : (f : Form) (level out new : List ℕ) (at count more w : ℕ) (lead : Bool) → f.common ≡ 0 → IsPutTo f level out at count lead
    → at + 1 < length level → w ≡ pair_at level at → 0 < w
    → new ≡ out ++ cell (first_cell f) 1 f.greater 65536 w → more ≡ count + (if lead then 0 else 1)
    → IsPutTo f level new (at + 2) more (not lead && is_lead w)
letter_put f level out new at count more w lead none so_far within is some put one =
    let front = so_far.weights in
    let longer : length (front ++ w ∷ []) ≡ length front + 1 = length-append front (w ∷ []) in
    record {
      weights = front ++ w ∷ [];
      before = more_before level front at w so_far.before within is;
      few = subst (λ (n : ℕ). more ≤ n) (sym longer) (count_fits lead count more (length front) one so_far.few);
      counted = λ rest. count_more lead w count more rest one ∙ so_far.counted (w ∷ rest) ∙ ap letter_count (sym (append_assoc front (w ∷ []) rest));
      code = λ end rest.
          ap (λ (xs : List ℕ). xs ++ level_code f end 0 rest) put
          ∙ append_assoc out (cell (first_cell f) 1 f.greater 65536 w) (level_code f end 0 rest)
          ∙ ap (λ (xs : List ℕ). out ++ xs) (sym (letter_code f end w rest none some))
          ∙ so_far.code end (w ∷ rest)
          ∙ ap (level_code f end 0) (sym (append_assoc front (w ∷ []) rest));
    }

-- one that is no lead, after no lead
pub known_put : (f : Form) (level out new : List ℕ) (at count w : ℕ) (lead : Bool) → lead ≡ false → f.common ≡ 0
    → IsPutTo f level out at count lead → at + 1 < length level → w ≡ pair_at level at → 0 < w → w < 0xFB00
    → new ≡ out ++ cell (first_cell f) 1 f.greater 65536 w → IsPutTo f level new (at + 2) (count + 1) lead
known_put f level out new at count w lead after_none none so_far within is some low put =
    let test : nat_lt w 0xFB00 ≡ true = grind (arith, nat_tests) in
    let same : (not lead && is_lead w) ≡ lead = ap (λ (t : Bool). not t && is_lead w) after_none ∙ ap (λ (t : Bool). not t && nat_lt w 0xFC00) test ∙ sym after_none in
    subst (IsPutTo f level new (at + 2) (count + 1)) same
    (letter_put f level out new at count (count + 1) w lead none so_far within is some put (ap (λ (t : Bool). count + (if t then 0 else 1)) (sym after_none)))

-- what is known by other names
pub put_as : (f : Form) (level codes also : List ℕ) (size size' at count count' : ℕ) (lead lead' : Bool) → also ≡ codes → size' ≡ size → count' ≡ count → lead' ≡ lead
    → IsPutTo f level (take size codes) at count lead → IsPutTo f level (take size' also) at count' lead'
put_as f level codes also size size' at count count' lead lead' same_codes same_size same_count same_lead so_far =
    subst₂ (λ (xs : List ℕ) (n : ℕ). IsPutTo f level (take n xs) at count' lead') (sym same_codes) (sym same_size)
    (subst₂ (λ (n : ℕ) (t : Bool). IsPutTo f level (take size codes) at n t) (sym same_count) (sym same_lead) so_far)

-- all weights were put
pub letters_put : (f : Form) (level out : List ℕ) (at count : ℕ) (lead : Bool) → IsPutTo f level out at count lead → length level ≤ at
    → (end : ℕ) → out ++ end ∷ [] ≡ level_code f end 0 (weights_in level)
letters_put f level out at count lead so_far last end =
    let alone : end ≡ 0 * step f + end = omega arith in
    ap (λ (n : ℕ). out ++ n ∷ []) alone ∙ so_far.code end [] ∙ ap (level_code f end 0) (append-nil so_far.weights ∙ all_before level so_far.weights at so_far.before last)

pub letters_counted : (f : Form) (level out : List ℕ) (at count : ℕ) (lead : Bool) → IsPutTo f level out at count lead → length level ≤ at
    → count ≡ letter_count (weights_in level)
letters_counted f level out at count lead so_far last =
    (let e : count ≡ count + 0 = omega arith in e) ∙ so_far.counted [] ∙ ap letter_count (append-nil so_far.weights ∙ all_before level so_far.weights at so_far.before last)

-- ---- Runs

-- the run that the marks tell
pub marked_run : (level : List ℕ) (weight marks at most least count first : ℕ) → MarksPairs level weight marks → 2 * (length level / 2) ≡ length level
    → 2 * (at / 2) ≡ at → at ≤ length level → at < 64 → least ≡ min (length level) 64 → count ≡ min ((least - at) / 2) most
    → ((bytes : List ℕ) (number : ℕ) → MarksPairs bytes number marks → at / 2 + count ≤ min 32 (length bytes / 2) → IsPairRun bytes number (2 * (at / 2)) count first)
    → IsPairRun level weight at count first
marked_run level weight marks at most least count first marked whole even within small all few found =
    subst (λ (n : ℕ). IsPairRun level weight n count first) even (found level weight marked (omega (arith, whole, even, within, small, all, few)))

-- a run that ends among the weights that are marked
pub short_run : (level : List ℕ) (weight first : ℕ) → IsPairRun level weight 0 (min ((min (length level) 64 - 0) / 2) 32) first → first < 32
    → IsPairRun level weight 0 (length level / 2) first
short_run level weight first run few =
    let within = run.within in
    record {
      within = omega (arith, within);
      are = run.are;
      apart = λ less. run.apart (omega (arith, less, few));
    }

-- so many weights are this one, and a run follows them
pub longer_run : (level rest : List ℕ) (weight first count all more : ℕ) → ((k : ℕ) → k < first → pair_at level (0 + 2 * k) ≡ weight)
    → rest ≡ drop (2 * first) level → IsPairRun rest weight 0 count more → first + count ≡ all → IsPairRun level weight 0 all (first + more)
longer_run level rest weight first count all more are is run sum =
    let within = run.within in
    record {
      within = omega (arith, within, sum);
      are = λ k below. by_place k below (nat_lt k first) refl;
      apart = λ less same.
          run.apart (omega (arith, less, sum)) (there (0 + 2 * more) (0 + 2 * (first + more)) (omega arith) ∙ same);
    }
  where
    byte : (i at : ℕ) → 2 * first + i ≡ at → get_or rest i 0 ≡ get_or level at 0
    byte i at e = ap (λ (bytes : List ℕ). get_or bytes i 0) is ∙ get_or-drop (2 * first) level i 0 ∙ ap (λ (n : ℕ). get_or level n 0) e

    there : (i at : ℕ) → 2 * first + i ≡ at → pair_at rest i ≡ pair_at level at
    there i at e = ap₂ (λ (a b : ℕ). 256 * a + b) (byte i at e) (byte (i + 1) (at + 1) (omega (arith, e)))

    by_place : (k : ℕ) → k < first + more → (t : Bool) → nat_lt k first ≡ t → pair_at level (0 + 2 * k) ≡ weight
    by_place k below true test = are k (grind (arith, nat_tests))
    by_place k below false test =
        let from : first ≤ k = grind (arith, nat_tests) in
        sym (there (0 + 2 * (k - first)) (0 + 2 * k) (omega (arith, from))) ∙ run.are (k - first) (omega (arith, from, below))

-- ---- How a level compares

-- so many weights are the same
runs_to : (ws : List ℕ) (w count i : ℕ) → i ≤ length ws → i ≤ count → ((k : ℕ) → k < i → get_or ws k 0 ≡ w)
    → RunIs ws i w (count - i) (lexicographic ws (copies w count))
runs_to ws w count zero within fits are = let none : count - 0 ≡ count = omega arith in ap (λ (n : ℕ). lexicographic ws (copies w n)) none
runs_to ws w count (suc i) within fits are =
    let next : i + 1 ≡ suc i = omega arith in
    let less : count - i - 1 ≡ count - suc i = omega arith in
    subst₂ (λ (n m : ℕ). RunIs ws n w m (lexicographic ws (copies w count))) next less
    (same_weight ws i w (count - i) (lexicographic ws (copies w count)) (omega (arith, within)) (λ none. omega (arith, none, fits)) (are i (omega arith))
    (runs_to ws w count i (omega (arith, within)) (omega (arith, fits)) (λ k below. are k (omega (arith, below)))))

-- a weight by its number, and its place as that of a run says it
from_first : (level : List ℕ) (k : ℕ) → 2 * k + 1 < length level → get_or (weights_in level) k 0 ≡ pair_at level (0 + 2 * k)
from_first level k within = let same : 2 * k ≡ 0 + 2 * k = omega arith in weight_in level k within ∙ ap (pair_at level) same

-- another weight decides
pub other_decides : (level : List ℕ) (w count run : ℕ) → AreWeightBytes level → IsPairRun level w 0 (length level / 2) run
    → run < length level / 2 → run < count
    → nat_cmp (pair_at level (2 * run)) w ≡ lexicographic (weights_in level) (copies w count)
other_decides level w count run whole found within few =
    let half = half_of level whole in
    let there : get_or (weights_in level) run 0 ≡ pair_at level (2 * run) = weight_in level run (omega (arith, within)) in
    ap (λ (n : ℕ). nat_cmp n w) (sym there)
    ∙ other_weight (weights_in level) run w (count - run) (lexicographic (weights_in level) (copies w count)) (omega (arith, within, half)) (λ none. omega (arith, none, few))
    (λ same. found.apart within (sym (from_first level run (omega (arith, within))) ∙ same))
    (runs_to (weights_in level) w count run (omega (arith, within, half)) (omega (arith, few))
    (λ k below. from_first level k (omega (arith, within, below)) ∙ found.are k below))

-- else the lengths do
pub lengths_decide : (level : List ℕ) (w count run : ℕ) → AreWeightBytes level → IsPairRun level w 0 (length level / 2) run
    → (length level / 2 ≤ run) ⊎ (count ≤ run)
    → nat_cmp (length level / 2) count ≡ lexicographic (weights_in level) (copies w count)
lengths_decide level w count run whole found end =
    let half = half_of level whole in
    ap (λ (n : ℕ). nat_cmp n count) half ∙ by_len (nat_lt count (length (weights_in level))) refl (nat_eq count (length (weights_in level))) refl
  where
    all : Ordering
    all = lexicographic (weights_in level) (copies w count)

    same : (k : ℕ) → k < run → get_or (weights_in level) k 0 ≡ w
    same k below = let within = found.within in from_first level k (omega (arith, within, below)) ∙ found.are k below

    by_len : (t : Bool) → nat_lt count (length (weights_in level)) ≡ t → (e : Bool) → nat_eq count (length (weights_in level)) ≡ e
        → nat_cmp (length (weights_in level)) count ≡ all
    by_len true more e is =
        let half = half_of level whole in
        let lt : count < length (weights_in level) = grind (arith, nat_tests) in
        let to : count ≤ run = ⊎_elim (λ le. omega (arith, le, half, lt)) (λ le. le) end in
        let none : count - count ≡ 0 = omega arith in
        cmp_greater (length (weights_in level)) count lt
        ∙ longer_level (weights_in level) count w (count - count) all lt none
        (runs_to (weights_in level) w count count (omega (arith, lt)) (omega arith) (λ k below. same k (omega (arith, below, to))))
    by_len false most true is =
        let half = half_of level whole in
        let equal : count ≡ length (weights_in level) = grind (arith, nat_tests) in
        let to : count ≤ run = ⊎_elim (λ le. omega (arith, le, half, equal)) (λ le. le) end in
        let none : count - count ≡ 0 = omega arith in
        let runs = runs_to (weights_in level) w count count (omega (arith, equal)) (omega arith) (λ k below. same k (omega (arith, below, to))) in
        cmp_equal (length (weights_in level)) count (sym equal)
        ∙ ap (λ (ws : List ℕ). lexicographic ws []) (sym (drop_all count (weights_in level) (omega (arith, equal))))
        ∙ ap (λ (n : ℕ). lexicographic (drop count (weights_in level)) (copies w n)) (sym none) ∙ runs
    by_len false most false is =
        let half = half_of level whole in
        let apart : count ≢ length (weights_in level) = grind (arith, nat_tests) in
        let le : length (weights_in level) ≤ count = grind (arith, nat_tests) in
        let lt : length (weights_in level) < count = omega (arith, apart, le) in
        let to : length (weights_in level) ≤ run = ⊎_elim (λ few. omega (arith, few, half)) (λ few. omega (arith, few, lt)) end in
        let n = length (weights_in level) in
        cmp_less n count lt
        ∙ shorter_level (weights_in level) n w (count - n) all (omega arith) (λ none. omega (arith, none, lt))
        (runs_to (weights_in level) w count n (omega arith) (omega (arith, lt)) (λ k below. same k (omega (arith, below, to))))

-- ---- A later level

-- no weight is before the first
none_up_to : (level : List ℕ) → AreWeightBytes level → AreUpTo level level 0 []
none_up_to level are = let whole = are.whole in record { size = omega arith; within = omega arith; even = refl; whole = omega (arith, whole); upto = refl }

-- one weight more is before the next position
one_up_to : (level rest ws : List ℕ) (at w : ℕ) → AreUpTo level rest at ws → at < length rest → w ≡ pair_at rest at → AreUpTo level rest (at + 2) (ws ++ w ∷ [])
one_up_to level rest ws at w before inside is =
    let size = before.size in
    let even = before.even in
    let whole = before.whole in
    let longer : length (ws ++ w ∷ []) ≡ length ws + 1 = length-append ws (w ∷ []) in
    let later = weights_in (drop (at + 2) rest) in
    record {
      size = omega (arith, longer, size);
      within = omega (arith, inside, even, whole);
      even = omega (arith, even);
      whole = whole;
      upto = append_assoc ws (w ∷ []) later
          ∙ ap (λ (n : ℕ). ws ++ n ∷ later) is
          ∙ ap (λ (bytes : List ℕ). ws ++ weights_in bytes) (sym (two_at rest at (omega (arith, inside, even, whole))))
          ∙ before.upto;
    }

-- the weight there is not 0
pub some_later : (level rest ws : List ℕ) (at : ℕ) → AreWeightBytes level → AreUpTo level rest at ws → at < length rest → 0 < pair_at rest at
some_later level rest ws at are before inside =
    let even = before.even in
    let whole = before.whole in
    among ws (weights_in (drop (at + 2) rest)) (pair_at rest at)
    (subst (AllByRecursion (λ (v : ℕ). 0 < v))
    (sym (ap (λ (bytes : List ℕ). ws ++ weights_in bytes) (sym (two_at rest at (omega (arith, inside, even, whole)))) ∙ before.upto)) are.some)

-- nothing was put yet
none_later : (f : Form) (end : ℕ) (level front : List ℕ) → AreWeightBytes level → 0 < f.longest → IsLaterTo f end level level front front 0 0
none_later f end level front are some = record { weights = []; before = none_up_to level are; short = some; code = λ more. refl }

-- one weight more was put
pub one_later : (f : Form) (end : ℕ) (level rest front out new : List ℕ) (at run after w : ℕ) → IsLaterTo f end level rest front out at run
    → at < length rest → w ≡ pair_at rest at
    → new ≡ out ++ written f run w (nat_cmp w f.common) → after ≡ run_after f run (nat_cmp w f.common) → after < f.longest
    → IsLaterTo f end level rest front new (at + 2) after
one_later f end level rest front out new at run after w so_far inside is added runs short =
    let ws = so_far.weights in
    record {
      weights = ws ++ w ∷ [];
      before = one_up_to level rest ws at w so_far.before inside is;
      short = short;
      code = λ more.
          ap (λ (xs : List ℕ). xs ++ level_code f end after more) added
          ∙ append_assoc out (written f run w (nat_cmp w f.common)) (level_code f end after more)
          ∙ ap (λ (n : ℕ). out ++ (written f run w (nat_cmp w f.common) ++ level_code f end n more)) runs
          ∙ so_far.code (w ∷ more)
          ∙ ap (λ (xs : List ℕ). front ++ level_code f end 0 xs) (sym (append_assoc ws (w ∷ []) more));
    }

-- one common weight more makes a run longer
common_later : (f : Form) (end : ℕ) (level rest front out : List ℕ) (at run : ℕ) → IsLaterTo f end level rest front out at run → at < length rest
    → pair_at rest at ≡ f.common → run + 1 < f.longest → IsLaterTo f end level rest front out (at + 2) (run + 1)
common_later f end level rest front out at run so_far inside is short =
    let equal = cmp_equal f.common f.common refl in
    let test : nat_eq (suc run) f.longest ≡ false = grind (arith, nat_tests) in
    let next : suc run ≡ run + 1 = omega arith in
    one_later f end level rest front out out at run (run + 1) f.common so_far inside (sym is)
    (sym (ap (λ (o : Ordering). out ++ written f run f.common o) equal ∙ ap (λ (t : Bool). out ++ (if t then full f ∷ [] else [])) test ∙ append-nil out))
    (sym (ap (run_after f run) equal ∙ ap (λ (t : Bool). if t then 0 else suc run) test ∙ next))
    short

-- so many more do
pub run_later : (f : Form) (end : ℕ) (level rest front out : List ℕ) (at run more : ℕ) → IsLaterTo f end level rest front out at run
    → ((k : ℕ) → k < more → pair_at rest (at + 2 * k) ≡ f.common) → at + 2 * more ≤ length rest → run + more < f.longest
    → IsLaterTo f end level rest front out (at + 2 * more) (run + more)
run_later f end level rest front out at run zero so_far are within short =
    let here : at ≡ at + 2 * 0 = omega arith in
    let same : run ≡ run + 0 = omega arith in
    subst₂ (IsLaterTo f end level rest front out) here same so_far
run_later f end level rest front out at run (suc n) so_far are within short =
    let next : at + 2 * n + 2 ≡ at + 2 * suc n = omega arith in
    let longer : run + n + 1 ≡ run + suc n = omega arith in
    subst₂ (IsLaterTo f end level rest front out) next longer
    (common_later f end level rest front out (at + 2 * n) (run + n)
    (run_later f end level rest front out at run n so_far (λ k below. are k (omega (arith, below))) (omega (arith, within)) (omega (arith, short)))
    (omega (arith, within)) (are n (omega arith)) (omega (arith, short)))

-- the run that the level begins with
pub begun_later : (f : Form) (end : ℕ) (level front : List ℕ) (run : ℕ) → AreWeightBytes level → ((k : ℕ) → k < run → pair_at level (0 + 2 * k) ≡ f.common)
    → 2 * run ≤ length level → run < f.longest → IsLaterTo f end level level front front (2 * run) run
begun_later f end level front run whole are within short =
    let here : 0 + 2 * run ≡ 2 * run = omega arith in
    let same : 0 + run ≡ run = omega arith in
    subst₂ (IsLaterTo f end level level front front) here same
    (run_later f end level level front front 0 0 run (none_later f end level front whole (omega (arith, short))) are (omega (arith, within)) (omega (arith, short)))

-- where the same bytes follow, so many do
pub as_many_follow : (rest also : List ℕ) (at there : ℕ) → drop there also ≡ drop at rest → at ≤ length rest → there ≤ length also
    → length also + at ≡ length rest + there
as_many_follow rest also at there same inside within =
    let so_many : length (drop there also) ≡ length (drop at rest) = ap (λ (bytes : List ℕ). length bytes) same in
    omega (arith, length-drop there also, length-drop at rest, so_many, inside, within)

-- another rest, where the same weights follow
pub moved_later : (f : Form) (end : ℕ) (level rest also front out : List ℕ) (at there run : ℕ) → IsLaterTo f end level rest front out at run
    → drop there also ≡ drop at rest → there ≤ length also → 2 * (there / 2) ≡ there → 2 * (length also / 2) ≡ length also
    → IsLaterTo f end level also front out there run
moved_later f end level rest also front out at there run so_far same within even whole =
    let size = so_far.before.size in
    let follow = as_many_follow rest also at there same so_far.before.within within in
    record {
      weights = so_far.weights;
      before = record {
        size = omega (arith, size, follow);
        within = within;
        even = even;
        whole = whole;
        upto = ap (λ (bytes : List ℕ). so_far.weights ++ weights_in bytes) same ∙ so_far.before.upto;
      };
      short = so_far.short;
      code = so_far.code;
    }

-- all weights were put, and the end
pub later_put : (f : Form) (end : ℕ) (level rest front out new : List ℕ) (at run : ℕ) → IsLaterTo f end level rest front out at run → length rest ≤ at
    → new ≡ out ++ (run * step f + end) ∷ [] → new ≡ front ++ level_code f end 0 (weights_in level)
later_put f end level rest front out new at run so_far last added =
    let ws = so_far.weights in
    let all : ws ≡ weights_in level = sym (append-nil ws) ∙ ap (λ (bytes : List ℕ). ws ++ weights_in bytes) (sym (drop_all at rest last)) ∙ so_far.before.upto in
    added ∙ so_far.code [] ∙ ap (λ (xs : List ℕ). front ++ level_code f end 0 xs) (append-nil ws ∙ all)
