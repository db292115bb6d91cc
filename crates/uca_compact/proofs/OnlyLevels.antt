-- A level is read only from the bytes that are written for it.
use Rattle.std.proofs.Common.{◌≡◌, ◌≢◌, ℕ, zero, suc, ◌+◌, ◌*◌, ◌-◌, ◌/◌, ◌%◌, ◌<◌, ◌≤◌, List, [], ◌∷◌, ◌++◌, Bool, true, false, cond, Option, Some, None, nat_eq, nat_lt, length, refl, ap, sym, subst, ◌∙◌, arith, append_assoc, append-nil}
use Rattle.std.specs.Ordering.{nat_cmp}
use Rattle.std.specs.declared.cmp.Ordering.{Ordering}
use Rattle.std.specs.declared.cmp.Ordering.TheVariants.{Less, Equal, Greater}
use Rattle.std.proofs.lemmas.Bool.Decides.{nat_tests}
use Rattle.std.proofs.lemmas.Nat.{div_below, mod_below, div-add-mod'}
use Rattle.uca_order.proofs.KeyOrder.{cmp_less, cmp_equal, cmp_greater}
use Rattle.uca_compact.specs.Forms.{Form, step, full, first_cell, IsForm, AreWeights}
use Rattle.uca_compact.specs.PlainLevels.{copies}
use Rattle.uca_compact.specs.CompactKeys.{cell, run_before_greater, run_after, written, level_code}
use Rattle.uca_compact.specs.inside.Reading.{ReadNumber, read_cell, ReadLevel, with_weights, with_weight, lesser_then, greater_then, longest_run_then, read_steps, read_level}
use Rattle.uca_compact.proofs.OnlyCells.{AreBytes, bytes_after, nothing, same_some, lesser_only, greater_only}

-- ---- Runs

-- a weight, by how it compares to the common one
pub weight_code : (f : Form) (end run w : ℕ) (ws : List ℕ) (o : Ordering) → nat_cmp w f.common ≡ o
    → level_code f end run (w ∷ ws) ≡ written f run w o ++ level_code f end (run_after f run o) ws
weight_code f end run w ws o is = ap (λ (p : Ordering). written f run w p ++ level_code f end (run_after f run p) ws) is

common_code : (f : Form) (end run : ℕ) (ws : List ℕ) (b : Bool) → nat_eq (suc run) f.longest ≡ b
    → level_code f end run (f.common ∷ ws) ≡ cond b (full f ∷ []) [] ++ level_code f end (cond b 0 (suc run)) ws
common_code f end run ws b is =
    weight_code f end run f.common ws Equal (cmp_equal f.common f.common refl)
    ∙ ap (λ (t : Bool). cond t (full f ∷ []) [] ++ level_code f end (cond t 0 (suc run)) ws) is

-- a run that is not the longest
run_code : (f : Form) (end run n : ℕ) (ws : List ℕ) → run + n < f.longest → level_code f end run (copies f.common n ++ ws) ≡ level_code f end (run + n) ws
run_code f end run zero ws h = let same : run ≡ run + 0 = omega arith in ap (λ (k : ℕ). level_code f end k ws) same
run_code f end run (suc n) ws h =
    let short : nat_eq (suc run) f.longest ≡ false = (let lt : suc run < f.longest = omega arith in grind (arith, nat_tests)) in
    let same : suc run + n ≡ run + suc n = omega arith in
    common_code f end run (copies f.common n ++ ws) false short
    ∙ run_code f end (suc run) n ws (omega arith)
    ∙ ap (λ (k : ℕ). level_code f end k ws) same

-- after no run
first_run : (f : Form) (end n : ℕ) (ws : List ℕ) → n < f.longest → level_code f end 0 (copies f.common n ++ ws) ≡ level_code f end n ws
first_run f end n ws h = let same : 0 + n ≡ n = omega arith in run_code f end 0 n ws (omega arith) ∙ ap (λ (k : ℕ). level_code f end k ws) same

-- the longest
longest_by : (f : Form) (end run n : ℕ) (ws : List ℕ) (b : Bool) → nat_eq (suc run) f.longest ≡ b → run + suc n ≡ f.longest
    → (suc run + n ≡ f.longest → 0 < n → level_code f end (suc run) (copies f.common n ++ ws) ≡ full f ∷ level_code f end 0 ws)
    → level_code f end run (f.common ∷ (copies f.common n ++ ws)) ≡ full f ∷ level_code f end 0 ws
longest_by f end run n ws true is h more =
    let none : n ≡ 0 = (let e : suc run ≡ f.longest = grind (arith, nat_tests) in omega arith) in
    common_code f end run (copies f.common n ++ ws) true is
    ∙ ap (λ (k : ℕ). full f ∷ level_code f end 0 (copies f.common k ++ ws)) none
longest_by f end run n ws false is h more =
    let other : 0 < n = (let e : suc run < f.longest = (let apart : suc run ≢ f.longest = grind (arith, nat_tests) in omega arith) in omega arith) in
    common_code f end run (copies f.common n ++ ws) false is ∙ more (omega arith) other

longest_code : (f : Form) (end run n : ℕ) (ws : List ℕ) → run + n ≡ f.longest → 0 < n
    → level_code f end run (copies f.common n ++ ws) ≡ full f ∷ level_code f end 0 ws
longest_code f end run zero ws h some = absurd (omega arith)
longest_code f end run (suc n) ws h some =
    longest_by f end run n ws (nat_eq (suc run) f.longest) refl h (longest_code f end (suc run) n ws)

-- ---- Weights

pub weights_append : (xs ys : List ℕ) → AreWeights xs → AreWeights ys → AreWeights (xs ++ ys)
weights_append [] ys a b = b
weights_append (x ∷ xs) ys a b = (a.0, weights_append xs ys a.1 b)

-- a run of a common weight
run_weights : (f : Form) → IsForm f → 0 < f.common → (n : ℕ) → AreWeights (copies f.common n)
run_weights f form some zero = tt
run_weights f form some (suc n) = ((some, form.common), run_weights f form some n)

short_by : (f : Form) → IsForm f → (n : ℕ) (b : Bool) → nat_eq f.common 0 ≡ b → n < f.longest → AreWeights (copies f.common n)
short_by f form n false is h = run_weights f form (grind (arith, nat_tests)) n
short_by f form zero true is h = tt
short_by f form (suc n) true is h =
    let none : f.common ≡ 0 = grind (arith, nat_tests) in
    let one : f.longest ≡ 1 = form.no_common none in
    absurd (omega (arith, one))

short_weights : (f : Form) → IsForm f → (n : ℕ) → n < f.longest → AreWeights (copies f.common n)
short_weights f form n h = short_by f form n (nat_eq f.common 0) refl h

-- ---- What is read

-- a level that was read is one that was written
pub record IsWritten (f : Form) (bytes : List ℕ) (r : ReadLevel) : Type 0 where
  pub weights : AreWeights r.weights
  pub end : r.end < f.ends
  pub is : bytes ≡ level_code f r.end 0 r.weights ++ r.rest

-- of fewer steps this is known
abbrev AreWritten : Form → ℕ → Type 0
AreWritten f s = (bytes : List ℕ) → AreBytes bytes → (r : ReadLevel) → read_steps f s bytes ≡ Some r → IsWritten f bytes r

-- weights before others
abbrev joined_level : List ℕ → ReadLevel → ReadLevel
joined_level front later = record { weights = front ++ later.weights; end = later.end; rest = later.rest }

-- a run and a weight, which are written so, before a level
weight_written : (f : Form) (front : List ℕ) (bytes : List ℕ) (found : Option ReadNumber) (s : ℕ) (r : ReadLevel) (o : Option ReadLevel)
    → AreWritten f s → (x : ReadNumber) → found ≡ Some x → read_steps f s x.1 ≡ o → AreBytes x.1 → AreWeights (front ++ x.0 ∷ [])
    → ((end : ℕ) (ws rest : List ℕ) → x.1 ≡ level_code f end 0 ws ++ rest → bytes ≡ level_code f end 0 ((front ++ x.0 ∷ []) ++ ws) ++ rest)
    → with_weights (front ++ x.0 ∷ []) o ≡ Some r → IsWritten f bytes r
weight_written f front bytes found s r None known x is later are weights code h = nothing h
weight_written f front bytes found s r (Some l) known x is later are weights code h =
    let more = known x.1 are l later in
    subst (λ (y : ReadLevel). IsWritten f bytes y) (same_some (joined_level (front ++ x.0 ∷ []) l) r h)
    (record { weights = weights_append (front ++ x.0 ∷ []) l.weights weights more.weights; end = more.end; is = code l.end l.weights l.rest more.is })

-- a run and its weight, before what follows
front_code : (f : Form) (end n w : ℕ) (ws rest : List ℕ) (o : Ordering) → n < f.longest → nat_cmp w f.common ≡ o
    → level_code f end 0 ((copies f.common n ++ w ∷ []) ++ ws) ++ rest ≡ (written f n w o ++ level_code f end (run_after f n o) ws) ++ rest
front_code f end n w ws rest o short is =
    ap (λ (xs : List ℕ). level_code f end 0 xs ++ rest) (append_assoc (copies f.common n) (w ∷ []) ws)
    ∙ ap (λ (xs : List ℕ). xs ++ rest) (first_run f end n (w ∷ ws) short ∙ weight_code f end n w ws o is)

-- the bytes of a cell and of a level
cell_then : (number : ℕ) (bytes : List ℕ) (code tail level rest : List ℕ) → number ∷ bytes ≡ code ++ tail → tail ≡ level ++ rest
    → number ∷ bytes ≡ (code ++ level) ++ rest
cell_then number bytes code tail level rest is more = is ∙ ap (λ (xs : List ℕ). code ++ xs) more ∙ sym (append_assoc code level rest)

-- a lesser weight
lesser_written : (f : Form) → IsForm f → (s n b number : ℕ) (bytes : List ℕ) (r : ReadLevel) (o : Option ReadNumber) → AreWritten f s
    → n < f.longest → b ≡ n * step f + f.ends → AreBytes (number ∷ bytes) → read_cell 0 1 f.lesser f.common number bytes ≡ o
    → with_weight (copies f.common n) o (read_steps f s) ≡ Some r → IsWritten f (b ∷ number ∷ bytes) r
lesser_written f form s n b number bytes r None known short code are is h = nothing h
lesser_written f form s n b number bytes r (Some x) known short code are is h =
    let found = lesser_only f form number bytes x are.1 is in
    let rest : AreBytes x.1 = bytes_after (cell 0 1 f.lesser f.common x.0) x.1 (subst AreBytes found.is are) in
    weight_written f (copies f.common n) (b ∷ number ∷ bytes) (Some x) s r (read_steps f s x.1) known x refl refl rest
    (weights_append (copies f.common n) (x.0 ∷ []) (short_weights f form n short) ((omega (arith, found.from), omega (arith, found.under, form.common)), tt))
    (λ end ws more is_more. ap (λ (k : ℕ). k ∷ number ∷ bytes) code
    ∙ ap (λ (xs : List ℕ). (n * step f + f.ends) ∷ xs) (cell_then number bytes (cell 0 1 f.lesser f.common x.0) x.1 (level_code f end 0 ws) more found.is is_more)
    ∙ sym (front_code f end n x.0 ws more Less short (cmp_less x.0 f.common found.under))) h

-- a greater weight, after what is written for the run
greater_written : (f : Form) → IsForm f → (s n number : ℕ) (front bytes : List ℕ) (r : ReadLevel) (o : Option ReadNumber) → AreWritten f s
    → n < f.longest → front ≡ run_before_greater f n → AreBytes (number ∷ bytes)
    → read_cell (first_cell f) (suc f.common) f.greater 65536 number bytes ≡ o
    → with_weight (copies f.common n) o (read_steps f s) ≡ Some r → IsWritten f (front ++ number ∷ bytes) r
greater_written f form s n number front bytes r None known short code are is h = nothing h
greater_written f form s n number front bytes r (Some x) known short code are is h =
    let found = greater_only f form number bytes x are.1 is in
    let cells = cell (first_cell f) (suc f.common) f.greater 65536 x.0 in
    let rest : AreBytes x.1 = bytes_after cells x.1 (subst AreBytes found.is are) in
    weight_written f (copies f.common n) (front ++ number ∷ bytes) (Some x) s r (read_steps f s x.1) known x refl refl rest
    (weights_append (copies f.common n) (x.0 ∷ []) (short_weights f form n short) ((omega (arith, found.from), found.under), tt))
    (λ end ws more is_more. ap (λ (xs : List ℕ). xs ++ number ∷ bytes) code
    ∙ ap (λ (xs : List ℕ). run_before_greater f n ++ xs) (cell_then number bytes cells x.1 (level_code f end 0 ws) more found.is is_more)
    ∙ sym (append_assoc (run_before_greater f n) (cells ++ level_code f end 0 ws) more)
    ∙ ap (λ (xs : List ℕ). xs ++ more) (sym (append_assoc (run_before_greater f n) cells (level_code f end 0 ws)))
    ∙ sym (front_code f end n x.0 ws more Greater short (cmp_greater x.0 f.common (omega (arith, found.from))))) h

-- the longest run
longest_written : (f : Form) → IsForm f → (b : ℕ) (bytes : List ℕ) (r : ReadLevel) (s : ℕ) (o : Option ReadLevel) → AreWritten f s → AreBytes bytes → b ≡ full f
    → 0 < f.common → read_steps f s bytes ≡ o → with_weights (copies f.common f.longest) o ≡ Some r → IsWritten f (b ∷ bytes) r
longest_written f form b bytes r s None known are code some is h = nothing h
longest_written f form b bytes r s (Some l) known are code some is h =
    let more = known bytes are l is in
    subst (λ (y : ReadLevel). IsWritten f (b ∷ bytes) y) (same_some (joined_level (copies f.common f.longest) l) r h)
    (record {
      weights = weights_append (copies f.common f.longest) l.weights (run_weights f form some f.longest) more.weights;
      end = more.end;
      is = ap (λ (k : ℕ). k ∷ bytes) code ∙ ap (λ (xs : List ℕ). full f ∷ xs) more.is
          ∙ ap (λ (xs : List ℕ). xs ++ l.rest) (sym (longest_code f l.end 0 f.longest l.weights (omega arith) form.longest));
    })

longest_test : (f : Form) → IsForm f → (b : ℕ) (bytes : List ℕ) (r : ReadLevel) (s : ℕ) (t : Bool) → nat_eq f.common 0 ≡ t → AreWritten f s → AreBytes bytes → b ≡ full f
    → cond t None (with_weights (copies f.common f.longest) (read_steps f s bytes)) ≡ Some r → IsWritten f (b ∷ bytes) r
longest_test f form b bytes r s true is known are code h = nothing h
longest_test f form b bytes r s false is known are code h =
    longest_written f form b bytes r s (read_steps f s bytes) known are code (grind (arith, nat_tests)) refl h

-- the end of a level
end_written : (f : Form) → IsForm f → (b : ℕ) (bytes : List ℕ) (r : ReadLevel) → b < full f → b % step f < f.ends
    → Some (record { weights = copies f.common (b / step f); end = b % step f; rest = bytes }) ≡ Some r → IsWritten f (b ∷ bytes) r
end_written f form b bytes r below ends h =
    let run = b / step f in
    let end = b % step f in
    let short : run < f.longest = div_below b (step f) f.longest (omega arith) below in
    let code : run * step f + end ≡ b = div-add-mod' b (step f) in
    let all : level_code f end 0 (copies f.common run) ≡ (run * step f + end) ∷ [] =
    ap (level_code f end 0) (sym (append-nil (copies f.common run))) ∙ first_run f end run [] short in
    subst (λ (y : ReadLevel). IsWritten f (b ∷ bytes) y) (same_some (record { weights = copies f.common run; end = end; rest = bytes }) r h)
    (record {
      weights = short_weights f form run short;
      end = ends;
      is = ap (λ (k : ℕ). k ∷ bytes) (sym code) ∙ ap (λ (xs : List ℕ). xs ++ bytes) (sym all);
    })

-- a run before a lesser weight
lesser_test : (f : Form) → IsForm f → (s b : ℕ) (bytes : List ℕ) (r : ReadLevel) → AreWritten f s → AreBytes bytes → b < full f → f.ends ≤ b % step f
    → lesser_then f (copies f.common (b / step f)) bytes (read_steps f s) ≡ Some r → IsWritten f (b ∷ bytes) r
lesser_test f form s b [] r known are below last h = nothing h
lesser_test f form s b (number ∷ bytes) r known are below last h =
    let short : b / step f < f.longest = div_below b (step f) f.longest (omega arith) below in
    let most : b % step f < step f = mod_below b (step f) (omega arith) in
    let is_last : b % step f ≡ f.ends = omega arith in
    let code : b ≡ b / step f * step f + f.ends = sym (div-add-mod' b (step f)) ∙ ap (λ (k : ℕ). b / step f * step f + k) is_last in
    lesser_written f form s (b / step f) b number bytes r (read_cell 0 1 f.lesser f.common number bytes) known short code are refl h

-- a run before a greater one
run_test : (f : Form) → IsForm f → (s b : ℕ) (bytes : List ℕ) (r : ReadLevel) (n : ℕ) → first_cell f - b ≡ n → AreWritten f s → AreBytes bytes → full f < b → b < first_cell f
    → greater_then f (copies f.common n) bytes (read_steps f s) ≡ Some r → IsWritten f (b ∷ bytes) r
run_test f form s b [] r n is known are above below h = nothing h
run_test f form s b (number ∷ bytes) r zero is known are above below h = absurd (omega arith)
run_test f form s b (number ∷ bytes) r (suc n) is known are above below h =
    let code : b ≡ first_cell f - suc n = omega arith in
    greater_written f form s (suc n) number (b ∷ []) bytes r (read_cell (first_cell f) (suc f.common) f.greater 65536 number bytes) known (omega arith)
    (ap (λ (k : ℕ). k ∷ []) code) are refl h

-- a step, by its tests
step_by : (f : Form) → IsForm f → (s b : ℕ) (bytes : List ℕ) (r : ReadLevel) (below ends full_run before : Bool) → AreWritten f s → AreBytes (b ∷ bytes)
    → nat_lt b (full f) ≡ below → nat_lt (b % step f) f.ends ≡ ends → nat_eq b (full f) ≡ full_run → nat_lt b (first_cell f) ≡ before
    → cond below
    (cond ends (Some (record { weights = copies f.common (b / step f); end = b % step f; rest = bytes })) (lesser_then f (copies f.common (b / step f)) bytes (read_steps f s)))
    (cond full_run (longest_run_then f (read_steps f s bytes))
    (cond before (greater_then f (copies f.common (first_cell f - b)) bytes (read_steps f s)) (greater_then f [] (b ∷ bytes) (read_steps f s)))) ≡ Some r
    → IsWritten f (b ∷ bytes) r
step_by f form s b bytes r true true full_run before known are p q t u h = end_written f form b bytes r (grind (arith, nat_tests)) (grind (arith, nat_tests)) h
step_by f form s b bytes r true false full_run before known are p q t u h =
    lesser_test f form s b bytes r known are.1 (grind (arith, nat_tests)) (grind (arith, nat_tests)) h
step_by f form s b bytes r false ends true before known are p q t u h =
    longest_test f form b bytes r s (nat_eq f.common 0) refl known are.1 (grind (arith, nat_tests)) h
step_by f form s b bytes r false ends false true known are p q t u h =
    let from : full f ≤ b = grind (arith, nat_tests) in
    let apart : b ≢ full f = grind (arith, nat_tests) in
    run_test f form s b bytes r (first_cell f - b) refl known are.1 (omega arith) (grind (arith, nat_tests)) h
step_by f form s b bytes r false ends false false known are p q t u h =
    greater_written f form s 0 b [] bytes r (read_cell (first_cell f) (suc f.common) f.greater 65536 b bytes) known form.longest refl are refl h

-- all steps
pub steps_only : (f : Form) → IsForm f → (s : ℕ) → AreWritten f s
steps_only f form zero bytes are r h = nothing h
steps_only f form (suc s) [] are r h = nothing h
steps_only f form (suc s) (b ∷ bytes) are r h =
    step_by f form s b bytes r (nat_lt b (full f)) (nat_lt (b % step f) f.ends) (nat_eq b (full f)) (nat_lt b (first_cell f)) (steps_only f form s) are
    refl refl refl refl h

-- a level
pub level_only : (f : Form) → IsForm f → (bytes : List ℕ) → AreBytes bytes → (r : ReadLevel) → read_level f bytes ≡ Some r → IsWritten f bytes r
level_only f form bytes are r h = steps_only f form (length bytes) bytes are r h
