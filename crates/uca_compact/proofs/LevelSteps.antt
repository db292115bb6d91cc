-- Steps of reading a level.
use Rattle.std.proofs.Common.{◌≡◌, ◌≢◌, ℕ, zero, suc, ◌+◌, ◌-◌, ◌/◌, ◌%◌, ◌<◌, ◌≤◌, List, [], ◌∷◌, ◌++◌, Bool, true, false, cond, Option, Some, None, Result, Ok, Err, IfOk, nat_eq, nat_lt, length, get_or, replicate, take, drop, refl, ap, sym, ◌∙◌, arith, append_assoc}
use Rattle.std.proofs.lemmas.Bool.Decides.{nat_tests}
use Rattle.std.proofs.lemmas.List.{take_all}
use Rattle.uca_compact.specs.Forms.{Form, step, full, first_cell}
use Rattle.uca_compact.specs.PlainLevels.{copies}
use Rattle.uca_compact.specs.inside.Reading.{ReadNumber, ReadLevel, with_weights, with_weight, lesser_then, greater_then, longest_run_then, read_steps, read_level}
use Rattle.uca_compact.specs.inside.LevelSteps.{CellRow, next_in, lesser_row, greater_row, after_step, low_then, high_then}
use Rattle.uca_compact.specs.declared.level_reader.Step.{Step}

-- ---- Runs

-- the same weight so many times
copies_are : (w n : ℕ) → replicate n w ≡ copies w n
copies_are w zero = refl
copies_are w (suc n) = ap (λ (ws : List ℕ). w ∷ ws) (copies_are w n)

-- it is added to others
pub copies_added : (old new : List ℕ) (w count before len : ℕ) → before ≡ length old → len ≡ before + count → new ≡ take len old ++ replicate (len - before) w
    → new ≡ old ++ copies w count
copies_added old new w count before len is more made =
    let left : len - before ≡ count = omega arith in
    made ∙ ap (λ (ws : List ℕ). ws ++ replicate (len - before) w) (take_all len old (omega arith))
    ∙ ap (λ (n : ℕ). old ++ replicate n w) left ∙ ap (λ (ws : List ℕ). old ++ ws) (copies_are w count)

-- ---- A run and a weight

-- weights before others that come before a level
pub before_twice : (a b : List ℕ) (o : Option ReadLevel) → with_weights (a ++ b) o ≡ with_weights a (with_weights b o)
before_twice a b None = refl
before_twice a b (Some r) = ap (λ (xs : List ℕ). Some (record { weights = xs; end = r.end; rest = r.rest })) (append_assoc a b r.weights)

-- a run, and what is read after it
pub run_added : (out new : List ℕ) (c n : ℕ) (o : Option ReadLevel) → new ≡ out ++ copies c n → with_weights new o ≡ with_weights out (with_weights (copies c n) o)
run_added out new c n o is = ap (λ (xs : List ℕ). with_weights xs o) is ∙ before_twice out (copies c n) o

-- a run and a weight
pub weight_added : (out front new : List ℕ) (c n w : ℕ) (rest : List ℕ) (found : Option ReadNumber) (more : List ℕ → Option ReadLevel)
    → Some (w, rest) ≡ found → front ≡ out ++ copies c n → new ≡ front ++ w ∷ []
    → with_weights new (more rest) ≡ with_weights out (with_weight (copies c n) found more)
weight_added out front new c n w rest found more is run added =
    let all : new ≡ out ++ (copies c n ++ w ∷ []) = added ∙ ap (λ (xs : List ℕ). xs ++ w ∷ []) run ∙ append_assoc out (copies c n) (w ∷ []) in
    ap (λ (xs : List ℕ). with_weights xs (more rest)) all
    ∙ before_twice out (copies c n ++ w ∷ []) (more rest)
    ∙ ap (λ (o : Option ReadNumber). with_weights out (with_weight (copies c n) o more)) is

-- no weight
pub no_weight : (out front : List ℕ) (found : Option ReadNumber) (more : List ℕ → Option ReadLevel) → None ≡ found
    → None ≡ with_weights out (with_weight front found more)
no_weight out front found more is = ap (λ (o : Option ReadNumber). with_weights out (with_weight front o more)) is

-- ---- A code below that of a longest run

-- the end of a level
pub low_end : (f : Form) (code run end : ℕ) (bytes out new : List ℕ) (more : List ℕ → Option ReadLevel) → run ≡ code / step f → end ≡ code % step f
    → end < f.ends → new ≡ out ++ copies f.common run
    → Some (record { weights = new; end = end; rest = bytes }) ≡ with_weights out (low_then f code bytes more)
low_end f code run end bytes out new more is_run is_end under added =
    let test : nat_lt (code % step f) f.ends ≡ true = (let lt : code % step f < f.ends = omega (arith, is_end) in grind (arith, nat_tests)) in
    let all : new ≡ out ++ copies f.common (code / step f) = added ∙ ap (λ (n : ℕ). out ++ copies f.common n) is_run in
    ap (λ (xs : List ℕ). Some (record { weights = xs; end = end; rest = bytes })) all
    ∙ ap (λ (n : ℕ). Some (record { weights = out ++ copies f.common (code / step f); end = n; rest = bytes })) is_end
    ∙ ap (λ (t : Bool). with_weights out (cond t (Some (record { weights = copies f.common (code / step f); end = code % step f; rest = bytes }))
    (lesser_then f (copies f.common (code / step f)) bytes more))) (sym test)

-- what a step was read as
abbrev pub StepIs : {E : Type 0} → Result Step E → List ℕ → ((List ℕ → Option ReadLevel) → Option ReadLevel) → Type 0
StepIs r new is = IfOk r (λ taken. (more : List ℕ → Option ReadLevel) → after_step more new taken ≡ is more)

same_step : {E : Type 0} (r : Result Step E) (new : List ℕ) (is also : (List ℕ → Option ReadLevel) → Option ReadLevel)
    → ((more : List ℕ → Option ReadLevel) → is more ≡ also more) → StepIs r new is → StepIs r new also
same_step {E} (Ok taken) new is also same h = λ more. h more ∙ same more
same_step {E} (Err e) new is also same h = tt

-- a lesser weight
pub low_weight : {E : Type 0} (r : Result Step E) (f : Form) (row : CellRow) (code run end : ℕ) (bytes out new : List ℕ)
    → row ≡ lesser_row f → run ≡ code / step f → end ≡ code % step f → f.ends ≤ end
    → StepIs r new (λ more. with_weights out (with_weight (copies f.common run) (next_in row bytes) more))
    → StepIs r new (λ more. with_weights out (low_then f code bytes more))
low_weight {E} r f row code run end bytes out new is_row is_run is_end over =
    same_step r new (λ more. with_weights out (with_weight (copies f.common run) (next_in row bytes) more)) (λ more. with_weights out (low_then f code bytes more))
    (λ more.
    let test : nat_lt (code % step f) f.ends ≡ false = (let le : f.ends ≤ code % step f = omega (arith, is_end) in grind (arith, nat_tests)) in
    ap (λ (x : CellRow). with_weights out (with_weight (copies f.common run) (next_in x bytes) more)) is_row
    ∙ ap (λ (n : ℕ). with_weights out (lesser_then f (copies f.common n) bytes more)) is_run
    ∙ ap (λ (t : Bool). with_weights out (cond t (Some (record { weights = copies f.common (code / step f); end = code % step f; rest = bytes }))
    (lesser_then f (copies f.common (code / step f)) bytes more))) (sym test))

-- ---- The code of a longest run

pub longest_taken : (f : Form) (out new : List ℕ) (o : Option ReadLevel) → f.common ≢ 0 → new ≡ out ++ copies f.common f.longest
    → with_weights new o ≡ with_weights out (longest_run_then f o)
longest_taken f out new o some added =
    let test : nat_eq f.common 0 ≡ false = grind (arith, nat_tests) in
    run_added out new f.common f.longest o added
    ∙ ap (λ (t : Bool). with_weights out (cond t None (with_weights (copies f.common f.longest) o))) (sym test)

pub no_longest : (f : Form) (out : List ℕ) (o : Option ReadLevel) → f.common ≡ 0 → None ≡ with_weights out (longest_run_then f o)
no_longest f out o none =
    let test : nat_eq f.common 0 ≡ true = grind (arith, nat_tests) in
    ap (λ (t : Bool). with_weights out (cond t None (with_weights (copies f.common f.longest) o))) (sym test)

-- ---- A code above it

-- a run before a greater weight
pub high_run : {E : Type 0} (r : Result Step E) (f : Form) (row : CellRow) (code run : ℕ) (bytes out new : List ℕ)
    → row ≡ greater_row f → run ≡ row.number - code → code < row.number
    → StepIs r new (λ more. with_weights out (with_weight (copies f.common run) (next_in row bytes) more))
    → StepIs r new (λ more. with_weights out (high_then f code bytes more))
high_run {E} r f row code run bytes out new is_row is_run under =
    same_step r new (λ more. with_weights out (with_weight (copies f.common run) (next_in row bytes) more)) (λ more. with_weights out (high_then f code bytes more))
    (λ more.
    let first : row.number ≡ first_cell f = ap (λ (x : CellRow). x.number) is_row in
    let test : nat_lt code (first_cell f) ≡ true = (let lt : code < first_cell f = omega (arith, first, under) in grind (arith, nat_tests)) in
    ap (λ (x : CellRow). with_weights out (with_weight (copies f.common run) (next_in x bytes) more)) is_row
    ∙ ap (λ (n : ℕ). with_weights out (greater_then f (copies f.common n) bytes more)) (is_run ∙ ap (λ (n : ℕ). n - code) first)
    ∙ ap (λ (t : Bool). with_weights out (cond t (greater_then f (copies f.common (first_cell f - code)) bytes more) (greater_then f [] (code ∷ bytes) more))) (sym test))

-- a greater weight alone
pub high_weight : {E : Type 0} (r : Result Step E) (f : Form) (row : CellRow) (code : ℕ) (all bytes out new : List ℕ)
    → row ≡ greater_row f → row.number ≤ code → all ≡ code ∷ bytes
    → StepIs r new (λ more. with_weights out (with_weight (copies f.common 0) (next_in row all) more))
    → StepIs r new (λ more. with_weights out (high_then f code bytes more))
high_weight {E} r f row code all bytes out new is_row over is_all =
    same_step r new (λ more. with_weights out (with_weight (copies f.common 0) (next_in row all) more)) (λ more. with_weights out (high_then f code bytes more))
    (λ more.
    let first : row.number ≡ first_cell f = ap (λ (x : CellRow). x.number) is_row in
    let test : nat_lt code (first_cell f) ≡ false = (let le : first_cell f ≤ code = omega (arith, first, over) in grind (arith, nat_tests)) in
    ap (λ (x : CellRow). with_weights out (with_weight [] (next_in x all) more)) is_row
    ∙ ap (λ (xs : List ℕ). with_weights out (greater_then f [] xs more)) is_all
    ∙ ap (λ (t : Bool). with_weights out (cond t (greater_then f (copies f.common (first_cell f - code)) bytes more) (greater_then f [] (code ∷ bytes) more))) (sym test))

-- ---- A step

-- what a step of these bytes is read as
abbrev pub TakesStep : {E : Type 0} → Form → Result Step E → (out new bytes : List ℕ) → Type 0
TakesStep f r out new bytes = IfOk r (λ taken. (steps : ℕ) → after_step (read_steps f steps) new taken ≡ with_weights out (read_steps f (suc steps) bytes))

-- by the step of one kind
step_of : {E : Type 0} (f : Form) (r : Result Step E) (out new bytes : List ℕ) (is : (List ℕ → Option ReadLevel) → Option ReadLevel)
    → ((steps : ℕ) → read_steps f (suc steps) bytes ≡ is (read_steps f steps)) → StepIs r new (λ more. with_weights out (is more)) → TakesStep f r out new bytes
step_of {E} f (Ok taken) out new bytes is same h = λ steps. h (read_steps f steps) ∙ ap (with_weights out) (sym (same steps))
step_of {E} f (Err e) out new bytes is same h = tt

-- the tests on a code
by_tests : (f : Form) (steps code : ℕ) (bytes : List ℕ) (below longest : Bool) → nat_lt code (full f) ≡ below → nat_eq code (full f) ≡ longest
    → read_steps f (suc steps) (code ∷ bytes)
    ≡ cond below (low_then f code bytes (read_steps f steps)) (cond longest (longest_run_then f (read_steps f steps bytes)) (high_then f code bytes (read_steps f steps)))
by_tests f steps code bytes below longest one two =
    ap (λ (t : Bool). cond t (low_then f code bytes (read_steps f steps)) (cond (nat_eq code (full f)) (longest_run_then f (read_steps f steps bytes)) (high_then f code bytes (read_steps f steps)))) one
    ∙ ap (λ (t : Bool). cond below (low_then f code bytes (read_steps f steps)) (cond t (longest_run_then f (read_steps f steps bytes)) (high_then f code bytes (read_steps f steps)))) two

pub low_taken : {E : Type 0} (f : Form) (r : Result Step E) (code longest : ℕ) (all bytes out new : List ℕ) → all ≡ code ∷ bytes → longest ≡ full f → code < longest
    → StepIs r new (λ more. with_weights out (low_then f code bytes more)) → TakesStep f r out new all
low_taken {E} f r code longest all bytes out new is_all is_longest under =
    step_of f r out new all (low_then f code bytes)
    (λ steps.
    let test : nat_lt code (full f) ≡ true = (let lt : code < full f = omega (arith, is_longest, under) in grind (arith, nat_tests)) in
    ap (read_steps f (suc steps)) is_all ∙ by_tests f steps code bytes true (nat_eq code (full f)) test refl)

pub full_taken : {E : Type 0} (f : Form) (r : Result Step E) (code longest : ℕ) (all bytes out new : List ℕ) → all ≡ code ∷ bytes → longest ≡ full f → code ≡ longest
    → StepIs r new (λ more. with_weights out (longest_run_then f (more bytes))) → TakesStep f r out new all
full_taken {E} f r code longest all bytes out new is_all is_longest same =
    step_of f r out new all (λ more. longest_run_then f (more bytes))
    (λ steps.
    let below : nat_lt code (full f) ≡ false = (let le : full f ≤ code = omega (arith, is_longest, same) in grind (arith, nat_tests)) in
    let test : nat_eq code (full f) ≡ true = (let e : code ≡ full f = omega (arith, is_longest, same) in grind (arith, nat_tests)) in
    ap (read_steps f (suc steps)) is_all ∙ by_tests f steps code bytes false true below test)

pub high_taken : {E : Type 0} (f : Form) (r : Result Step E) (code longest : ℕ) (all bytes out new : List ℕ) → all ≡ code ∷ bytes → longest ≡ full f → longest < code
    → StepIs r new (λ more. with_weights out (high_then f code bytes more)) → TakesStep f r out new all
high_taken {E} f r code longest all bytes out new is_all is_longest over =
    step_of f r out new all (high_then f code bytes)
    (λ steps.
    let below : nat_lt code (full f) ≡ false = (let le : full f ≤ code = omega (arith, is_longest, over) in grind (arith, nat_tests)) in
    let test : nat_eq code (full f) ≡ false = (let lt : full f < code = omega (arith, is_longest, over) in grind (arith, nat_tests)) in
    ap (read_steps f (suc steps)) is_all ∙ by_tests f steps code bytes false false below test)

-- a step, by what it was
pub step_known : (f : Form) (out new rest : List ℕ) (taken known : Step) → taken ≡ known
    → ((steps : ℕ) → after_step (read_steps f steps) new taken ≡ with_weights out (read_steps f (suc steps) rest))
    → (steps : ℕ) → after_step (read_steps f steps) new known ≡ with_weights out (read_steps f (suc steps) rest)
step_known f out new rest taken known is h = λ steps. ap (after_step (read_steps f steps) new) (sym is) ∙ h steps

-- the first byte, and those after it
pub first_rest : (bytes : List ℕ) (first : ℕ) → 1 ≤ length bytes → first ≡ get_or bytes 0 0 → bytes ≡ first ∷ take (length bytes - 1) (drop 1 bytes)
first_rest [] first some is = absurd (omega arith)
first_rest (b ∷ bytes) first some is =
    ap (λ (xs : List ℕ). b ∷ xs) (sym (take_all (suc (length bytes) - 1) bytes (omega arith)))
    ∙ ap (λ (n : ℕ). n ∷ take (suc (length bytes) - 1) bytes) (sym is)

-- ---- A level

-- these weights of the level were read, and these bytes are left
pub record IsUnderWay (f : Form) (bytes ws rest : List ℕ) : Type 0 where
  pub steps : ℕ
  pub enough : length rest ≤ steps
  pub is : with_weights ws (read_steps f steps rest) ≡ read_level f bytes

-- before no weights nothing changes
no_weights : (o : Option ReadLevel) → with_weights [] o ≡ o
no_weights None = refl
no_weights (Some r) = refl

pub begun : (f : Form) (bytes ws : List ℕ) → ws ≡ [] → IsUnderWay f bytes ws bytes
begun f bytes ws none =
    record {
      steps = length bytes;
      enough = omega arith;
      is = ap (λ (xs : List ℕ). with_weights xs (read_level f bytes)) none ∙ no_weights (read_level f bytes);
    }

-- there is a step left, or nothing to read
last_step : (f : Form) (steps : ℕ) (rest : List ℕ) → length rest ≤ steps → read_steps f (suc (steps - 1)) rest ≡ read_steps f steps rest
last_step f zero [] h = refl
last_step f zero (b ∷ rest) h = absurd (omega arith)
last_step f (suc steps) rest h = let back : suc steps - 1 ≡ steps = omega arith in ap (λ (n : ℕ). read_steps f (suc n) rest) back

-- weights were read
pub gone_on : (f : Form) (bytes ws rest new after : List ℕ) → IsUnderWay f bytes ws rest → length after < length rest
    → ((steps : ℕ) → with_weights new (read_steps f steps after) ≡ with_weights ws (read_steps f (suc steps) rest)) → IsUnderWay f bytes new after
gone_on f bytes ws rest new after so_far less taken =
    record {
      steps = so_far.steps - 1;
      enough = omega (arith, so_far.enough, less);
      is = taken (so_far.steps - 1) ∙ ap (with_weights ws) (last_step f so_far.steps rest so_far.enough) ∙ so_far.is;
    }

-- the level ended, or is none
pub read_out : (f : Form) (bytes ws rest : List ℕ) (o : Option ReadLevel) → IsUnderWay f bytes ws rest
    → ((steps : ℕ) → o ≡ with_weights ws (read_steps f (suc steps) rest)) → o ≡ read_level f bytes
read_out f bytes ws rest o so_far taken =
    taken (so_far.steps - 1) ∙ ap (with_weights ws) (last_step f so_far.steps rest so_far.enough) ∙ so_far.is
