-- A level is read back.
use Rattle.std.proofs.Common.{◌≡◌, inl, inr, ℕ, zero, suc, ◌+◌, ◌*◌, ◌-◌, ◌/◌, ◌%◌, ◌<◌, ◌≤◌, List, [], ◌∷◌, ◌++◌, Bool, true, false, cond, Option, Some, None, nat_eq, nat_lt, length, refl, ap, sym, subst, ◌∙◌, arith, append_assoc, append-nil}
use Rattle.std.specs.Ordering.{nat_cmp}
use Rattle.std.specs.declared.cmp.Ordering.{Ordering}
use Rattle.std.specs.declared.cmp.Ordering.TheVariants.{Less, Equal, Greater}
use Rattle.std.proofs.lemmas.Bool.Decides.{nat_tests}
use Rattle.std.proofs.lemmas.Nat.{div-mul-add, mod-mul-add}
use Rattle.uca_compact.specs.Forms.{Form, step, full, first_cell, AreRising, IsForm, AreWeights}
use Rattle.uca_compact.specs.PlainLevels.{copies}
use Rattle.uca_compact.specs.CompactKeys.{offset_bytes, cell, run_after, written, level_code}
use Rattle.uca_compact.specs.inside.Reading.{ReadNumber, one_byte, two_bytes, read_offset, weight_within, read_cell, ReadLevel, with_weights, with_weight, lesser_then, greater_then, read_steps, read_level}
use Rattle.uca_compact.proofs.CellOrder.{cell_from}
use Rattle.uca_compact.proofs.RunOrder.{room, run_stays_short}

-- ---- Cells

-- an offset, by the tests on the width of its cell
offset_by : (width a : ℕ) (rest : List ℕ) (single one : Bool) → nat_lt width 2 ≡ single → nat_lt width 257 ≡ one → a < width
    → cond single (Some (0, cond single [] (cond one (a ∷ []) (a / 256 ∷ a % 256 ∷ [])) ++ rest)) (cond one (one_byte (cond single [] (cond one (a ∷ []) (a / 256 ∷ a % 256 ∷ [])) ++ rest)) (two_bytes (cond single [] (cond one (a ∷ []) (a / 256 ∷ a % 256 ∷ [])) ++ rest)))
    ≡ Some (a, rest)
offset_by width a rest true one s o h = let none : 0 ≡ a = (let e : width < 2 = grind (arith, nat_tests) in omega arith) in cc
offset_by width a rest false true s o h = refl
offset_by width a rest false false s o h = let e : 256 * (a / 256) + a % 256 ≡ a = omega arith in cc

-- an offset is read back
pub offset_again : (width a : ℕ) (rest : List ℕ) → a < width → read_offset width (offset_bytes width a ++ rest) ≡ Some (a, rest)
offset_again width a rest h = offset_by width a rest (nat_lt width 2) (nat_lt width 257) refl refl h

-- what is written for a weight begins with the number of its cell, by which it is read
pub record IsCellRead (number start : ℕ) (later : List ℕ) (end w : ℕ) (rest bytes : List ℕ) : Type 0 where
  pub first : ℕ
  pub more : List ℕ
  pub from : number ≤ first
  pub is : bytes ≡ first ∷ more
  pub read : read_cell number start later end first more ≡ Some (w, rest)

-- a weight is read back in its cell
offset_in : (start end w : ℕ) (rest : List ℕ) → start ≤ w → w < end
    → weight_within start end (read_offset (end - start) (offset_bytes (end - start) (w - start) ++ rest)) ≡ Some (w, rest)
offset_in start end w rest from under =
    let inside : w - start < end - start = omega arith in
    let back : start + (w - start) ≡ w = omega arith in
    let test : nat_lt w end ≡ true = grind (arith, nat_tests) in
    ap (λ (o : Option ReadNumber). weight_within start end o) (offset_again (end - start) (w - start) rest inside)
    ∙ rw (back, test) refl

-- a cell and its number, by the test of the number
here : (number start end w : ℕ) (rest : List ℕ) (other : List ℕ → Option ReadNumber) → start ≤ w → w < end
    → cond (nat_eq number number) (weight_within start end (read_offset (end - start) (offset_bytes (end - start) (w - start) ++ rest))) (other (offset_bytes (end - start) (w - start) ++ rest))
    ≡ Some (w, rest)
here number start end w rest other from under =
    let same : nat_eq number number ≡ true = grind (arith, nat_tests) in
    ap (λ (t : Bool). cond t (weight_within start end (read_offset (end - start) (offset_bytes (end - start) (w - start) ++ rest))) (other (offset_bytes (end - start) (w - start) ++ rest))) same
    ∙ offset_in start end w rest from under

read_by : (number start next : ℕ) (later : List ℕ) (end w : ℕ) (rest there : List ℕ) (b : Bool) → nat_lt w next ≡ b → start ≤ w
    → (next ≤ w → IsCellRead (suc number) next later end w rest (there ++ rest))
    → IsCellRead number start (next ∷ later) end w rest (cond b (number ∷ offset_bytes (next - start) (w - start)) there ++ rest)
read_by number start next later end w rest there true h from more =
    record {
      first = number;
      more = offset_bytes (next - start) (w - start) ++ rest;
      from = omega arith;
      is = refl;
      read = here number start next w rest (read_cell (suc number) next later end number) from (grind (arith, nat_tests));
    }
read_by number start next later end w rest there false h from more =
    let found = more (grind (arith, nat_tests)) in
    let apart : nat_eq found.first number ≡ false = (let lt : suc number ≤ found.first = found.from in grind (arith, nat_tests)) in
    record {
      first = found.first;
      more = found.more;
      from = omega (arith, found.from);
      is = found.is;
      read = ap (λ (t : Bool). cond t (weight_within start next (read_offset (next - start) found.more)) (read_cell (suc number) next later end found.first found.more)) apart ∙ found.read;
    }

-- a weight is read back
pub cell_again : (number start : ℕ) (later : List ℕ) (end w : ℕ) (rest : List ℕ) → AreRising start later end → start ≤ w → w < end
    → IsCellRead number start later end w rest (cell number start later end w ++ rest)
cell_again number start [] end w rest rising from under =
    record {
      first = number;
      more = offset_bytes (end - start) (w - start) ++ rest;
      from = omega arith;
      is = refl;
      read = here number start end w rest (λ (bytes : List ℕ). None) from under;
    }
cell_again number start (next ∷ later) end w rest rising from under =
    read_by number start next later end w rest (cell (suc number) next later end w) (nat_lt w next) refl from
    (λ after. cell_again (suc number) next later end w rest rising.1 after under)

-- ---- Steps of reading

-- these weights and this end
abbrev pub level_read : List ℕ → ℕ → List ℕ → Option ReadLevel
level_read ws end rest = Some (record { weights = ws; end = end; rest = rest })

-- one more of the same
pub copies_more : (c n : ℕ) (ws : List ℕ) → copies c n ++ c ∷ ws ≡ c ∷ (copies c n ++ ws)
copies_more c zero ws = refl
copies_more c (suc n) ws = ap (λ (xs : List ℕ). c ∷ xs) (copies_more c n ws)

-- a run and an end
pub read_end : (f : Form) (s run end : ℕ) (rest : List ℕ) → run < f.longest → end < f.ends
    → read_steps f (suc s) ((run * step f + end) ∷ rest) ≡ level_read (copies f.common run) end rest
read_end f s run end rest short is =
    let below : nat_lt (run * step f + end) (full f) ≡ true = (let lt : run * step f + end < full f = omega (arith, room run f.longest (step f) short) in grind (arith, nat_tests)) in
    let digit : (run * step f + end) % step f ≡ end = mod-mul-add run (step f) end (omega arith) in
    let high : (run * step f + end) / step f ≡ run = div-mul-add run (step f) end (omega arith) in
    let ends : nat_lt end f.ends ≡ true = grind (arith, nat_tests) in
    rw (below, digit, ends, high) refl

-- a run before a lesser weight
pub read_lesser : (f : Form) (s run : ℕ) (bytes : List ℕ) → run < f.longest
    → read_steps f (suc s) ((run * step f + f.ends) ∷ bytes) ≡ lesser_then f (copies f.common run) bytes (read_steps f s)
read_lesser f s run bytes short =
    let below : nat_lt (run * step f + f.ends) (full f) ≡ true = (let lt : run * step f + f.ends < full f = omega (arith, room run f.longest (step f) short) in grind (arith, nat_tests)) in
    let digit : (run * step f + f.ends) % step f ≡ f.ends = mod-mul-add run (step f) f.ends (omega arith) in
    let high : (run * step f + f.ends) / step f ≡ run = div-mul-add run (step f) f.ends (omega arith) in
    let ends : nat_lt f.ends f.ends ≡ false = grind (arith, nat_tests) in
    rw (below, digit, ends, high) refl

-- a longest run
pub read_full : (f : Form) (s : ℕ) (bytes : List ℕ) → 0 < f.common → read_steps f (suc s) (full f ∷ bytes) ≡ with_weights (copies f.common f.longest) (read_steps f s bytes)
read_full f s bytes some =
    let common : nat_eq f.common 0 ≡ false = grind (arith, nat_tests) in
    let below : nat_lt (full f) (full f) ≡ false = grind (arith, nat_tests) in
    let same : nat_eq (full f) (full f) ≡ true = grind (arith, nat_tests) in
    rw (below, same, common) refl

-- a run before a greater weight
pub read_run : (f : Form) (s n : ℕ) (bytes : List ℕ) → suc n < f.longest
    → read_steps f (suc s) ((first_cell f - suc n) ∷ bytes) ≡ greater_then f (copies f.common (suc n)) bytes (read_steps f s)
read_run f s n bytes short =
    let below : nat_lt (first_cell f - suc n) (full f) ≡ false = (let le : full f ≤ first_cell f - suc n = omega arith in grind (arith, nat_tests)) in
    let same : nat_eq (first_cell f - suc n) (full f) ≡ false = (let lt : full f < first_cell f - suc n = omega arith in grind (arith, nat_tests)) in
    let under : nat_lt (first_cell f - suc n) (first_cell f) ≡ true = (let lt : first_cell f - suc n < first_cell f = omega arith in grind (arith, nat_tests)) in
    let back : first_cell f - (first_cell f - suc n) ≡ suc n = omega arith in
    rw (below, same, under, back) refl

-- a greater weight with no run before it
pub read_greater : (f : Form) → IsForm f → (s b : ℕ) (bytes : List ℕ) → first_cell f ≤ b
    → read_steps f (suc s) (b ∷ bytes) ≡ greater_then f [] (b ∷ bytes) (read_steps f s)
read_greater f form s b bytes h =
    let some : 0 < f.longest = form.longest in
    let below : nat_lt b (full f) ≡ false = (let le : full f ≤ b = omega arith in grind (arith, nat_tests)) in
    let same : nat_eq b (full f) ≡ false = (let lt : full f < b = omega arith in grind (arith, nat_tests)) in
    let under : nat_lt b (first_cell f) ≡ false = grind (arith, nat_tests) in
    rw (below, same, under) refl

-- a weight, and then the rest
pub weight_step : (front : List ℕ) (w : ℕ) (ws : List ℕ) (end : ℕ) (rest bytes : List ℕ) (found : Option ReadNumber) (more : List ℕ → Option ReadLevel)
    → found ≡ Some (w, bytes) → more bytes ≡ level_read ws end rest → with_weight front found more ≡ level_read (front ++ w ∷ ws) end rest
weight_step front w ws end rest bytes found more is h =
    ap (λ (o : Option ReadNumber). with_weight front o more) is
    ∙ ap (with_weights (front ++ w ∷ [])) h
    ∙ ap (λ (xs : List ℕ). level_read xs end rest) (append_assoc front (w ∷ []) ws)

-- ---- How many steps are enough

-- the end of a list has room where the list has
pub end_fits_in : (xs ys : List ℕ) (n : ℕ) → length (xs ++ ys) ≤ n → length ys ≤ n
end_fits_in [] ys n h = h
end_fits_in (x ∷ xs) ys n h = let less : length (xs ++ ys) ≤ n = omega arith in end_fits_in xs ys n less

-- and so has its beginning
pub front_fits_in : (xs ys : List ℕ) → length xs ≤ length (xs ++ ys)
front_fits_in [] ys = omega arith
front_fits_in (x ∷ xs) ys = let less = front_fits_in xs ys in omega (arith, less)

-- what follows a weight is shorter
pub cell_shorter : (number start : ℕ) (later : List ℕ) (end w : ℕ) (code : List ℕ) (n : ℕ) → length (cell number start later end w ++ code) ≤ n → length code < n
cell_shorter number start later end w code n h =
    let found = cell_from number start later end w in
    let all : length ((found.0 ∷ found.1) ++ code) ≤ n = subst (λ (bytes : List ℕ). length (bytes ++ code) ≤ n) found.3 h in
    let less : length code ≤ n - 1 = end_fits_in found.1 code (n - 1) (omega (arith, all)) in
    omega (arith, less, all)

-- ---- Levels

-- the rest of a level after a run reads as the run and these weights, in as many steps as it has bytes
abbrev pub ReadsBack : Form → ℕ → List ℕ → ℕ → List ℕ → Type 0
ReadsBack f run ws end rest =
    (steps : ℕ) → length (level_code f end run ws) ≤ steps → read_steps f steps (level_code f end run ws ++ rest) ≡ level_read (copies f.common run ++ ws) end rest

-- the same with one more weight, which compares so to the common one
abbrev pub ReadsWeight : Form → ℕ → ℕ → List ℕ → ℕ → List ℕ → Ordering → Type 0
ReadsWeight f run w ws end rest o =
    (steps : ℕ) → length (written f run w o ++ level_code f end (run_after f run o) ws) ≤ steps
    → read_steps f steps ((written f run w o ++ level_code f end (run_after f run o) ws) ++ rest) ≡ level_read (copies f.common run ++ w ∷ ws) end rest

-- a lesser weight after a run
pub lesser_back : (f : Form) → IsForm f → (run w : ℕ) (ws : List ℕ) (end : ℕ) (rest : List ℕ) → run < f.longest → 0 < w → w < f.common
    → ReadsBack f 0 ws end rest → ReadsWeight f run w ws end rest Less
lesser_back f form run w ws end rest short above under more zero enough = absurd (omega arith)
lesser_back f form run w ws end rest short above under more (suc s) enough =
    elim form.lesser [
      | inl none ↦ absurd (omega (arith, none.0))
      | inr rising ↦
          (let code = level_code f end 0 ws in
          let found = cell_again 0 1 f.lesser f.common w (code ++ rest) rising (omega arith) under in
          let apart : (cell 0 1 f.lesser f.common w ++ code) ++ rest ≡ found.first ∷ found.more =
          append_assoc (cell 0 1 f.lesser f.common w) code rest ∙ found.is in
          read_lesser f s run ((cell 0 1 f.lesser f.common w ++ code) ++ rest) short
          ∙ ap (λ (bytes : List ℕ). lesser_then f (copies f.common run) bytes (read_steps f s)) apart
          ∙ weight_step (copies f.common run) w ws end rest (code ++ rest) (read_cell 0 1 f.lesser f.common found.first found.more) (read_steps f s) found.read
          (more s (end_fits_in (cell 0 1 f.lesser f.common w) code s (omega (arith, enough)))))
    ]

-- a greater weight
pub greater_back : (f : Form) → IsForm f → (run w : ℕ) (ws : List ℕ) (end : ℕ) (rest : List ℕ) → run < f.longest → f.common < w → w < 65536
    → ReadsBack f 0 ws end rest → ReadsWeight f run w ws end rest Greater
greater_back f form zero w ws end rest short above under more zero enough =
    let less = cell_shorter (first_cell f) (suc f.common) f.greater 65536 w (level_code f end 0 ws) 0 enough in
    absurd (omega (arith, less))
greater_back f form zero w ws end rest short above under more (suc s) enough =
    elim form.greater [
      | inl none ↦ absurd (omega (arith, none.0))
      | inr rising ↦
          (let code = level_code f end 0 ws in
          let less = cell_shorter (first_cell f) (suc f.common) f.greater 65536 w code (suc s) enough in
          let found = cell_again (first_cell f) (suc f.common) f.greater 65536 w (code ++ rest) rising (omega arith) under in
          let apart : (cell (first_cell f) (suc f.common) f.greater 65536 w ++ code) ++ rest ≡ found.first ∷ found.more =
          append_assoc (cell (first_cell f) (suc f.common) f.greater 65536 w) code rest ∙ found.is in
          ap (read_steps f (suc s)) apart
          ∙ read_greater f form s found.first found.more found.from
          ∙ weight_step [] w ws end rest (code ++ rest) (read_cell (first_cell f) (suc f.common) f.greater 65536 found.first found.more) (read_steps f s) found.read
          (more s (omega (arith, less))))
    ]
greater_back f form (suc n) w ws end rest short above under more zero enough = absurd (omega arith)
greater_back f form (suc n) w ws end rest short above under more (suc s) enough =
    elim form.greater [
      | inl none ↦ absurd (omega (arith, none.0))
      | inr rising ↦
          (let code = level_code f end 0 ws in
          let found = cell_again (first_cell f) (suc f.common) f.greater 65536 w (code ++ rest) rising (omega arith) under in
          let apart : (cell (first_cell f) (suc f.common) f.greater 65536 w ++ code) ++ rest ≡ found.first ∷ found.more =
          append_assoc (cell (first_cell f) (suc f.common) f.greater 65536 w) code rest ∙ found.is in
          read_run f s n ((cell (first_cell f) (suc f.common) f.greater 65536 w ++ code) ++ rest) short
          ∙ ap (λ (bytes : List ℕ). greater_then f (copies f.common (suc n)) bytes (read_steps f s)) apart
          ∙ weight_step (copies f.common (suc n)) w ws end rest (code ++ rest) (read_cell (first_cell f) (suc f.common) f.greater 65536 found.first found.more) (read_steps f s) found.read
          (more s (end_fits_in (cell (first_cell f) (suc f.common) f.greater 65536 w) code s (omega (arith, enough)))))
    ]

-- a common weight, by whether the run is the longest
pub common_back : (f : Form) → 0 < f.common → (run : ℕ) (ws : List ℕ) (end : ℕ) (rest : List ℕ) (b : Bool) → nat_eq (suc run) f.longest ≡ b → ReadsBack f (cond b 0 (suc run)) ws end rest
    → (steps : ℕ) → length (cond b (full f ∷ []) [] ++ level_code f end (cond b 0 (suc run)) ws) ≤ steps
    → read_steps f steps ((cond b (full f ∷ []) [] ++ level_code f end (cond b 0 (suc run)) ws) ++ rest) ≡ level_read (copies f.common run ++ f.common ∷ ws) end rest
common_back f some run ws end rest true is more zero enough = absurd (omega arith)
common_back f some run ws end rest true is more (suc s) enough =
    let all : f.longest ≡ suc run = grind (arith, nat_tests) in
    read_full f s (level_code f end 0 ws ++ rest) some
    ∙ ap (with_weights (copies f.common f.longest)) (more s (omega (arith, enough)))
    ∙ ap (λ (k : ℕ). level_read (copies f.common k ++ ws) end rest) all
    ∙ ap (λ (xs : List ℕ). level_read xs end rest) (sym (copies_more f.common run ws))
common_back f some run ws end rest false is more steps enough =
    more steps enough ∙ ap (λ (xs : List ℕ). level_read xs end rest) (sym (copies_more f.common run ws))

-- a weight, by how it compares to the common one
read_by_order : (f : Form) → IsForm f → (run w : ℕ) (ws : List ℕ) (end : ℕ) (rest : List ℕ) → run < f.longest → 0 < w → w < 65536
    → ((o : Ordering) → ReadsBack f (run_after f run o) ws end rest) → (o : Ordering) → nat_cmp w f.common ≡ o → ReadsWeight f run w ws end rest o
read_by_order f form run w ws end rest short above under more Less is =
    lesser_back f form run w ws end rest short above (grind (arith, nat_tests)) (more Less)
read_by_order f form run w ws end rest short above under more Greater is =
    greater_back f form run w ws end rest short (grind (arith, nat_tests)) under (more Greater)
read_by_order f form run w ws end rest short above under more Equal is =
    let same : w ≡ f.common = grind (arith, nat_tests) in
    let some : 0 < f.common = omega arith in
    (λ steps enough. common_back f some run ws end rest (nat_eq (suc run) f.longest) refl (more Equal) steps enough
    ∙ ap (λ (v : ℕ). level_read (copies f.common run ++ v ∷ ws) end rest) (sym same))

-- the rest of a level after a run
pub read_after : (f : Form) → IsForm f → (ws : List ℕ) (run end : ℕ) (rest : List ℕ) → run < f.longest → AreWeights ws → end < f.ends → ReadsBack f run ws end rest
read_after f form [] run end rest short weights ends zero enough = absurd (omega arith)
read_after f form [] run end rest short weights ends (suc s) enough =
    read_end f s run end rest short ends ∙ ap (λ (xs : List ℕ). level_read xs end rest) (sym (append-nil (copies f.common run)))
read_after f form (w ∷ ws) run end rest short weights ends steps enough =
    read_by_order f form run w ws end rest short weights.0.0 weights.0.1
    (λ o. read_after f form ws (run_after f run o) end rest (run_stays_short f form run o short) weights.1 ends) (nat_cmp w f.common) refl steps enough

-- a level is read back, whatever follows it
pub level_back : (f : Form) → IsForm f → (ws : List ℕ) (end : ℕ) → AreWeights ws → end < f.ends → (rest : List ℕ)
    → read_level f (level_code f end 0 ws ++ rest) ≡ level_read ws end rest
level_back f form ws end weights ends rest =
    read_after f form ws 0 end rest form.longest weights ends (length (level_code f end 0 ws ++ rest)) (front_fits_in (level_code f end 0 ws) rest)
