-- A weight is read only from the bytes that are written for it.
use Rattle.std.proofs.Common.{◌≡◌, inl, inr, ℕ, suc, ◌+◌, ◌*◌, ◌-◌, ◌/◌, ◌%◌, ◌<◌, ◌≤◌, List, [], ◌∷◌, ◌++◌, Bool, true, false, cond, Option, Some, None, nat_eq, nat_lt, refl, ap, sym, subst, ◌∙◌, arith}
use Rattle.std.specs.List.{AllByRecursion}
use Rattle.std.proofs.lemmas.Bool.Decides.{nat_tests}
use Rattle.uca_compact.specs.Forms.{Form, first_cell, AreRising, IsForm}
use Rattle.uca_compact.specs.CompactKeys.{offset_bytes, cell}
use Rattle.uca_compact.specs.inside.Reading.{ReadNumber, one_byte, two_bytes, read_offset, weight_within, read_cell}

-- ---- Bytes

abbrev pub AreBytes : List ℕ → Type 0
AreBytes = AllByRecursion (λ b. b < 256)

-- the end of bytes
pub bytes_after : (xs ys : List ℕ) → AreBytes (xs ++ ys) → AreBytes ys
bytes_after [] ys h = h
bytes_after (x ∷ xs) ys h = bytes_after xs ys h.1

-- nothing is not something
pub nothing : {X : Type 0} {x : X} {G : Type 0} → None ≡ Some x → G
nothing h = absurd (cc)

-- what is there, or else x
abbrev inside : {X : Type 0} → X → Option X → X
inside x None = x
inside x (Some y) = y

-- something is equal to what it is
pub same_some : {X : Type 0} (x y : X) → Some x ≡ Some y → x ≡ y
same_some x y h = ap (inside x) h

-- ---- Offsets

one_only : (bytes : List ℕ) (r : ReadNumber) → one_byte bytes ≡ Some r → bytes ≡ r.0 ∷ r.1
one_only [] r h = nothing h
one_only (a ∷ bytes) r h = let same : (a, bytes) ≡ r = same_some (a, bytes) r h in ap (λ (x : ReadNumber). x.0 ∷ x.1) same

two_only : (bytes : List ℕ) (r : ReadNumber) → AreBytes bytes → two_bytes bytes ≡ Some r → bytes ≡ r.0 / 256 ∷ r.0 % 256 ∷ r.1
two_only [] r are h = nothing h
two_only (a ∷ []) r are h = nothing h
two_only (a ∷ b ∷ bytes) r are h =
    let same : (256 * a + b, bytes) ≡ r = same_some (256 * a + b, bytes) r h in
    let small : b < 256 = are.1.0 in
    let high : a ≡ (256 * a + b) / 256 = omega arith in
    let low : b ≡ (256 * a + b) % 256 = omega arith in
    ap (λ (n : ℕ). n ∷ b ∷ bytes) high ∙ ap (λ (n : ℕ). (256 * a + b) / 256 ∷ n ∷ bytes) low
    ∙ ap (λ (x : ReadNumber). x.0 / 256 ∷ x.0 % 256 ∷ x.1) same

-- by the tests on the width
offset_only_by : (bytes : List ℕ) (r : ReadNumber) (single one : Bool) → AreBytes bytes
    → cond single (Some (0, bytes)) (cond one (one_byte bytes) (two_bytes bytes)) ≡ Some r
    → bytes ≡ cond single [] (cond one (r.0 ∷ []) (r.0 / 256 ∷ r.0 % 256 ∷ [])) ++ r.1
offset_only_by bytes r true one are h = let same : (0, bytes) ≡ r = same_some (0, bytes) r h in ap (λ (x : ReadNumber). x.1) same
offset_only_by bytes r false true are h = one_only bytes r h
offset_only_by bytes r false false are h = two_only bytes r are h

offset_only : (width : ℕ) (bytes : List ℕ) (r : ReadNumber) → AreBytes bytes → read_offset width bytes ≡ Some r → bytes ≡ offset_bytes width r.0 ++ r.1
offset_only width bytes r are h = offset_only_by bytes r (nat_lt width 2) (nat_lt width 257) are h

-- ---- Cells

-- a weight in a cell
pub record IsWithin (start end : ℕ) (bytes : List ℕ) (r : ReadNumber) : Type 0 where
  pub from : start ≤ r.0
  pub under : r.0 < end
  pub is : bytes ≡ offset_bytes (end - start) (r.0 - start) ++ r.1

within_by : (start end : ℕ) (bytes : List ℕ) (r x : ReadNumber) (b : Bool) → nat_lt (start + x.0) end ≡ b → bytes ≡ offset_bytes (end - start) x.0 ++ x.1
    → cond b (Some (start + x.0, x.1)) None ≡ Some r → IsWithin start end bytes r
within_by start end bytes r x false test is h = nothing h
within_by start end bytes r x true test is h =
    let same : (start + x.0, x.1) ≡ r = same_some (start + x.0, x.1) r h in
    let back : x.0 ≡ start + x.0 - start = omega arith in
    subst (λ (y : ReadNumber). IsWithin start end bytes y) same
    (record { from = omega arith; under = grind (arith, nat_tests); is = is ∙ ap (λ (n : ℕ). offset_bytes (end - start) n ++ x.1) back })

within_only : (start end : ℕ) (bytes : List ℕ) (r : ReadNumber) (o : Option ReadNumber) → AreBytes bytes → read_offset (end - start) bytes ≡ o
    → weight_within start end o ≡ Some r → IsWithin start end bytes r
within_only start end bytes r None are is h = nothing h
within_only start end bytes r (Some x) are is h =
    within_by start end bytes r x (nat_lt (start + x.0) end) refl (offset_only (end - start) bytes x are is) h

-- a weight in one of several cells
pub record IsInCells (number start : ℕ) (later : List ℕ) (end wanted : ℕ) (bytes : List ℕ) (r : ReadNumber) : Type 0 where
  pub from : start ≤ r.0
  pub under : r.0 < end
  pub is : wanted ∷ bytes ≡ cell number start later end r.0 ++ r.1

-- in the last one
last_by : (number start end wanted : ℕ) (bytes : List ℕ) (r : ReadNumber) (b : Bool) → nat_eq wanted number ≡ b → AreBytes bytes
    → cond b (weight_within start end (read_offset (end - start) bytes)) None ≡ Some r → IsInCells number start [] end wanted bytes r
last_by number start end wanted bytes r false test are h = nothing h
last_by number start end wanted bytes r true test are h =
    let found = within_only start end bytes r (read_offset (end - start) bytes) are refl h in
    let same : wanted ≡ number = grind (arith, nat_tests) in
    record { from = found.from; under = found.under; is = ap (λ (n : ℕ). n ∷ bytes) same ∙ ap (λ (xs : List ℕ). number ∷ xs) found.is }

pub last_only : (number start end wanted : ℕ) (bytes : List ℕ) (r : ReadNumber) → AreBytes bytes
    → read_cell number start [] end wanted bytes ≡ Some r → IsInCells number start [] end wanted bytes r
last_only number start end wanted bytes r are h = last_by number start end wanted bytes r (nat_eq wanted number) refl are h

-- rising cells end later
rising_end : (start : ℕ) (later : List ℕ) (end : ℕ) → AreRising start later end → start < end
rising_end start [] end h = h
rising_end start (next ∷ later) end h = let more : next < end = rising_end next later end h.1 in omega (arith, h.0)

cells_by : (number start next : ℕ) (later : List ℕ) (end wanted : ℕ) (bytes : List ℕ) (r : ReadNumber) (b : Bool) → nat_eq wanted number ≡ b → AreBytes bytes
    → start < next → next < end
    → (read_cell (suc number) next later end wanted bytes ≡ Some r → IsInCells (suc number) next later end wanted bytes r)
    → cond b (weight_within start next (read_offset (next - start) bytes)) (read_cell (suc number) next later end wanted bytes) ≡ Some r
    → IsInCells number start (next ∷ later) end wanted bytes r
cells_by number start next later end wanted bytes r true test are rises ends more h =
    let found = within_only start next bytes r (read_offset (next - start) bytes) are refl h in
    let same : wanted ≡ number = grind (arith, nat_tests) in
    let under : nat_lt r.0 next ≡ true = (let lt : r.0 < next = found.under in grind (arith, nat_tests)) in
    record {
      from = found.from;
      under = omega (arith, found.under);
      is = ap (λ (n : ℕ). n ∷ bytes) same ∙ ap (λ (xs : List ℕ). number ∷ xs) found.is
          ∙ ap (λ (t : Bool). cond t (number ∷ offset_bytes (next - start) (r.0 - start)) (cell (suc number) next later end r.0) ++ r.1) (sym under);
    }
cells_by number start next later end wanted bytes r false test are rises ends more h =
    let found = more h in
    let after : nat_lt r.0 next ≡ false = (let le : next ≤ r.0 = found.from in grind (arith, nat_tests)) in
    record {
      from = omega (arith, found.from);
      under = found.under;
      is = found.is ∙ ap (λ (t : Bool). cond t (number ∷ offset_bytes (next - start) (r.0 - start)) (cell (suc number) next later end r.0) ++ r.1) (sym after);
    }

-- in one of several
pub cells_only : (number start : ℕ) (later : List ℕ) (end wanted : ℕ) (bytes : List ℕ) (r : ReadNumber) → AreBytes bytes → AreRising start later end
    → read_cell number start later end wanted bytes ≡ Some r → IsInCells number start later end wanted bytes r
cells_only number start [] end wanted bytes r are rising h = last_only number start end wanted bytes r are h
cells_only number start (next ∷ later) end wanted bytes r are rising h =
    cells_by number start next later end wanted bytes r (nat_eq wanted number) refl are rising.0 (rising_end next later end rising.1)
    (cells_only (suc number) next later end wanted bytes r are rising.1) h

-- ---- Weights of a form

-- a lesser one
pub lesser_only : (f : Form) → IsForm f → (wanted : ℕ) (bytes : List ℕ) (r : ReadNumber) → AreBytes bytes → read_cell 0 1 f.lesser f.common wanted bytes ≡ Some r
    → IsInCells 0 1 f.lesser f.common wanted bytes r
lesser_only f form wanted bytes r are h =
    elim form.lesser [
      | inl none ↦ subst (λ (later : List ℕ). read_cell 0 1 later f.common wanted bytes ≡ Some r → IsInCells 0 1 later f.common wanted bytes r) (sym none.1)
          (last_only 0 1 f.common wanted bytes r are) h
      | inr rising ↦ cells_only 0 1 f.lesser f.common wanted bytes r are rising h
    ]

-- a greater one
pub greater_only : (f : Form) → IsForm f → (wanted : ℕ) (bytes : List ℕ) (r : ReadNumber) → AreBytes bytes
    → read_cell (first_cell f) (suc f.common) f.greater 65536 wanted bytes ≡ Some r → IsInCells (first_cell f) (suc f.common) f.greater 65536 wanted bytes r
greater_only f form wanted bytes r are h =
    elim form.greater [
      | inl none ↦ subst (λ (later : List ℕ). read_cell (first_cell f) (suc f.common) later 65536 wanted bytes ≡ Some r
          → IsInCells (first_cell f) (suc f.common) later 65536 wanted bytes r) (sym none.1)
          (last_only (first_cell f) (suc f.common) 65536 wanted bytes r are) h
      | inr rising ↦ cells_only (first_cell f) (suc f.common) f.greater 65536 wanted bytes r are rising h
    ]
