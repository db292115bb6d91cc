-- Cells keep the order of weights.
use Rattle.std.proofs.Common.{◌≡◌, ◌⊎◌, inl, inr, ℕ, suc, ◌-◌, ◌/◌, ◌%◌, ◌<◌, ◌≤◌, List, [], ◌∷◌, Bool, true, false, cond, nat_lt, refl, arith}
use Rattle.std.proofs.lemmas.Bool.Decides.{nat_tests}
use Rattle.uca_compact.specs.Forms.{AreRising}
use Rattle.uca_compact.specs.CompactKeys.{offset_bytes, cell}
use Rattle.uca_compact.proofs.Below.{IsBelow}

-- the offsets of a cell, by the tests on its width
offsets : (width a b : ℕ) (single one : Bool) → nat_lt width 2 ≡ single → nat_lt width 257 ≡ one → a < b → b < width
    → IsBelow (cond single [] (cond one (a ∷ []) (a / 256 ∷ a % 256 ∷ []))) (cond single [] (cond one (b ∷ []) (b / 256 ∷ b % 256 ∷ [])))
offsets width a b true one s o less in_cell = absurd (let e : width < 2 = grind (arith, nat_tests) in omega arith)
offsets width a b false true s o less in_cell = inl less
offsets width a b false false s o less in_cell =
    let high : (a / 256 < b / 256) ⊎ (a / 256 ≡ b / 256) = grind arith in
    elim high [
      | inl h ↦ inl h
      | inr h ↦ inr (h, inl (omega arith))
    ]

pub offset_order : (width a b : ℕ) → a < b → b < width → IsBelow (offset_bytes width a) (offset_bytes width b)
offset_order width a b less in_cell = offsets width a b (nat_lt width 2) (nat_lt width 257) refl refl less in_cell

-- bytes that begin with this number or a greater one
abbrev pub FirstFrom : ℕ → List ℕ → Type 0
FirstFrom n bytes = (b : ℕ) × (rest : List ℕ) × (n ≤ b) × (bytes ≡ b ∷ rest)

-- so what begins with a lesser one comes before them
pub below_from : (n a : ℕ) (xs bytes : List ℕ) → a < n → FirstFrom n bytes → IsBelow (a ∷ xs) bytes
below_from n a xs bytes less found =
    let lt : a < found.0 = omega (arith, found.2) in
    rw found.3 (inl lt)

from_by : (number : ℕ) (here later : List ℕ) (b : Bool) → FirstFrom (suc number) later → FirstFrom number (cond b (number ∷ here) later)
from_by number here later true h = (number, here, omega arith, refl)
from_by number here later false h = (h.0, h.1, omega (arith, h.2), h.3)

-- a later cell has a greater number
pub cell_from : (number start : ℕ) (later : List ℕ) (end w : ℕ) → FirstFrom number (cell number start later end w)
cell_from number start [] end w = (number, offset_bytes (end - start) (w - start), omega arith, refl)
cell_from number start (next ∷ later) end w =
    from_by number (offset_bytes (next - start) (w - start)) (cell (suc number) next later end w) (nat_lt w next) (cell_from (suc number) next later end w)

-- two weights of cells, by the tests on the first cell
cell_order_by : (number start next v w : ℕ) (left right : List ℕ) (bv bw : Bool) → nat_lt v next ≡ bv → nat_lt w next ≡ bw
    → start ≤ v → v < w → (next ≤ v → IsBelow left right) → FirstFrom (suc number) right
    → IsBelow (cond bv (number ∷ offset_bytes (next - start) (v - start)) left) (cond bw (number ∷ offset_bytes (next - start) (w - start)) right)
cell_order_by number start next v w left right true true hv hw from less h found =
    let in_cell : w < next = grind (arith, nat_tests) in
    inr (refl, offset_order (next - start) (v - start) (w - start) (omega arith) (omega arith))
cell_order_by number start next v w left right true false hv hw from less h found =
    below_from (suc number) number (offset_bytes (next - start) (v - start)) right (omega arith) found
cell_order_by number start next v w left right false true hv hw from less h found =
    let a : next ≤ v = grind (arith, nat_tests) in
    let b : w < next = grind (arith, nat_tests) in
    absurd (omega arith)
cell_order_by number start next v w left right false false hv hw from less h found =
    h (grind (arith, nat_tests))

pub cell_order : (number start : ℕ) (later : List ℕ) (end v w : ℕ) → AreRising start later end → start ≤ v → v < w → w < end
    → IsBelow (cell number start later end v) (cell number start later end w)
cell_order number start [] end v w rising from less in_book =
    inr (refl, offset_order (end - start) (v - start) (w - start) (omega arith) (omega arith))
cell_order number start (next ∷ later) end v w rising from less in_book =
    cell_order_by number start next v w (cell (suc number) next later end v) (cell (suc number) next later end w)
    (nat_lt v next) (nat_lt w next) refl refl from less
    (λ after. cell_order (suc number) next later end v w rising.1 after less in_book)
    (cell_from (suc number) next later end w)
