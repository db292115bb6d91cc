-- The place of a weight among cells.
use Rattle.std.proofs.Common.{◌≡◌, ℕ, zero, suc, ◌+◌, ◌-◌, ◌<◌, ◌≤◌, List, [], ◌∷◌, ◌++◌, Bool, true, false, cond, nat_lt, length, length-drop, get_or, drop, take, set, refl, ap, ap₂, sym, ◌∙◌, arith}
use Rattle.std.proofs.lemmas.List.{take_at, take-take, drop_at, drop-take, get_or-drop, length-take-le}
use Rattle.std.proofs.lemmas.Slice.{take-put_mid}
use Rattle.std.proofs.lemmas.Bool.Decides.{nat_tests}
use borrow.Rule.Slice.PartMut.{put_mid}
use lib.Seq.{take-add}
use Rattle.uca_compact.specs.declared.key_buffers.Entry.{Entry}
use Rattle.uca_compact.specs.Forms.{AreRising, Form}
use Rattle.uca_compact.specs.CompactKeys.{offset_bytes, cell}
use Rattle.uca_compact.specs.inside.Places.{start_at, end_at, IsPlace, IsTrueEntry, AreTrueEntries}

-- no cell starts before the first
first_least : (start : ℕ) (later : List ℕ) (end i : ℕ) → AreRising start later end → i ≤ length later → start ≤ start_at start later i
first_least start later end zero rising h = omega arith
first_least start [] end (suc i) rising h = absurd (omega arith)
first_least start (next ∷ later) end (suc i) rising h = let more = first_least next later end i rising.1 (omega arith) in omega (arith, rising.0, more)

-- ---- The cell of a place

-- what is written by the place
abbrev pub at_place : (number start : ℕ) → List ℕ → (end w i : ℕ) → List ℕ
at_place number start later end w i = (number + i) ∷ offset_bytes (end_at later end i - start_at start later i) (w - start_at start later i)

pub cell_is : (number start : ℕ) (later : List ℕ) (end w i : ℕ) → AreRising start later end → IsPlace start later end w i
    → cell number start later end w ≡ at_place number start later end w i
cell_is number start [] end w zero rising place = let e : number ≡ number + 0 = omega arith in ap (λ (n : ℕ). n ∷ offset_bytes (end - start) (w - start)) e
cell_is number start [] end w (suc i) rising place = absurd (let h = place.within in omega (arith, h))
cell_is number start (next ∷ later) end w zero rising place =
    let test : nat_lt w next ≡ true = (let h : w < next = place.under in grind (arith, nat_tests)) in
    let e : number ≡ number + 0 = omega arith in
    ap (λ (t : Bool). cond t (number ∷ offset_bytes (next - start) (w - start)) (cell (suc number) next later end w)) test
    ∙ ap (λ (n : ℕ). n ∷ offset_bytes (next - start) (w - start)) e
cell_is number start (next ∷ later) end w (suc i) rising place =
    let within : i ≤ length later = (let h : suc i ≤ suc (length later) = place.within in omega (arith, h)) in
    let from : start_at next later i ≤ w = place.from in
    let least = first_least next later end i rising.1 within in
    let test : nat_lt w next ≡ false = (let h : next ≤ w = omega (arith, from, least) in grind (arith, nat_tests)) in
    let e : suc number + i ≡ number + suc i = omega arith in
    ap (λ (t : Bool). cond t (number ∷ offset_bytes (next - start) (w - start)) (cell (suc number) next later end w)) test
    ∙ cell_is (suc number) next later end w i rising.1 (record { within = within; from = from; under = place.under })
    ∙ ap (λ (n : ℕ). n ∷ offset_bytes (end_at later end i - start_at next later i) (w - start_at next later i)) e

-- what a program writes, by the start and the end that it found
pub place_written : (number start : ℕ) (later : List ℕ) (end w i first last : ℕ) → AreRising start later end → IsPlace start later end w i
    → first ≡ start_at start later i → last ≡ end_at later end i → (number + i) ∷ offset_bytes (last - first) (w - first) ≡ cell number start later end w
place_written number start later end w i first last rising place starts ends =
    ap (λ (n : ℕ). (number + i) ∷ offset_bytes (last - n) (w - n)) starts
    ∙ ap (λ (n : ℕ). (number + i) ∷ offset_bytes (n - start_at start later i) (w - start_at start later i)) ends
    ∙ sym (cell_is number start later end w i rising place)

end_within : (later : List ℕ) (end i : ℕ) → i < length later → end_at later end i ≡ get_or later i 0
end_within [] end i within = absurd (omega arith)
end_within (next ∷ later) end zero within = refl
end_within (next ∷ later) end (suc i) within = end_within later end i (omega (arith, within))

-- a weight that has its cell alone
pub single_cell : (number start : ℕ) (later : List ℕ) (end w i : ℕ) → AreRising start later end → i < length later
    → start_at start later i ≡ w → get_or later i 0 ≡ w + 1 → (number + i) ∷ [] ≡ cell number start later end w
single_cell number start later end w i rising within from next =
    let ends : end_at later end i ≡ w + 1 = end_within later end i within ∙ next in
    let one : w + 1 - w ≡ 1 = omega arith in
    sym (ap (λ (n : ℕ). (number + i) ∷ offset_bytes n (w - w)) one)
    ∙ place_written number start later end w i w (w + 1) rising (record { within = omega (arith, within); from = omega (arith, from); under = omega (arith, ends) }) (sym from) (sym ends)

-- ---- What weights were written as

-- what an entry says is true
pub true_entry : (f : Form) (entries : List Entry) (i : ℕ) (none : Entry) → AreTrueEntries f entries → i < length entries → IsTrueEntry f (get_or entries i none)
unfolding AreTrueEntries
true_entry f [] i none all within = absurd (omega (arith, within))
true_entry f (entry ∷ entries) zero none all within = all.0
true_entry f (entry ∷ entries) (suc i) none all within = true_entry f entries i none all.1 (omega (arith, within))

-- an entry in the place of another
pub entry_kept : (f : Form) (entries : List Entry) (i : ℕ) (entry : Entry) → AreTrueEntries f entries → IsTrueEntry f entry → AreTrueEntries f (set entries i entry)
unfolding AreTrueEntries
entry_kept f [] i entry all here = all
entry_kept f (e ∷ entries) zero entry all here = (here, all.1)
entry_kept f (e ∷ entries) (suc i) entry all here = (all.0, entry_kept f entries i entry all.1 here)

-- the next three of a list, before others
three_next : (xs others : List ℕ) (n : ℕ) → n ≤ 3 → 3 ≤ length xs → take n (get_or xs 0 0 ∷ get_or xs 1 0 ∷ get_or xs 2 0 ∷ others) ≡ take n xs
three_next xs others zero few long = refl
three_next [] others (suc n) few long = absurd (omega (arith, long))
three_next (a ∷ xs) others (suc n) few long = ap (λ (l : List ℕ). a ∷ l) (two_next xs n (omega (arith, few)) (omega (arith, long)))
  where
    one_next : (ys : List ℕ) (m : ℕ) → m ≤ 1 → 1 ≤ length ys → take m (get_or ys 0 0 ∷ others) ≡ take m ys
    one_next ys zero le ge = refl
    one_next [] (suc m) le ge = absurd (omega (arith, ge))
    one_next (b ∷ ys) (suc zero) le ge = refl
    one_next (b ∷ ys) (suc (suc m)) le ge = absurd (omega (arith, le))

    two_next : (ys : List ℕ) (m : ℕ) → m ≤ 2 → 2 ≤ length ys → take m (get_or ys 0 0 ∷ get_or ys 1 0 ∷ others) ≡ take m ys
    two_next ys zero le ge = refl
    two_next [] (suc m) le ge = absurd (omega (arith, ge))
    two_next (b ∷ ys) (suc m) le ge = ap (λ (l : List ℕ). b ∷ l) (one_next ys m (omega (arith, le)) (omega (arith, ge)))

-- what was put after others is what stands from there on
pub put_there : (codes front put others : List ℕ) (at next : ℕ) → at ≤ next → next ≤ at + 3 → at + 3 ≤ length codes → length front ≡ at → take next codes ≡ front ++ put
    → put ≡ take (next - at) (get_or codes at 0 ∷ get_or codes (at + 1) 0 ∷ get_or codes (at + 2) 0 ∷ others)
put_there codes front put others at next from few room long whole =
    let rest = drop at codes in
    let sum : at + (next - at) ≡ next = omega (arith, from) in
    let zeroth : get_or rest 0 0 ≡ get_or codes at 0 = get_or-drop at codes 0 0 ∙ (let e : at + 0 ≡ at = omega arith in ap (λ (n : ℕ). get_or codes n 0) e) in
    let first : get_or rest 1 0 ≡ get_or codes (at + 1) 0 = get_or-drop at codes 1 0 in
    let second : get_or rest 2 0 ≡ get_or codes (at + 2) 0 = get_or-drop at codes 2 0 in
    sym (drop_at front put at long)
    ∙ ap (drop at) (sym whole)
    ∙ ap (λ (n : ℕ). drop at (take n codes)) (sym sum)
    ∙ drop-take at (next - at) codes
    ∙ sym (three_next rest others (next - at) (omega (arith, few)) (omega (arith, length-drop at codes, room)))
    ∙ ap (λ (x : ℕ). take (next - at) (x ∷ get_or rest 1 0 ∷ get_or rest 2 0 ∷ others)) zeroth
    ∙ ap (λ (x : ℕ). take (next - at) (get_or codes at 0 ∷ x ∷ get_or rest 2 0 ∷ others)) first
    ∙ ap (λ (x : ℕ). take (next - at) (get_or codes at 0 ∷ get_or codes (at + 1) 0 ∷ x ∷ others)) second

-- the first of some members that were written at once
pub first_put : (codes code put : List ℕ) (at k n few : ℕ) → at ≤ length codes → put ≡ code → n ≡ few → n ≤ length put
    → take (at + n) (put_mid at k codes put) ≡ take at codes ++ take few code
first_put codes code put at k n few within is same some =
    let front = length-take-le at codes within in
    sym (take-take (at + n) (at + length put) (put_mid at k codes put) (omega (arith, some)))
    ∙ ap (take (at + n)) (take-put_mid at k codes put (at + length put) refl within)
    ∙ take-add at n (take at codes ++ put)
    ∙ (λ i. take_at (take at codes) put at front i ++ take n (drop_at (take at codes) put at front i))
    ∙ ap₂ (λ (m : ℕ) (xs : List ℕ). take at codes ++ take m xs) same is
