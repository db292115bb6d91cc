-- Steps of reading a weight.
use Rattle.std.proofs.Common.{◌≡◌, ℕ, zero, suc, ◌+◌, ◌-◌, ◌<◌, ◌≤◌, List, [], ◌∷◌, Bool, true, false, cond, Option, None, nat_eq, length, ap, sym, ◌∙◌, arith}
use Rattle.std.proofs.lemmas.Bool.Decides.{nat_tests}
use Rattle.uca_compact.specs.inside.Places.{start_at, end_at}
use Rattle.uca_compact.specs.inside.Reading.{ReadNumber, read_offset, weight_within, read_cell}

-- what is read of the first cell, or of the later ones
one_cell : (number wanted : ℕ) (here later : Option ReadNumber) (t : Bool) → nat_eq wanted number ≡ t → cond (nat_eq wanted number) here later ≡ cond t here later
one_cell number wanted here later t is = ap (λ (b : Bool). cond b here later) is

-- no cell has a number below the first
pub none_before : (number start : ℕ) (later : List ℕ) (end wanted : ℕ) (bytes : List ℕ) → wanted < number → read_cell number start later end wanted bytes ≡ None
none_before number start [] end wanted bytes below =
    let test : nat_eq wanted number ≡ false = grind (arith, nat_tests) in
    one_cell number wanted (weight_within start end (read_offset (end - start) bytes)) None false test
none_before number start (next ∷ later) end wanted bytes below =
    let test : nat_eq wanted number ≡ false = grind (arith, nat_tests) in
    one_cell number wanted (weight_within start next (read_offset (next - start) bytes)) (read_cell (suc number) next later end wanted bytes) false test
    ∙ none_before (suc number) next later end wanted bytes (omega arith)

-- none has one above the last
pub none_after : (number start : ℕ) (later : List ℕ) (end wanted : ℕ) (bytes : List ℕ) → number + length later < wanted → read_cell number start later end wanted bytes ≡ None
none_after number start [] end wanted bytes above =
    let test : nat_eq wanted number ≡ false = (let lt : number < wanted = omega arith in grind (arith, nat_tests)) in
    one_cell number wanted (weight_within start end (read_offset (end - start) bytes)) None false test
none_after number start (next ∷ later) end wanted bytes above =
    let test : nat_eq wanted number ≡ false = (let lt : number < wanted = omega arith in grind (arith, nat_tests)) in
    one_cell number wanted (weight_within start next (read_offset (next - start) bytes)) (read_cell (suc number) next later end wanted bytes) false test
    ∙ none_after (suc number) next later end wanted bytes (omega arith)

-- what is read of the cell with this index
pub in_cell : (number start : ℕ) (later : List ℕ) (end wanted i : ℕ) (bytes : List ℕ) → wanted ≡ number + i → i ≤ length later
    → read_cell number start later end wanted bytes
    ≡ weight_within (start_at start later i) (end_at later end i) (read_offset (end_at later end i - start_at start later i) bytes)
in_cell number start [] end wanted zero bytes is fits =
    let test : nat_eq wanted number ≡ true = (let e : wanted ≡ number = omega arith in grind (arith, nat_tests)) in
    one_cell number wanted (weight_within start end (read_offset (end - start) bytes)) None true test
in_cell number start [] end wanted (suc i) bytes is fits = absurd (omega arith)
in_cell number start (next ∷ later) end wanted zero bytes is fits =
    let test : nat_eq wanted number ≡ true = (let e : wanted ≡ number = omega arith in grind (arith, nat_tests)) in
    one_cell number wanted (weight_within start next (read_offset (next - start) bytes)) (read_cell (suc number) next later end wanted bytes) true test
in_cell number start (next ∷ later) end wanted (suc i) bytes is fits =
    let test : nat_eq wanted number ≡ false = (let lt : number < wanted = omega arith in grind (arith, nat_tests)) in
    one_cell number wanted (weight_within start next (read_offset (next - start) bytes)) (read_cell (suc number) next later end wanted bytes) false test
    ∙ in_cell (suc number) next later end wanted i bytes (omega arith) (omega arith)

-- what a program read, by the start and the end that it found
pub cell_found : (number start : ℕ) (later : List ℕ) (end wanted i first last : ℕ) (bytes : List ℕ) (o : Option ReadNumber) → wanted ≡ number + i → i ≤ length later
    → first ≡ start_at start later i → last ≡ end_at later end i → o ≡ weight_within first last (read_offset (last - first) bytes)
    → o ≡ read_cell number start later end wanted bytes
cell_found number start later end wanted i first last bytes o is fits starts ends found =
    found
    ∙ ap (λ (n : ℕ). weight_within n last (read_offset (last - n) bytes)) starts
    ∙ ap (λ (n : ℕ). weight_within (start_at start later i) n (read_offset (n - start_at start later i) bytes)) ends
    ∙ sym (in_cell number start later end wanted i bytes is fits)
