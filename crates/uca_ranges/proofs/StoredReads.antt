-- Steps of reading level 1 of a stored key.
use Rattle.std.proofs.Common.{◌≡◌, ◌≢◌, ℕ, suc, ◌+◌, ◌<◌, ◌≤◌, List, [], ◌∷◌, Bool, true, false, cond, Option, Some, None, option_map, nat_eq, length, get_or, drop, drop-cons, refl, ap, sym, ◌∙◌, arith, append-nil}
use Rattle.std.proofs.lemmas.List.{drop_all}
use Rattle.std.proofs.lemmas.Bool.Decides.{nat_tests}
use Rattle.uca_compact.specs.StoredParts.{StoredLevel, stored_level}
use Rattle.uca_compact.specs.inside.StoredEnds.{weights_before}
use Rattle.uca_compact.proofs.StoredSteps.{single_left}

-- the weights of a level
abbrev pub weights_read : Option StoredLevel → Option (List ℕ)
weights_read o = option_map (λ level. level.weights) o

-- the next two bytes
pub two_at : (bytes : List ℕ) (at : ℕ) → at + 1 < length bytes → drop at bytes ≡ get_or bytes at 0 ∷ get_or bytes (at + 1) 0 ∷ drop (at + 2) bytes
two_at bytes at h =
    let one : suc at ≡ at + 1 = omega arith in
    let two : suc (at + 1) ≡ at + 2 = omega arith in
    drop-cons bytes at 0 (omega arith)
    ∙ ap (λ (n : ℕ). get_or bytes at 0 ∷ drop n bytes) one
    ∙ ap (λ (xs : List ℕ). get_or bytes at 0 ∷ xs) (drop-cons bytes (at + 1) 0 h)
    ∙ ap (λ (n : ℕ). get_or bytes at 0 ∷ get_or bytes (at + 1) 0 ∷ drop n bytes) two

-- the key ends with a level, or in a single byte
ends_by : (front bytes : List ℕ) (at : ℕ) (all : Option StoredLevel) (t : Bool) → nat_eq at (length bytes) ≡ t → at ≤ length bytes → length bytes ≤ at + 1
    → weights_before front (stored_level (drop at bytes)) ≡ all → weights_read all ≡ cond t (Some front) None
ends_by front bytes at all true test within end h =
    let same : at ≡ length bytes = grind (arith, nat_tests) in
    let none : drop at bytes ≡ [] = drop_all at bytes (omega arith) in
    ap weights_read (sym h) ∙ ap (λ (xs : List ℕ). weights_read (weights_before front (stored_level xs))) none ∙ ap (λ (xs : List ℕ). Some xs) (append-nil front)
ends_by front bytes at all false test within end h =
    let apart : at ≢ length bytes = grind (arith, nat_tests) in
    ap weights_read (single_left front bytes at all within end apart h)

-- by the test of a program
pub key_ends : (front bytes : List ℕ) (at : ℕ) (all : Option StoredLevel) → at ≤ length bytes → length bytes ≤ at + 1
    → weights_before front (stored_level (drop at bytes)) ≡ all → weights_read all ≡ cond (nat_eq at (length bytes)) (Some front) None
key_ends front bytes at all within end h = ends_by front bytes at all (nat_eq at (length bytes)) refl within end h
