-- The bytes that are judged are those of the slice, or those and zeros.
use Rattle.std.proofs.Common.{◌≡◌, ℕ, ◌+◌, ◌-◌, ◌<◌, ◌≤◌, ◌↔◌, Bool, IsTrue, List, ◌++◌, length, take, drop, replicate, sym, subst, ap, ◌∙◌, arith, take-append-drop, take_all, append-nil}
use Rattle.std.specs.Bool.{MatchBool}
use Rattle.std.specs.Str.{IsUtf8}
use Rattle.std.specs.Simd.Lanes.{chunk}
use Rattle.std.proofs.lemmas.Bool.{cases_from_iff}
use Rattle.std.proofs.lemmas.List.{drop-drop, length-drop}
use Rattle.simdutf8.proofs.StepsLemmas.{IsUtf8-append_ascii, IsAscii-replicate}
use Rattle.uca_lanes.specs.inside.Marks.{joined}

zero_is_ascii : 0 < 128
zero_is_ascii = omega arith

-- few bytes are judged with zeros after them
padded_judged : (bytes lanes : List ℕ) → lanes ≡ bytes ++ replicate (16 - length bytes) 0 → IsUtf8 lanes ↔ IsUtf8 bytes
padded_judged bytes lanes spelled =
    let pad : List ℕ = replicate (16 - length bytes) 0 in
    let plain = IsUtf8-append_ascii bytes pad (IsAscii-replicate (16 - length bytes) 0 zero_is_ascii) in
    (λ u. plain.0 (subst IsUtf8 spelled u), λ u. subst IsUtf8 (sym spelled) (plain.1 u))

-- and with no byte of the back
pub with_zeros_judged : (bytes lanes : List ℕ) → lanes ≡ bytes ++ replicate (16 - length bytes) 0 → IsUtf8 (joined lanes (replicate 16 0) 16) ↔ IsUtf8 bytes
with_zeros_judged bytes lanes spelled =
    let judged = padded_judged bytes lanes spelled in
    let same : joined lanes (replicate 16 0) 16 ≡ lanes = append-nil lanes in
    (λ u. judged.0 (subst IsUtf8 same u), λ u. subst IsUtf8 (sym same) (judged.1 u))

pub of_few : (bytes lanes : List ℕ) (t : Bool) → lanes ≡ bytes ++ replicate (16 - length bytes) 0 → (IsTrue t ↔ IsUtf8 (joined lanes (replicate 16 0) 16))
    → MatchBool t (IsUtf8 bytes) (¬ (IsUtf8 bytes))
of_few bytes lanes t spelled judged =
    let whole = with_zeros_judged bytes lanes spelled in
    cases_from_iff (λ on. whole.0 (judged.0 on), λ u. judged.1 (whole.1 u))

-- the first bytes and the last ones are all, where there are enough of both
pub ends : (h : ℕ) (bytes : List ℕ) → h ≤ length bytes → length bytes ≤ h + h
    → chunk 0 h bytes ++ drop (h + h - length bytes) (chunk (length bytes - h) h bytes) ≡ bytes
ends h bytes some few =
    let at = length bytes - h in
    let both = h + h - length bytes in
    let reached : at + both ≡ h = omega (arith, some, few) in
    let is_back : chunk at h bytes ≡ drop at bytes = take_all h (drop at bytes) (omega (arith, length-drop at bytes, some)) in
    let rest : drop both (chunk at h bytes) ≡ drop h bytes = ap (drop both) is_back ∙ drop-drop both at bytes ∙ ap (λ k. drop k bytes) reached in
    ap (λ l. take h bytes ++ l) rest ∙ take-append-drop h bytes

pub of_ends : (bytes : List ℕ) (t : Bool) → 16 < length bytes → length bytes ≤ 32
    → (IsTrue t ↔ IsUtf8 (joined (chunk 0 16 bytes) (chunk (length bytes - 16) 16 bytes) (32 - length bytes))) → IsTrue t ↔ IsUtf8 bytes
of_ends bytes t some few judged =
    let same = ends 16 bytes (omega (arith, some)) (omega (arith, few)) in
    (λ on. subst IsUtf8 same (judged.0 on), λ u. judged.1 (subst IsUtf8 (sym same) u))

pub of_more : (bytes : List ℕ) (t : Bool) → 16 < length bytes → length bytes ≤ 32
    → (IsTrue t ↔ IsUtf8 (joined (chunk 0 16 bytes) (chunk (length bytes - 16) 16 bytes) (32 - length bytes))) → MatchBool t (IsUtf8 bytes) (¬ (IsUtf8 bytes))
of_more bytes t some few judged = cases_from_iff (of_ends bytes t some few judged)
