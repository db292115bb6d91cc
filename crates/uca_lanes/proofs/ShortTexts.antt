-- Two short texts: with zeros after each, or by the numbers that their bytes spell.
use Rattle.std.proofs.Common.{inl, inr, ◌≡◌, ℕ, suc, ◌+◌, ◌-◌, ◌<◌, ◌≤◌, ◌↔◌, List, ◌++◌, length, length-append, get_or, min, replicate, take, drop, refl, sym, subst, ap, ap₂, ◌∙◌, arith, append_assoc, take_all}
use Rattle.std.specs.Str.{IsUtf8}
use Rattle.std.specs.Simd.Lanes.{chunk, digits_l, number_l}
use Rattle.std.proofs.lemmas.Bool.{cases_lt}
use Rattle.std.proofs.lemmas.List.{get_or-take, get_or_append_left, get_or_at, take_at, drop_at, length-take}
use Rattle.std.proofs.lemmas.Simd.{length-chunk}
use Rattle.std.proofs.lemmas.Str.{IsUtf8-append, IsUtf8-take, IsUtf8-drop, IsCharBoundary-before_ascii}
use Rattle.simdutf8.proofs.StepsLemmas.{IsUtf8-append_ascii, IsUtf8-after_ascii, IsAscii-replicate}
use Rattle.uca_lanes.specs.Shared.{IsEarly, IsSharedLen}
use Rattle.uca_lanes.specs.inside.Ends.{first_eight}
use Rattle.uca_lanes.specs.inside.Lanes.{IsSameRun}
use Rattle.uca_lanes.specs.inside.Marks.{joined}
use Rattle.uca_lanes.proofs.LaneSteps.{same_front}
use Rattle.uca_lanes.proofs.MaskSteps.{AreBytes, chunk_are, spelled}
use Rattle.uca_lanes.proofs.Whole.{ends}

abbrev zeros : ℕ → List ℕ
zeros n = replicate n 0

-- so many bytes, with zeros up to sixteen
abbrev padded : List ℕ → List ℕ
padded bytes = bytes ++ zeros (16 - length bytes)

-- ---- Whether both are UTF-8

-- a zero parts a text in two
zero_parts : (left rest : List ℕ) (n : ℕ) → IsUtf8 (left ++ (zeros (suc n) ++ rest)) → IsUtf8 left × IsUtf8 rest
zero_parts left rest n text =
    let all = left ++ (zeros (suc n) ++ rest) in
    let here = IsCharBoundary-before_ascii all (length left) (omega (arith, length-append left (zeros (suc n) ++ rest)))
    (omega (arith, get_or_at left 0 (zeros n ++ rest) 0 (length left) refl)) in (
      subst IsUtf8 (take_at left (zeros (suc n) ++ rest) (length left) refl) (IsUtf8-take all (length left) text here),
      (IsUtf8-after_ascii (zeros (suc n)) rest (IsAscii-replicate (suc n) 0 (omega arith))).0
          (subst IsUtf8 (drop_at left (zeros (suc n) ++ rest) (length left) refl) (IsUtf8-drop all (length left) text here)),
    )

pub both_texts : (left right one other : List ℕ) → length left ≤ 15 → one ≡ padded left → other ≡ padded right
    → IsUtf8 (joined one other 0) ↔ (IsUtf8 left × IsUtf8 right)
both_texts left right one other few is is_too =
    let n = 15 - length left in
    let some : 16 - length left ≡ suc n = omega (arith, few) in
    let zeros_after = IsUtf8-append_ascii right (zeros (16 - length right)) (IsAscii-replicate (16 - length right) 0 (omega arith)) in
    let zeros_before = IsUtf8-after_ascii (zeros (suc n)) (padded right) (IsAscii-replicate (suc n) 0 (omega arith)) in
    let same : joined one other 0 ≡ left ++ (zeros (suc n) ++ padded right) =
    ap₂ (λ l m. l ++ m) (is ∙ ap (λ k. left ++ zeros k) some) is_too ∙ append_assoc left (zeros (suc n)) (padded right) in (
      λ u. (let parts = zero_parts left (padded right) n (subst IsUtf8 same u) in (parts.0, zeros_after.0 parts.1)),
      λ h. subst IsUtf8 (sym same) (IsUtf8-append left (zeros (suc n) ++ padded right) h.0 (zeros_before.1 (zeros_after.1 h.1))),
    )

-- ---- Whether both are the same

zeroth : (k : ℕ) → 0 + k ≡ k
zeroth k = omega arith

-- sixteen bytes are the same in both
same_sixteen : (one other : List ℕ) → length one ≡ 16 → length other ≡ 16 → IsSameRun one other 0 0 16 16 → one ≡ other
same_sixteen one other long long_too run =
    sym (take_all 16 one (omega (arith, long)))
    ∙ same_front 16 one other (omega (arith, long)) (omega (arith, long_too)) (λ i below. subst (λ n. get_or one n 0 ≡ get_or other n 0) (zeroth i) (run.are i below))
    ∙ take_all 16 other (omega (arith, long_too))

-- bytes of one length that spell one number
pub same_number : (k : ℕ) (xs ys : List ℕ) → AreBytes xs → AreBytes ys → length xs ≤ k → length xs ≡ length ys → number_l 256 xs ≡ number_l 256 ys → xs ≡ ys
same_number k xs ys are are_too few long same =
    sym (take_at xs (zeros (k - length xs)) (length xs) refl)
    ∙ ap (take (length xs)) (sym (spelled k xs are few) ∙ ap (digits_l 256 k) same ∙ spelled k ys are_too (omega (arith, few, long)))
    ∙ take_at ys (zeros (k - length ys)) (length xs) (sym long)

-- the first bytes are the same, and the last ones
same_halves : (h : ℕ) (left right : List ℕ) → length left ≡ length right → h ≤ length left → length left ≤ h + h
    → chunk 0 h left ≡ chunk 0 h right → chunk (length left - h) h left ≡ chunk (length left - h) h right → left ≡ right
same_halves h left right long some few front back =
    sym (ends h left some few)
    ∙ ap₂ (λ f b. f ++ drop (h + h - length left) b) front back
    ∙ ap (λ n. chunk 0 h right ++ drop (h + h - n) (chunk (n - h) h right)) long
    ∙ ends h right (omega (arith, some, long)) (omega (arith, few, long))

-- up to sixteen bytes, by two numbers
pub same_eights : (left right : List ℕ) → AreBytes left → AreBytes right → length left ≡ length right → 8 ≤ length left → length left ≤ 16
    → number_l 256 (chunk 0 8 left) ≡ number_l 256 (chunk 0 8 right)
    → number_l 256 (chunk (length left - 8) 8 left) ≡ number_l 256 (chunk (length left - 8) 8 right) → left ≡ right
same_eights left right are are_too long some few first last =
    let at = length left - 8 in
    let same : (k : ℕ) → k + 8 ≤ length left → number_l 256 (chunk k 8 left) ≡ number_l 256 (chunk k 8 right) → chunk k 8 left ≡ chunk k 8 right =
    (λ k within number.
    let here = length-chunk k 8 left within in
    let there = length-chunk k 8 right (omega (arith, within, long)) in
    same_number 8 (chunk k 8 left) (chunk k 8 right) (chunk_are k 8 left are) (chunk_are k 8 right are_too) (omega (arith, here)) (here ∙ sym there) number) in
    same_halves 8 left right long some (omega (arith, few)) (same 0 (omega (arith, some)) first) (same at (omega (arith, some)) last)

-- more than sixteen bytes, by the first sixteen and the last sixteen
pub same_ends : (left right : List ℕ) → length left ≡ length right → 16 < length left → length left ≤ 32
    → IsSameRun (chunk 0 16 left) (chunk 0 16 right) 0 0 16 16
    → IsSameRun (chunk (length left - 16) 16 left) (chunk (length left - 16) 16 right) 0 0 16 16 → left ≡ right
same_ends left right long some few fronts backs =
    let at = length left - 16 in
    let same : (k : ℕ) → k + 16 ≤ length left → IsSameRun (chunk k 16 left) (chunk k 16 right) 0 0 16 16 → chunk k 16 left ≡ chunk k 16 right =
    (λ k within run.
    same_sixteen (chunk k 16 left) (chunk k 16 right) (length-chunk k 16 left within) (length-chunk k 16 right (omega (arith, within, long))) run) in
    same_halves 16 left right long (omega (arith, some)) (omega (arith, few)) (same 0 (omega (arith, some)) fronts) (same at (omega (arith, some)) backs)

-- ---- What they have in common

in_padded : (bytes lanes : List ℕ) (i : ℕ) → lanes ≡ padded bytes → i < length bytes → get_or lanes i 0 ≡ get_or bytes i 0
in_padded bytes lanes i is within = ap (λ l. get_or l i 0) is ∙ get_or_append_left bytes (zeros (16 - length bytes)) 0 i within

pub shared_of_padded : (left right one other : List ℕ) (same shared : ℕ) → length left ≤ 16 → length right ≤ 16 → one ≡ padded left → other ≡ padded right
    → IsSameRun one other 0 0 16 same → shared ≡ min same (min (length left) (length right)) → IsSharedLen left right shared
shared_of_padded left right one other same shared few few_too is is_too run least = record {
  in_left = omega (arith, least);
  in_right = omega (arith, least);
  same = same_front shared left right (omega (arith, least)) (omega (arith, least))
      (λ i below. are i (omega (arith, least, below)) (omega (arith, least, below)) (omega (arith, least, below)));
  apart = λ more more_too.
      let all : shared ≡ same = omega (arith, least, more, more_too) in
      subst (λ n. n < length left → n < length right → get_or left n 0 ≡ get_or right n 0 → ⊥) (sym all) apart_at more more_too;
}
  where
    are : (i : ℕ) → i < same → i < length left → i < length right → get_or left i 0 ≡ get_or right i 0
    are i below within within_too =
        sym (in_padded left one i is within)
        ∙ subst (λ n. get_or one n 0 ≡ get_or other n 0) (zeroth i) (run.are i below)
        ∙ in_padded right other i is_too within_too

    apart_at : same < length left → same < length right → get_or left same 0 ≡ get_or right same 0 → ⊥
    apart_at within within_too equal =
        run.apart (omega (arith, within, few)) (subst (λ n. get_or one n 0 ≡ get_or other n 0) (sym (zeroth same))
        (in_padded left one same is within ∙ equal ∙ sym (in_padded right other same is_too within_too)))

-- so it is of the first sixteen bytes of longer texts
pub shared_of_fronts : (left right one other : List ℕ) (same shared : ℕ) → one ≡ take 16 left ++ zeros (16 - length left)
    → other ≡ take 16 right ++ zeros (16 - length right) → IsSameRun one other 0 0 16 same → shared ≡ min same (min (length left) (length right))
    → IsSharedLen (take 16 left) (take 16 right) shared
shared_of_fronts left right one other same shared is is_too run least =
    shared_of_padded (take 16 left) (take 16 right) one other same shared (omega (arith, length-take 16 left)) (omega (arith, length-take 16 right))
    (is ∙ pad left) (is_too ∙ pad right) run (omega (arith, least, run.within, length-take 16 left, length-take 16 right))
  where
    pad : (bytes : List ℕ) → take 16 bytes ++ zeros (16 - length bytes) ≡ padded (take 16 bytes)
    pad bytes = ap (λ n. take 16 bytes ++ zeros n) (omega (arith, length-take 16 bytes))

-- and of the first eight
in_first : (bytes : List ℕ) (i : ℕ) → i < length (take 8 bytes) → get_or (first_eight bytes) i 0 ≡ get_or (take 8 bytes) i 0
in_first bytes i within = get_or_append_left (take 8 bytes) (zeros (8 - length bytes)) 0 i within

pub shared_of_first : (left right : List ℕ) (same shared : ℕ) → IsSameRun (first_eight left) (first_eight right) 0 0 8 same
    → shared ≡ min same (min (length left) (length right)) → IsSharedLen (take 8 left) (take 8 right) shared
shared_of_first left right same shared run least = record {
  in_left = omega (arith, least, run.within, length-take 8 left);
  in_right = omega (arith, least, run.within, length-take 8 right);
  same = same_front shared (take 8 left) (take 8 right) (omega (arith, least, run.within, length-take 8 left)) (omega (arith, least, run.within, length-take 8 right))
      (λ i below. sym (in_first left i (omega (arith, least, run.within, below, length-take 8 left)))
      ∙ subst (λ n. get_or (first_eight left) n 0 ≡ get_or (first_eight right) n 0) (zeroth i) (run.are i (omega (arith, least, below)))
      ∙ in_first right i (omega (arith, least, run.within, below, length-take 8 right)));
  apart = λ more more_too.
      let all : shared ≡ same = omega (arith, least, more, more_too, length-take 8 left, length-take 8 right) in
      λ equal. run.apart (omega (arith, all, more, length-take 8 left))
      (subst (λ n. get_or (first_eight left) n 0 ≡ get_or (first_eight right) n 0) (all ∙ sym (zeroth same))
      (in_first left shared more ∙ equal ∙ sym (in_first right shared more_too)));
}

-- where one of them has no more bytes, no number is as `IsEarly` says
pub none_early : (left right : List ℕ) (same : ℕ) → IsSameRun (first_eight left) (first_eight right) 0 0 8 same
    → min (length left) (length right) ≤ same → (k : ℕ) → IsEarly left right k → ⊥
none_early left right same run ended k early = elim (cases_lt k shared) [
  | inl less ↦ early.shared.apart (omega (arith, less, known.in_left)) (omega (arith, less, known.in_right))
      (sym (get_or-take shared (take 8 left) k 0 less) ∙ ap (λ l. get_or l k 0) known.same ∙ get_or-take shared (take 8 right) k 0 less)
  | inr more ↦ omega (arith, ended, more, early.more.0, early.more.1)
]
  where
    shared : ℕ
    shared = min same (min (length left) (length right))

    known : IsSharedLen (take 8 left) (take 8 right) shared
    known = shared_of_first left right same shared run refl
