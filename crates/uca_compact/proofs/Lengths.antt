-- A compact key is at most about twice as long as its key.
use Rattle.std.proofs.Common.{◌≡◌, ℕ, zero, suc, ◌+◌, ◌*◌, ◌-◌, ◌/◌, ◌%◌, ◌≤◌, List, [], ◌∷◌, ◌++◌, length, nat_lt, nat_eq, refl, arith, length-append, encode_utf8, encode_utf8_all}
use Rattle.std.specs.Ordering.{nat_cmp}
use Rattle.std.specs.Str.{bytes_eq}
use Rattle.std.specs.declared.cmp.Ordering.{Ordering}
use Rattle.std.specs.declared.cmp.Ordering.TheVariants.{Less, Equal, Greater}
use Rattle.std.proofs.lemmas.Bool.{cond_both}
use Rattle.std.proofs.lemmas.Str.{length-encode, len_utf8_bounds}
use Rattle.uca_weights.specs.declared.Depth.{Depth}
use Rattle.uca_weights.specs.declared.Depth.TheVariants.{Weights, Identical}
use Rattle.uca_weights.specs.declared.Weighting.{Weighting}
use Rattle.uca_order.specs.Levels.{level_bytes, levels_bytes}
use Rattle.uca_order.specs.Depths.{points_bytes}
use Rattle.uca_books.specs.Books.{BookContent}
use Rattle.uca_compact.specs.Forms.{Form, full, first_cell, forms_of}
use Rattle.uca_compact.specs.PlainLevels.{plain_level}
use Rattle.uca_compact.specs.CompactKeys.{offset_bytes, cell, run_before_greater, written, run_after, level_code, Plain, end_of, ended_level, later_levels, compact, KeyParts, stored_key, compact_key}

-- ---- Weights

abbrev AtMost : ℕ → List ℕ → Type 0
AtMost most bytes = length bytes ≤ most

offset_short : (width offset : ℕ) → AtMost 2 (offset_bytes width offset)
offset_short width offset =
    let small : AtMost 2 (offset ∷ []) = omega arith in
    let great : AtMost 2 (offset / 256 ∷ offset % 256 ∷ []) = omega arith in
    cond_both (nat_lt width 2) _ _ (AtMost 2) (λ one. omega arith) (λ more. cond_both (nat_lt width 257) _ _ (AtMost 2) (λ fits. small) (λ no. great))

cell_short : (number start : ℕ) (later : List ℕ) (end w : ℕ) → AtMost 3 (cell number start later end w)
cell_short number start [] end w = let rest = offset_short (end - start) (w - start) in omega (arith, rest)
cell_short number start (next ∷ later) end w =
    let rest = offset_short (next - start) (w - start) in
    let here : AtMost 3 (number ∷ offset_bytes (next - start) (w - start)) = omega (arith, rest) in
    cond_both (nat_lt w next) _ _ (AtMost 3) (λ yes. here) (λ no. cell_short (suc number) next later end w)

run_short : (f : Form) (run : ℕ) → AtMost 1 (run_before_greater f run)
run_short f zero = omega arith
run_short f (suc n) = omega arith

written_short : (f : Form) (run w : ℕ) (order : Ordering) → AtMost 4 (written f run w order)
written_short f run w Less = let rest = cell_short 0 1 f.lesser f.common w in omega (arith, rest)
written_short f run w Equal =
    let one : AtMost 4 (full f ∷ []) = omega arith in
    cond_both (nat_eq (suc run) f.longest) _ _ (AtMost 4) (λ yes. one) (λ no. omega arith)
written_short f run w Greater =
    let rest = cell (first_cell f) (suc f.common) f.greater 65536 w in
    omega (arith, length-append (run_before_greater f run) rest, run_short f run, cell_short (first_cell f) (suc f.common) f.greater 65536 w)

-- ---- Levels

level_short : (f : Form) (end run : ℕ) (ws : List ℕ) → AtMost (4 * length ws + 1) (level_code f end run ws)
level_short f end run [] = omega arith
level_short f end run (w ∷ ws) =
    let front = written f run w (nat_cmp w f.common) in
    let rest = level_code f end (run_after f run (nat_cmp w f.common)) ws in
    omega (arith, length-append front rest, written_short f run w (nat_cmp w f.common), level_short f end (run_after f run (nat_cmp w f.common)) ws)

-- what levels need at most
abbrev needed : List (List ℕ) → ℕ
needed [] = 0
needed (level ∷ later) = 4 * length level + 1 + needed later

ended_short : (plain : Plain) (f : Form) (earlier : List (List ℕ)) (level : List ℕ) (later : List (List ℕ))
    → AtMost (4 * length level + 1) (ended_level plain f earlier level later)
ended_short plain f earlier level later = level_short f (end_of plain (length later) (earlier ++ level ∷ []) later) 0 level

later_short : (plain : Plain) (forms : List Form) (earlier levels : List (List ℕ)) → AtMost (needed levels) (later_levels plain forms earlier levels)
later_short plain forms earlier [] = omega arith
later_short plain [] earlier (level ∷ later) = omega arith
later_short plain (f ∷ forms) earlier (level ∷ later) =
    let rest = later_levels plain forms (earlier ++ level ∷ []) later in
    let more = later_short plain forms (earlier ++ level ∷ []) later in
    let front = ended_level plain f earlier level later in
    let all : AtMost (needed (level ∷ later)) (front ++ rest) = omega (arith, length-append front rest, ended_short plain f earlier level later, more) in
    let less : AtMost (needed (level ∷ later)) rest = omega (arith, more) in
    cond_both (bytes_eq level (plain earlier)) _ _ (AtMost (needed (level ∷ later))) (λ left_out. less) (λ written. all)

compact_short : (plain : Plain) (forms : List Form) (levels : List (List ℕ)) → AtMost (needed levels) (compact plain forms levels)
compact_short plain forms [] = omega arith
compact_short plain [] (level ∷ later) = omega arith
compact_short plain (f ∷ forms) (level ∷ later) =
    let front = ended_level plain f [] level later in
    let rest = later_levels plain forms (level ∷ []) later in
    omega (arith, length-append front rest, ended_short plain f [] level later, later_short plain forms (level ∷ []) later)

-- ---- Keys

level_twice : (ws : List ℕ) → length (level_bytes ws) ≡ 2 * length ws
level_twice [] = refl
level_twice (w ∷ ws) = omega (arith, level_twice ws)

needed_short : (levels : List (List ℕ)) → needed levels ≤ 2 * length (levels_bytes levels) + 1
needed_short [] = omega arith
needed_short (a ∷ []) = omega (arith, level_twice a)
needed_short (a ∷ b ∷ more) =
    let rest = 0 ∷ 0 ∷ levels_bytes (b ∷ more) in
    omega (arith, level_twice a, length-append (level_bytes a) rest, needed_short (b ∷ more))

point_short : (c : ℕ) → AtMost 4 (encode_utf8 c)
point_short c = omega (arith, length-encode c, (len_utf8_bounds c).1)

points_short : (points : List ℕ) → length (encode_utf8_all points) ≤ 2 * length (points_bytes points)
points_short [] = omega arith
points_short (c ∷ points) = omega (arith, length-append (encode_utf8 c) (encode_utf8_all points), point_short c, points_short points)

-- a compact key has at most one byte more than two keys
pub compact_is_short : (depth : Depth) (weighting : Weighting) (b : BookContent) (k : KeyParts)
    → length (compact_key depth weighting b k) ≤ 2 * length (stored_key depth k) + 1
compact_is_short Weights weighting b k =
    let code = compact_short plain_level (forms_of weighting b) k.levels in
    omega (arith, code, needed_short k.levels)
compact_is_short Identical weighting b k =
    let levels = compact plain_level (forms_of weighting b) k.levels in
    let code = compact_short plain_level (forms_of weighting b) k.levels in
    omega (
      arith,
      code,
      needed_short k.levels,
      points_short k.points,
      length-append levels (encode_utf8_all k.points),
      length-append (levels_bytes k.levels) (0 ∷ 0 ∷ points_bytes k.points),
    )
