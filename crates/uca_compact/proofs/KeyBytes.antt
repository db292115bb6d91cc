-- Steps of writing the bytes of stored keys.
use Rattle.std.proofs.Common.{◌≡◌, ℕ, ◌-◌, ◌≤◌, List, [], ◌∷◌, ◌++◌, Bool, true, false, cond, Option, Some, None, option_map, nat_eq, length, take, replicate, refl, ap, sym, ◌∙◌, arith, append_assoc, append-nil, IsUtf8}
use Rattle.std.specs.Str.{chars, is_utf8}
use Rattle.std.proofs.lemmas.Bool.Decides.{nat_tests}
use Rattle.std.proofs.Math.Seq.{take-append_seam}
use Rattle.std.proofs.lemmas.List.{flat_map_more, take_all}
use Rattle.std.proofs.lemmas.Str.{IsUtf8-from_is_utf8, is_utf8-from_IsUtf8}
use Rattle.uca_weights.specs.declared.Depth.{Depth}
use Rattle.uca_weights.specs.declared.Depth.TheVariants.{Weights, Identical}
use Rattle.uca_order.specs.Levels.{level_bytes}
use Rattle.uca_order.specs.Depths.{point_bytes, points_bytes}
use Rattle.uca_compact.specs.inside.LevelSteps.{key_end}

-- ---- Weights

-- the weights are written after a key with room for them
pub weights_added : (key room given new ws : List ℕ) (start before len : ℕ) → before ≡ length key → start ≡ before → start ≤ len
    → room ≡ take len key ++ replicate (len - before) 0 → given ≡ room → new ≡ take start given ++ level_bytes ws → new ≡ key ++ level_bytes ws
weights_added key room given new ws start before len is same fits made lent put =
    let front : start ≡ length key = same ∙ is in
    put ∙ ap (λ (xs : List ℕ). xs ++ level_bytes ws)
    (ap (take start) (lent ∙ made ∙ ap (λ (xs : List ℕ). xs ++ replicate (len - before) 0) (take_all len key (omega arith)))
    ∙ ap (λ (n : ℕ). take n (key ++ replicate (len - before) 0)) front ∙ take-append_seam key (replicate (len - before) 0))

-- ---- Code points

-- one more code point is written
pub point_written : (front key new points bytes : List ℕ) (point : ℕ) → key ≡ front ++ points_bytes points → bytes ≡ point_bytes point → new ≡ key ++ bytes
    → new ≡ front ++ points_bytes (points ++ point ∷ [])
point_written front key new points bytes point so_far is added =
    added
    ∙ ap (λ (xs : List ℕ). xs ++ bytes) so_far
    ∙ ap (λ (xs : List ℕ). (front ++ points_bytes points) ++ xs) is
    ∙ flat_map_more point_bytes front points point

-- ---- The end of a key

-- the test of bytes that are no UTF-8
not_utf8 : (bytes : List ℕ) (t : Bool) → is_utf8 bytes ≡ t → ¬ (IsUtf8 bytes) → t ≡ false
not_utf8 bytes true test other = absurd (other (IsUtf8-from_is_utf8 bytes test))
not_utf8 bytes false test other = refl

-- a key ends so, by the test
abbrev pub ended_by : (front bytes : List ℕ) → Bool → Option (List ℕ)
ended_by front bytes t = option_map (λ (more : List ℕ). front ++ more) (cond t (Some (0 ∷ 0 ∷ points_bytes (chars bytes))) None)

pub no_identical : (front bytes : List ℕ) → ¬ (IsUtf8 bytes) → option_map (λ more. front ++ more) (key_end Identical bytes) ≡ None
no_identical front bytes other = ap (ended_by front bytes) (not_utf8 bytes (is_utf8 bytes) refl other)

pub identical_written : (front one two bytes text : List ℕ) → IsUtf8 bytes → text ≡ bytes → one ≡ front ++ 0 ∷ 0 ∷ [] → two ≡ one ++ points_bytes (chars text)
    → option_map (λ more. front ++ more) (key_end Identical bytes) ≡ Some two
identical_written front one two bytes text utf8 same w1 w2 =
    let all : two ≡ front ++ (0 ∷ 0 ∷ points_bytes (chars bytes)) =
    w2 ∙ ap (λ (xs : List ℕ). xs ++ points_bytes (chars text)) w1 ∙ append_assoc front (0 ∷ 0 ∷ []) (points_bytes (chars text))
    ∙ ap (λ (xs : List ℕ). front ++ (0 ∷ 0 ∷ points_bytes (chars xs))) same in
    ap (ended_by front bytes) (is_utf8-from_IsUtf8 bytes utf8) ∙ ap (λ (xs : List ℕ). Some xs) (sym all)

-- without an identical level no byte follows
pub weights_end : (front bytes : List ℕ) (t : Bool) → t ≡ nat_eq (length bytes) 0
    → option_map (λ more. front ++ more) (key_end Weights bytes) ≡ cond t (Some front) None
weights_end front [] t is = ap (λ (xs : List ℕ). Some xs) (append-nil front) ∙ ap (λ (b : Bool). cond b (Some front) None) (sym is)
weights_end front (byte ∷ bytes) t is =
    let test : nat_eq (length (byte ∷ bytes)) 0 ≡ false = grind (arith, nat_tests) in
    ap (λ (b : Bool). cond b (Some front) None) (sym (is ∙ test))

-- at a depth
pub end_at_depth : (front bytes : List ℕ) (d e : Depth) (o : Option (List ℕ)) → d ≡ e → option_map (λ more. front ++ more) (key_end e bytes) ≡ o
    → option_map (λ more. front ++ more) (key_end d bytes) ≡ o
end_at_depth front bytes d e o is h = ap (λ (x : Depth). option_map (λ (more : List ℕ). front ++ more) (key_end x bytes)) is ∙ h
