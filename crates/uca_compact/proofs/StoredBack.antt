-- The parts of stored keys are read, and nothing is read from other bytes.
use Rattle.std.proofs.Common.{◌≡◌, ℕ, zero, suc, ◌+◌, ◌*◌, ◌-◌, ◌/◌, ◌%◌, ◌<◌, List, [], ◌∷◌, ◌++◌, Bool, true, false, ◌&&◌, cond, Option, Some, None, option_map, nat_eq, length, refl, ap, sym, subst, ◌∙◌, arith, append_assoc, append-nil}
use Rattle.std.specs.List.{AllByRecursion}
use Rattle.std.specs.Str.{all_scalars}
use Rattle.std.proofs.lemmas.Bool.Decides.{nat_tests}
use lib.Utf8.{scalar}
use Rattle.uca_weights.specs.declared.Depth.{Depth}
use Rattle.uca_weights.specs.declared.Depth.TheVariants.{Weights, Identical}
use Rattle.uca_weights.specs.declared.Weighting.{Weighting}
use Rattle.uca_weights.specs.declared.Weighting.TheVariants.{NonIgnorable, Shifted}
use Rattle.uca_order.specs.Levels.{level_bytes, levels_bytes, level_count}
use Rattle.uca_order.specs.Depths.{points_bytes}
use Rattle.uca_compact.specs.Forms.{AreWeights, AreLevels}
use Rattle.uca_compact.specs.CompactKeys.{KeyParts, points_at, stored_key}
use Rattle.uca_compact.specs.StoredParts.{StoredLevel, weight_then, stored_level, stored_points, points_after, level_before, after_level, parts_from, stored_parts}
use Rattle.uca_compact.specs.Laws.{StoredKeysAreRead, OnlyStoredKeysAreRead}
use Rattle.uca_compact.proofs.OnlyCells.{AreBytes, bytes_after, nothing, same_some}

-- ---- What stands in a key is read

-- a weight, before a level that is read so
weight_again : (w : ℕ) (more : List ℕ) (l : StoredLevel) → 0 < w → stored_level more ≡ Some l
    → stored_level (w / 256 ∷ w % 256 ∷ more) ≡ Some (record { weights = w ∷ l.weights; rest = l.rest })
weight_again w more l some h =
    let back : 256 * (w / 256) + w % 256 ≡ w = omega arith in
    let test : nat_eq w 0 ≡ false = grind (arith, nat_tests) in
    let ended : Option StoredLevel = Some (record { weights = []; rest = Some more }) in
    ap (λ (n : ℕ). cond (nat_eq n 0) ended (weight_then n (stored_level more))) back
    ∙ ap (λ (t : Bool). cond t ended (weight_then w (stored_level more))) test
    ∙ ap (weight_then w) h

-- a level before 00 00
level_again : (ws rest : List ℕ) → AreWeights ws → stored_level (level_bytes ws ++ (0 ∷ 0 ∷ rest)) ≡ Some (record { weights = ws; rest = Some rest })
level_again [] rest h = refl
level_again (w ∷ ws) rest h = weight_again w (level_bytes ws ++ (0 ∷ 0 ∷ rest)) (record { weights = ws; rest = Some rest }) h.0.0 (level_again ws rest h.1)

-- the last level
last_again : (ws : List ℕ) → AreWeights ws → stored_level (level_bytes ws) ≡ Some (record { weights = ws; rest = None })
last_again [] h = refl
last_again (w ∷ ws) h = weight_again w (level_bytes ws) (record { weights = ws; rest = None }) h.0.0 (last_again ws h.1)

-- two tests that hold
both : (a b : Bool) → (a && b) ≡ true → (a ≡ true) × (b ≡ true)
both true b h = (refl, h)
both false b h = absurd (cc)

-- code points
points_again : (ps : List ℕ) → all_scalars ps ≡ true → stored_points (points_bytes ps) ≡ Some ps
points_again [] h = refl
points_again (c ∷ ps) h =
    let tests = both (scalar c) (all_scalars ps) h in
    let high : c / 65536 ≡ c / 256 / 256 = omega arith in
    let back : 65536 * (c / 65536) + 256 * (c / 256 % 256) + c % 256 ≡ c = omega (arith, high) in
    let found = λ (n : ℕ). option_map (λ (points : List ℕ). n ∷ points) (stored_points (points_bytes ps)) in
    ap (λ (n : ℕ). cond (scalar n) (found n) None) back
    ∙ ap (λ (t : Bool). cond t (found c) None) tests.0
    ∙ ap (option_map (λ (points : List ℕ). c ∷ points)) (points_again ps tests.1)

-- the bytes after the levels
abbrev pub tail_bytes : Depth → List ℕ → List ℕ
tail_bytes Weights points = []
tail_bytes Identical points = 0 ∷ 0 ∷ points_bytes points

key_bytes_are : (depth : Depth) (k : KeyParts) → stored_key depth k ≡ levels_bytes k.levels ++ tail_bytes depth k.points
key_bytes_are Weights k = sym (append-nil (levels_bytes k.levels))
key_bytes_are Identical k = refl

-- the last level of weights, and what follows it
ends_again : (depth : Depth) (ws points : List ℕ) → AreWeights ws → all_scalars points ≡ true → points_at depth points ≡ points
    → parts_from depth 0 (stored_level (level_bytes ws ++ tail_bytes depth points)) ≡ Some (record { levels = ws ∷ []; points = points })
ends_again Weights ws points weights scalars at_depth =
    ap (λ (bytes : List ℕ). parts_from Weights 0 (stored_level bytes)) (append-nil (level_bytes ws))
    ∙ ap (parts_from Weights 0) (last_again ws weights)
    ∙ ap (λ (ps : List ℕ). Some (record { levels = ws ∷ []; points = ps })) at_depth
ends_again Identical ws points weights scalars at_depth =
    ap (parts_from Identical 0) (level_again ws (points_bytes points) weights)
    ∙ ap (λ (o : Option (List ℕ)). level_before ws (option_map (λ (ps : List ℕ). record { levels = []; points = ps }) o)) (points_again points scalars)

levels_again : (depth : Depth) (later : ℕ) (levels : List (List ℕ)) (points : List ℕ) → length levels ≡ suc later → AllByRecursion AreWeights levels
    → all_scalars points ≡ true → points_at depth points ≡ points
    → parts_from depth later (stored_level (levels_bytes levels ++ tail_bytes depth points)) ≡ Some (record { levels = levels; points = points })
levels_again depth later [] points count weights scalars at_depth = absurd (omega (arith, count))
levels_again depth zero (a ∷ []) points count weights scalars at_depth = ends_again depth a points weights.0 scalars at_depth
levels_again depth (suc later) (a ∷ []) points count weights scalars at_depth = absurd (omega (arith, count))
levels_again depth zero (a ∷ b ∷ more) points count weights scalars at_depth = absurd (omega (arith, count))
levels_again depth (suc later) (a ∷ b ∷ more) points count weights scalars at_depth =
    let rest = levels_bytes (b ∷ more) ++ tail_bytes depth points in
    ap (λ (bytes : List ℕ). parts_from depth (suc later) (stored_level bytes)) (append_assoc (level_bytes a) (0 ∷ 0 ∷ levels_bytes (b ∷ more)) (tail_bytes depth points))
    ∙ ap (parts_from depth (suc later)) (level_again a rest weights.0)
    ∙ ap (level_before a) (levels_again depth later (b ∷ more) points (omega (arith, count)) weights.1 scalars at_depth)

count_is : (weighting : Weighting) → level_count weighting ≡ suc (level_count weighting - 1)
count_is NonIgnorable = refl
count_is Shifted = refl

-- the law
pub stored_again : StoredKeysAreRead
stored_again depth weighting k parts =
    ap (λ (bytes : List ℕ). stored_parts depth weighting bytes) (key_bytes_are depth k)
    ∙ levels_again depth (level_count weighting - 1) k.levels k.points (parts.levels.0 ∙ count_is weighting) parts.levels.1 parts.points parts.level

-- ---- What is read stands in a key

-- what follows a level
abbrev rest_bytes : Option (List ℕ) → List ℕ
rest_bytes None = []
rest_bytes (Some bytes) = 0 ∷ 0 ∷ bytes

record IsStored (bytes : List ℕ) (l : StoredLevel) : Type 0 where
  weights : AreWeights l.weights
  is : bytes ≡ level_bytes l.weights ++ rest_bytes l.rest

weight_by : (a b : ℕ) (bytes : List ℕ) (l : StoredLevel) (t : Bool) (o : Option StoredLevel) → nat_eq (256 * a + b) 0 ≡ t → stored_level bytes ≡ o
    → a < 256 → b < 256 → ((k : StoredLevel) → stored_level bytes ≡ Some k → IsStored bytes k)
    → cond t (Some (record { weights = []; rest = Some bytes })) (weight_then (256 * a + b) o) ≡ Some l → IsStored (a ∷ b ∷ bytes) l
weight_by a b bytes l true o test is ha hb more h =
    let high : a ≡ 0 = (let e : 256 * a + b ≡ 0 = grind (arith, nat_tests) in omega arith) in
    let low : b ≡ 0 = (let e : 256 * a + b ≡ 0 = grind (arith, nat_tests) in omega arith) in
    subst (λ (k : StoredLevel). IsStored (a ∷ b ∷ bytes) k) (same_some (record { weights = []; rest = Some bytes }) l h)
    (record { weights = tt; is = ap (λ (n : ℕ). n ∷ b ∷ bytes) high ∙ ap (λ (n : ℕ). 0 ∷ n ∷ bytes) low })
weight_by a b bytes l false None test is ha hb more h = nothing h
weight_by a b bytes l false (Some k) test is ha hb more h =
    let found = more k is in
    let w = 256 * a + b in
    let some : 0 < 256 * a + b = grind (arith, nat_tests) in
    let high : a ≡ (256 * a + b) / 256 = omega arith in
    let low : b ≡ (256 * a + b) % 256 = omega arith in
    subst (λ (y : StoredLevel). IsStored (a ∷ b ∷ bytes) y) (same_some (record { weights = w ∷ k.weights; rest = k.rest }) l h)
    (record {
      weights = ((some, omega arith), found.weights);
      is = ap (λ (n : ℕ). n ∷ b ∷ bytes) high ∙ ap (λ (n : ℕ). w / 256 ∷ n ∷ bytes) low
          ∙ ap (λ (xs : List ℕ). w / 256 ∷ w % 256 ∷ xs) found.is;
    })

level_only : (bytes : List ℕ) → AreBytes bytes → (l : StoredLevel) → stored_level bytes ≡ Some l → IsStored bytes l
level_only [] are l h =
    subst (λ (k : StoredLevel). IsStored [] k) (same_some (record { weights = []; rest = None }) l h) (record { weights = tt; is = refl })
level_only (a ∷ []) are l h = nothing h
level_only (a ∷ b ∷ bytes) are l h =
    weight_by a b bytes l (nat_eq (256 * a + b) 0) (stored_level bytes) refl refl are.0 are.1.0 (level_only bytes are.1.1) h

-- code points that were read
point_by : (a b c : ℕ) (bytes ps : List ℕ) (t : Bool) (o : Option (List ℕ)) → scalar (65536 * a + 256 * b + c) ≡ t → stored_points bytes ≡ o
    → b < 256 → c < 256 → ((qs : List ℕ) → stored_points bytes ≡ Some qs → (all_scalars qs ≡ true) × (bytes ≡ points_bytes qs))
    → cond t (option_map (λ (points : List ℕ). (65536 * a + 256 * b + c) ∷ points) o) None ≡ Some ps → (all_scalars ps ≡ true) × (a ∷ b ∷ c ∷ bytes ≡ points_bytes ps)
point_by a b c bytes ps false o test is hb hc more h = nothing h
point_by a b c bytes ps true None test is hb hc more h = nothing h
point_by a b c bytes ps true (Some qs) test is hb hc more h =
    let found = more qs is in
    let n = 65536 * a + 256 * b + c in
    let high : a ≡ (65536 * a + 256 * b + c) / 65536 = omega arith in
    let middle : b ≡ (65536 * a + 256 * b + c) / 256 % 256 = omega arith in
    let low : c ≡ (65536 * a + 256 * b + c) % 256 = omega arith in
    subst (λ (xs : List ℕ). (all_scalars xs ≡ true) × (a ∷ b ∷ c ∷ bytes ≡ points_bytes xs)) (same_some (n ∷ qs) ps h) (
      ap (λ (u : Bool). u && all_scalars qs) test ∙ found.0,
      ap (λ (x : ℕ). x ∷ b ∷ c ∷ bytes) high ∙ ap (λ (x : ℕ). n / 65536 ∷ x ∷ c ∷ bytes) middle ∙ ap (λ (x : ℕ). n / 65536 ∷ n / 256 % 256 ∷ x ∷ bytes) low
          ∙ ap (λ (xs : List ℕ). n / 65536 ∷ n / 256 % 256 ∷ n % 256 ∷ xs) found.1,
    )

points_only : (bytes ps : List ℕ) → AreBytes bytes → stored_points bytes ≡ Some ps → (all_scalars ps ≡ true) × (bytes ≡ points_bytes ps)
points_only [] ps are h = subst (λ (xs : List ℕ). (all_scalars xs ≡ true) × ([] ≡ points_bytes xs)) (same_some [] ps h) (refl, refl)
points_only (a ∷ []) ps are h = nothing h
points_only (a ∷ b ∷ []) ps are h = nothing h
points_only (a ∷ b ∷ c ∷ bytes) ps are h =
    point_by a b c bytes ps (scalar (65536 * a + 256 * b + c)) (stored_points bytes) refl refl are.1.0 are.1.1.0 (λ qs is. points_only bytes qs are.1.1.1 is) h

-- a key from a level on
record ArePartsOf (depth : Depth) (later : ℕ) (bytes : List ℕ) (k : KeyParts) : Type 0 where
  levels : AreLevels (suc later) k.levels
  points : all_scalars k.points ≡ true
  at_depth : points_at depth k.points ≡ k.points
  is : bytes ≡ levels_bytes k.levels ++ tail_bytes depth k.points

-- what follows the last level
tail_by : (depth : Depth) (rest : Option (List ℕ)) (ps : List ℕ) → AreBytes (rest_bytes rest) → points_after depth rest ≡ Some ps
    → (all_scalars ps ≡ true) × (points_at depth ps ≡ ps) × (rest_bytes rest ≡ tail_bytes depth ps)
tail_by Weights None ps are h = subst (λ (xs : List ℕ). (all_scalars xs ≡ true) × (points_at Weights xs ≡ xs) × ([] ≡ tail_bytes Weights xs)) (same_some [] ps h) (refl, refl, refl)
tail_by Weights (Some bytes) ps are h = nothing h
tail_by Identical None ps are h = nothing h
tail_by Identical (Some bytes) ps are h = let found = points_only bytes ps are.1.1 h in (found.0, refl, ap (λ (xs : List ℕ). 0 ∷ 0 ∷ xs) found.1)

last_by : (depth : Depth) (bytes : List ℕ) (l : StoredLevel) (k : KeyParts) (o : Option (List ℕ)) → AreBytes bytes → IsStored bytes l → points_after depth l.rest ≡ o
    → level_before l.weights (option_map (λ (points : List ℕ). record { levels = []; points = points }) o) ≡ Some k → ArePartsOf depth 0 bytes k
last_by depth bytes l k None are stored is h = nothing h
last_by depth bytes l k (Some ps) are stored is h =
    let rest : AreBytes (rest_bytes l.rest) = bytes_after (level_bytes l.weights) (rest_bytes l.rest) (subst AreBytes stored.is are) in
    let found = tail_by depth l.rest ps rest is in
    subst (ArePartsOf depth 0 bytes) (same_some (record { levels = l.weights ∷ []; points = ps }) k h)
    (record {
      levels = (refl, (stored.weights, tt));
      points = found.0;
      at_depth = found.1;
      is = stored.is ∙ ap (λ (xs : List ℕ). level_bytes l.weights ++ xs) found.2;
    })

-- more levels follow
more_bytes : (ws : List ℕ) (levels : List (List ℕ)) (later : ℕ) (tail : List ℕ) → length levels ≡ suc later
    → level_bytes ws ++ (0 ∷ 0 ∷ (levels_bytes levels ++ tail)) ≡ levels_bytes (ws ∷ levels) ++ tail
more_bytes ws [] later tail count = absurd (omega (arith, count))
more_bytes ws (b ∷ more) later tail count = sym (append_assoc (level_bytes ws) (0 ∷ 0 ∷ levels_bytes (b ∷ more)) tail)

next_by : (depth : Depth) (later : ℕ) (bytes ws rest : List ℕ) (k : KeyParts) (o : Option KeyParts) → AreWeights ws → bytes ≡ level_bytes ws ++ (0 ∷ 0 ∷ rest)
    → ((j : KeyParts) → o ≡ Some j → ArePartsOf depth later rest j) → level_before ws o ≡ Some k → ArePartsOf depth (suc later) bytes k
next_by depth later bytes ws rest k None weights is known h = nothing h
next_by depth later bytes ws rest k (Some j) weights is known h =
    let found = known j refl in
    subst (ArePartsOf depth (suc later) bytes) (same_some (record { levels = ws ∷ j.levels; points = j.points }) k h)
    (record {
      levels = (ap suc found.levels.0, (weights, found.levels.1));
      points = found.points;
      at_depth = found.at_depth;
      is = is ∙ ap (λ (xs : List ℕ). level_bytes ws ++ (0 ∷ 0 ∷ xs)) found.is ∙ more_bytes ws j.levels later (tail_bytes depth j.points) found.levels.0;
    })

later_by : (depth : Depth) (later : ℕ) (bytes ws : List ℕ) (rest : Option (List ℕ)) (k : KeyParts) → AreBytes bytes → AreWeights ws → bytes ≡ level_bytes ws ++ rest_bytes rest
    → ((more : List ℕ) → AreBytes more → (j : KeyParts) → parts_from depth later (stored_level more) ≡ Some j → ArePartsOf depth later more j)
    → level_before ws (after_level rest (λ more. parts_from depth later (stored_level more))) ≡ Some k → ArePartsOf depth (suc later) bytes k
later_by depth later bytes ws None k are weights is known h = nothing h
later_by depth later bytes ws (Some rest) k are weights is known h =
    let after : AreBytes (0 ∷ 0 ∷ rest) = bytes_after (level_bytes ws) (0 ∷ 0 ∷ rest) (subst AreBytes is are) in
    next_by depth later bytes ws rest k (parts_from depth later (stored_level rest)) weights is (known rest after.1.1) h

parts_by : (depth : Depth) (later : ℕ) (bytes : List ℕ) (k : KeyParts) (o : Option StoredLevel) → AreBytes bytes → stored_level bytes ≡ o
    → parts_from depth later o ≡ Some k → ArePartsOf depth later bytes k
parts_by depth later bytes k None are is h = nothing h
parts_by depth zero bytes k (Some l) are is h = last_by depth bytes l k (points_after depth l.rest) are (level_only bytes are l is) refl h
parts_by depth (suc later) bytes k (Some l) are is h =
    let stored = level_only bytes are l is in
    later_by depth later bytes l.weights l.rest k are stored.weights stored.is (λ more all j. parts_by depth later more j (stored_level more) all refl) h

-- the law
pub stored_only : OnlyStoredKeysAreRead
stored_only depth weighting bytes are k h =
    let found = parts_by depth (level_count weighting - 1) bytes k (stored_level bytes) are refl h in (
      record { levels = (found.levels.0 ∙ sym (count_is weighting), found.levels.1); points = found.points; level = found.at_depth },
      found.is ∙ sym (key_bytes_are depth k),
    )
