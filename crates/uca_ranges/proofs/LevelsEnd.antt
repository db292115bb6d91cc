-- Where the first levels of a stored key end.
use Rattle.std.proofs.Common.{◌≡◌, ◌≢◌, ◌⊎◌, inl, inr, ℕ, suc, ◌+◌, ◌*◌, ◌-◌, ◌/◌, ◌%◌, ◌<◌, ◌≤◌, List, [], ◌∷◌, ◌++◌, Bool, true, false, cond, Option, Some, None, option_map, nat_eq, nat_lt, length, get_or, take, drop, drop-cons, take-append-drop, refl, ap, sym, subst, ◌∙◌, arith, append_assoc, length-append}
use Rattle.std.specs.List.{AllByRecursion}
use Rattle.std.proofs.lemmas.List.{drop_all, take_at}
use Rattle.std.proofs.lemmas.Bool.Decides.{nat_tests}
use Rattle.uca_weights.specs.declared.Depth.{Depth}
use Rattle.uca_order.specs.Levels.{level_bytes, levels_bytes}
use Rattle.uca_compact.specs.Forms.{AreWeights, AreLevels}
use Rattle.uca_compact.specs.CompactKeys.{stored_key, KeyParts}
use Rattle.uca_compact.proofs.OnlyCells.{AreBytes, nothing, same_some}
use Rattle.uca_ranges.specs.Ranges.{LevelsBegin, levels_low, levels_high, FindsLevelsOfKey, HasLevels}
use Rattle.uca_ranges.specs.inside.LevelsLength.{levels_length}
use Rattle.uca_ranges.proofs.StoredReads.{two_at}
use Rattle.uca_ranges.proofs.StoredRanges.{IsTail, after_first, after_tail, first_then, points_part, points_tail, stored_is}

-- ---- Steps of a program

-- two bytes
length_by : (count a b w : ℕ) (bytes : List ℕ) (t : Bool) → w ≡ 256 * a + b → nat_eq w 0 ≡ t
    → levels_length count (a ∷ b ∷ bytes)
    ≡ cond t (cond (nat_lt count 2) (Some 0) (option_map (λ n. n + 2) (levels_length (count - 1) bytes))) (option_map (λ n. n + 2) (levels_length count bytes))
length_by count a b w bytes t is test =
    let end = cond (nat_lt count 2) (Some 0) (option_map (λ (n : ℕ). n + 2) (levels_length (count - 1) bytes)) in
    let more = option_map (λ (n : ℕ). n + 2) (levels_length count bytes) in
    ap (λ (n : ℕ). cond (nat_eq n 0) end more) (sym is) ∙ ap (λ (u : Bool). cond u end more) test

-- a number added to another
two_more : (at : ℕ) (o : Option ℕ) → option_map (λ n. at + n) (option_map (λ n. n + 2) o) ≡ option_map (λ n. (at + 2) + n) o
two_more at None = refl
two_more at (Some n) = let same : at + (n + 2) ≡ (at + 2) + n = omega arith in ap (λ (m : ℕ). Some m) same

-- the program goes on
pub length_step : (key : List ℕ) (at left next w : ℕ) (all : Option ℕ) → at + 1 < length key → w ≡ 256 * get_or key at 0 + get_or key (at + 1) 0
    → next ≡ cond (nat_eq w 0) (left - 1) left → ((w ≡ 0) × (2 ≤ left)) ⊎ (w ≢ 0) → option_map (λ n. at + n) (levels_length left (drop at key)) ≡ all
    → (at + 2 ≤ length key) × (option_map (λ n. (at + 2) + n) (levels_length next (drop (at + 2) key)) ≡ all)
length_step key at left next w all within is step (inl zero_weight) h =
    let bytes = drop (at + 2) key in
    let test : nat_eq w 0 ≡ true = let z : w ≡ 0 = zero_weight.0 in grind (arith, nat_tests) in
    let few : nat_lt left 2 ≡ false = let two : 2 ≤ left = zero_weight.1 in grind (arith, nat_tests) in
    let less : next ≡ left - 1 = step ∙ ap (λ (u : Bool). cond u (left - 1) left) test in
    let here : levels_length left (drop at key) ≡ option_map (λ n. n + 2) (levels_length next bytes) =
    ap (levels_length left) (two_at key at within)
    ∙ length_by left (get_or key at 0) (get_or key (at + 1) 0) w bytes true is test
    ∙ ap (λ (u : Bool). cond u (Some 0) (option_map (λ (n : ℕ). n + 2) (levels_length (left - 1) bytes))) few
    ∙ ap (λ (m : ℕ). option_map (λ (n : ℕ). n + 2) (levels_length m bytes)) (sym less) in
    (omega arith, sym (two_more at (levels_length next bytes)) ∙ ap (option_map (λ (n : ℕ). at + n)) (sym here) ∙ h)
length_step key at left next w all within is step (inr weight) h =
    let bytes = drop (at + 2) key in
    let test : nat_eq w 0 ≡ false = grind (arith, nat_tests) in
    let same : next ≡ left = step ∙ ap (λ (u : Bool). cond u (left - 1) left) test in
    let here : levels_length left (drop at key) ≡ option_map (λ n. n + 2) (levels_length next bytes) =
    ap (levels_length left) (two_at key at within)
    ∙ length_by left (get_or key at 0) (get_or key (at + 1) 0) w bytes false is test
    ∙ ap (λ (m : ℕ). option_map (λ (n : ℕ). n + 2) (levels_length m bytes)) (sym same) in
    (omega arith, sym (two_more at (levels_length next bytes)) ∙ ap (option_map (λ (n : ℕ). at + n)) (sym here) ∙ h)

-- it has come to the end of the bytes
end_by : (key : List ℕ) (at left : ℕ) (all : Option ℕ) (t : Bool) → nat_eq left 1 ≡ t → at ≡ length key
    → option_map (λ n. at + n) (levels_length left (drop at key)) ≡ all → cond t (Some at) None ≡ all
end_by key at left all t test end h =
    let none : drop at key ≡ [] = drop_all at key (omega arith) in
    let here : levels_length left (drop at key) ≡ cond t (Some 0) None = ap (levels_length left) none ∙ ap (λ (u : Bool). cond u (Some 0) None) test in
    last_by t ∙ ap (option_map (λ (n : ℕ). at + n)) (sym here) ∙ h
  where
    last_by : (u : Bool) → cond u (Some at) None ≡ option_map (λ n. at + n) (cond u (Some 0) None)
    last_by true = let same : at ≡ at + 0 = omega arith in ap (λ (n : ℕ). Some n) same
    last_by false = refl

-- a single byte is left
single_by : (key : List ℕ) (at left : ℕ) (all : Option ℕ) → at < length key → length key ≤ at + 1
    → option_map (λ n. at + n) (levels_length left (drop at key)) ≡ all → None ≡ all
single_by key at left all within end h =
    let next : suc at ≡ at + 1 = omega arith in
    let one : drop at key ≡ get_or key at 0 ∷ [] =
    drop-cons key at 0 within ∙ ap (λ (xs : List ℕ). get_or key at 0 ∷ xs) (drop_all (suc at) key (omega arith)) in
    ap (λ (xs : List ℕ). option_map (λ n. at + n) (levels_length left xs)) (sym one) ∙ h

-- levels are missing, or a single byte is left
pub none_left : (key : List ℕ) (at left : ℕ) (all : Option ℕ) → at ≤ length key → length key ≤ at + 1 → (left ≢ 1) ⊎ (at ≢ length key)
    → option_map (λ n. at + n) (levels_length left (drop at key)) ≡ all → None ≡ all
none_left key at left all within end (inr apart) h = single_by key at left all (omega (arith, apart)) end h
none_left key at left all within end (inl others) h = left_by (nat_eq at (length key)) refl
  where
    left_by : (b : Bool) → nat_eq at (length key) ≡ b → None ≡ all
    left_by true is =
        let same : at ≡ length key = grind (arith, nat_tests) in
        let test : nat_eq left 1 ≡ false = grind (arith, nat_tests) in
        end_by key at left all false test same h
    left_by false is =
        let apart : at ≢ length key = grind (arith, nat_tests) in
        single_by key at left all (omega (arith, apart)) end h

-- ---- A stored key

-- no bytes before a level
nothing_before : (o : Option ℕ) → o ≡ option_map (λ n. 0 + n) o
nothing_before None = refl
nothing_before (Some n) = let same : n ≡ 0 + n = omega arith in ap (λ (m : ℕ). Some m) same

-- two bytes before others
two_before : (m : ℕ) (o : Option ℕ) → option_map (λ n. n + 2) (option_map (λ n. m + n) o) ≡ option_map (λ n. suc (suc m) + n) o
two_before m None = refl
two_before m (Some n) = let same : (m + n) + 2 ≡ suc (suc m) + n = omega arith in ap (λ (k : ℕ). Some k) same

-- the weights of a level
level_length : (count : ℕ) (ws tail : List ℕ) → AreWeights ws
    → levels_length count (level_bytes ws ++ tail) ≡ option_map (λ n. length (level_bytes ws) + n) (levels_length count tail)
level_length count [] tail weights = nothing_before (levels_length count tail)
level_length count (w ∷ ws) tail weights =
    let is : w ≡ 256 * (w / 256) + w % 256 = omega arith in
    let test : nat_eq w 0 ≡ false = let above : 0 < w = weights.0.0 in grind (arith, nat_tests) in
    length_by count (w / 256) (w % 256) w (level_bytes ws ++ tail) false is test
    ∙ ap (option_map (λ (n : ℕ). n + 2)) (level_length count ws tail weights.1)
    ∙ two_before (length (level_bytes ws)) (levels_length count tail)

-- one level
one_length : (tail : List ℕ) → IsTail tail → levels_length 1 tail ≡ Some 0
one_length tail (inl none) = ap (levels_length 1) none
one_length tail (inr some) = ap (levels_length 1) some.1

-- more levels
more_length : (count : ℕ) (bytes : List ℕ) → 0 < count → levels_length (suc count) (0 ∷ 0 ∷ bytes) ≡ option_map (λ n. n + 2) (levels_length count bytes)
more_length count bytes some =
    let few : nat_lt (suc count) 2 ≡ false = grind (arith, nat_tests) in
    let same : suc count - 1 ≡ count = omega arith in
    ap (λ (u : Bool). cond u (Some 0) (option_map (λ (n : ℕ). n + 2) (levels_length (suc count - 1) bytes))) few
    ∙ ap (λ (m : ℕ). option_map (λ (n : ℕ). n + 2) (levels_length m bytes)) same

-- levels after the first one
after_length : (a : List ℕ) (fs : List (List ℕ)) (n : ℕ) → n ≡ length (levels_bytes fs) → length (level_bytes a) + (n + 2) ≡ length (level_bytes a ++ (0 ∷ 0 ∷ levels_bytes fs))
after_length a fs n same = omega (arith, same, length-append (level_bytes a) (0 ∷ 0 ∷ levels_bytes fs))

first_length : (a : List ℕ) (fs rest : List (List ℕ)) (ext : List ℕ) → AllByRecursion AreWeights (a ∷ fs) → IsTail ext
    → levels_length (suc (length fs)) (levels_bytes ((a ∷ fs) ++ rest) ++ ext) ≡ Some (length (levels_bytes (a ∷ fs)))
first_length a [] rest ext weights end =
    let same : length (level_bytes a) + 0 ≡ length (level_bytes a) = omega arith in
    ap (levels_length 1) (first_then a rest ext)
    ∙ level_length 1 a (after_first rest ext) weights.0
    ∙ ap (option_map (λ (n : ℕ). length (level_bytes a) + n)) (one_length (after_first rest ext) (after_tail rest ext end))
    ∙ ap (λ (n : ℕ). Some n) same
first_length a (c ∷ fs) rest ext weights end =
    let count = suc (length fs) in
    let more = levels_bytes ((c ∷ fs) ++ rest) ++ ext in
    ap (levels_length (suc count)) (first_then a ((c ∷ fs) ++ rest) ext)
    ∙ level_length (suc count) a (0 ∷ 0 ∷ more) weights.0
    ∙ ap (option_map (λ (n : ℕ). length (level_bytes a) + n))
    (more_length count more (omega arith) ∙ ap (option_map (λ (n : ℕ). n + 2)) (first_length c fs rest ext weights.1 end))
    ∙ ap (λ (n : ℕ). Some n) (after_length a (c ∷ fs) (length (levels_bytes (c ∷ fs))) refl)

-- levels begin with the first ones
first_bytes : (a : List ℕ) (fs rest : List (List ℕ)) (ext : List ℕ) → (more : List ℕ) × (levels_bytes ((a ∷ fs) ++ rest) ++ ext ≡ levels_bytes (a ∷ fs) ++ more)
first_bytes a [] rest ext = (after_first rest ext, first_then a rest ext)
first_bytes a (c ∷ fs) rest ext =
    let found = first_bytes c fs rest ext in (
      found.0,
      first_then a ((c ∷ fs) ++ rest) ext
          ∙ ap (λ (xs : List ℕ). level_bytes a ++ (0 ∷ 0 ∷ xs)) found.1
          ∙ sym (append_assoc (level_bytes a) (0 ∷ 0 ∷ levels_bytes (c ∷ fs)) found.0),
    )

-- the weights of the first levels
pub front_weights : (fs rest : List (List ℕ)) → AllByRecursion AreWeights (fs ++ rest) → AllByRecursion AreWeights fs
front_weights [] rest h = tt
front_weights (a ∷ fs) rest h = (h.0, front_weights fs rest h.1)

-- a key of these bytes
pub key_length : (depth : Depth) (k : KeyParts) (firsts : List (List ℕ)) (key : List ℕ) → AllByRecursion AreWeights k.levels → key ≡ stored_key depth k
    → LevelsBegin firsts k.levels → 0 < length firsts
    → (levels_length (length firsts) key ≡ Some (length (levels_bytes firsts))) × (take (length (levels_bytes firsts)) key ≡ levels_bytes firsts)
key_length depth k [] key weights is begins some = absurd (omega arith)
key_length depth k (a ∷ fs) key weights is begins some =
    let ext = points_part depth k.points in
    let rest = begins.0 in
    let whole : key ≡ levels_bytes ((a ∷ fs) ++ rest) ++ ext =
    is ∙ stored_is depth k.levels k.points ∙ ap (λ (ls : List (List ℕ)). levels_bytes ls ++ ext) begins.1 in
    let all : AllByRecursion AreWeights ((a ∷ fs) ++ rest) = subst (AllByRecursion AreWeights) begins.1 weights in
    let found = first_bytes a fs rest ext in (
      ap (levels_length (suc (length fs))) whole ∙ first_length a fs rest ext (front_weights (a ∷ fs) rest all) (points_tail depth k.points),
      ap (take (length (levels_bytes (a ∷ fs)))) (whole ∙ found.1) ∙ take_at (levels_bytes (a ∷ fs)) found.0 (length (levels_bytes (a ∷ fs))) refl,
    )

-- both ends, if the program found where the levels end
pub finds_some : (count : ℕ) (key : List ℕ) (end : ℕ) (low high : List ℕ) → Some end ≡ levels_length count key → low ≡ take end key
    → high ≡ take end key ++ (0 ∷ 1 ∷ []) → FindsLevelsOfKey count key true low high
finds_some count key end low high found below above depth weighting k firsts parts is begins long some =
    let there = key_length depth k firsts key parts.levels.1 is begins (omega (arith, long)) in
    let both : Some end ≡ Some (length (levels_bytes firsts)) = found ∙ ap (λ (n : ℕ). levels_length n key) (sym long) ∙ there.0 in
    let same : end ≡ length (levels_bytes firsts) = cc in
    let front : take end key ≡ levels_bytes firsts = ap (λ (n : ℕ). take n key) same ∙ there.1 in
    (refl, below ∙ front, above ∙ ap (λ (xs : List ℕ). xs ++ (0 ∷ 1 ∷ [])) front)

-- a key has an end of these levels
pub finds_none : (count : ℕ) (key : List ℕ) (low high : List ℕ) → None ≡ levels_length count key → FindsLevelsOfKey count key false low high
finds_none count key low high none depth weighting k firsts parts is begins long some =
    let there = key_length depth k firsts key parts.levels.1 is begins (omega (arith, long)) in
    let both : None ≡ Some (length (levels_bytes firsts)) = none ∙ ap (λ (n : ℕ). levels_length n key) (sym long) ∙ there.0 in
    absurd cc

-- ---- Bytes that begin with levels

abbrev pub BeginWithLevels : (count : ℕ) → (key : List ℕ) → (end : ℕ) → Type 0
BeginWithLevels count key end = (firsts : List (List ℕ)) × AreLevels count firsts × (take end key ≡ levels_bytes firsts)

-- a weight before the first of some levels
weight_before : (w : ℕ) (ws : List ℕ) (levels : List (List ℕ)) → levels_bytes ((w ∷ ws) ∷ levels) ≡ w / 256 ∷ w % 256 ∷ levels_bytes (ws ∷ levels)
weight_before w ws [] = refl
weight_before w ws (a ∷ levels) = refl

-- no level is left but an empty one
one_begins : (count end : ℕ) (key : List ℕ) → count ≡ 1 → Some 0 ≡ Some end → BeginWithLevels count key end
one_begins count end key one h =
    let none : 0 ≡ end = same_some 0 end h in
    ([] ∷ [], (sym one, (tt, tt)), ap (λ (n : ℕ). take n key) (sym none))

-- two bytes 0 before levels
zeros_begin : (count end m a b : ℕ) (bytes : List ℕ) → 2 ≤ count → 256 * a + b ≡ 0 → end ≡ suc (suc m) → BeginWithLevels (count - 1) bytes m
    → BeginWithLevels count (a ∷ b ∷ bytes) end
zeros_begin count end m a b bytes many zeros is ([], are, same) = absurd (omega (arith, many, are.0))
zeros_begin count end m a b bytes many zeros is (f ∷ fs, are, same) =
    let first : a ≡ 0 = omega (arith, zeros) in
    let second : b ≡ 0 = omega (arith, zeros) in
    let long : length ([] ∷ f ∷ fs) ≡ count = omega (arith, many, are.0) in (
      [] ∷ f ∷ fs,
      (long, (tt, are.1)),
      ap (λ (n : ℕ). take n (a ∷ b ∷ bytes)) is ∙ ap (λ (xs : List ℕ). a ∷ b ∷ xs) same
          ∙ ap (λ (n : ℕ). n ∷ b ∷ levels_bytes (f ∷ fs)) first ∙ ap (λ (n : ℕ). 0 ∷ n ∷ levels_bytes (f ∷ fs)) second,
    )

-- a weight before levels
weight_begins : (count end m a b : ℕ) (bytes : List ℕ) → 0 < count → a < 256 → b < 256 → 256 * a + b ≢ 0 → end ≡ suc (suc m) → BeginWithLevels count bytes m
    → BeginWithLevels count (a ∷ b ∷ bytes) end
weight_begins count end m a b bytes some low low_too weight is ([], are, same) = absurd (omega (arith, some, are.0))
weight_begins count end m a b bytes some low low_too weight is (f ∷ fs, are, same) =
    let w = 256 * a + b in
    let first : a ≡ w / 256 = omega (arith, low, low_too) in
    let second : b ≡ w % 256 = omega (arith, low, low_too) in
    let fits : (0 < w) × (w < 65536) = (omega (arith, weight), omega (arith, low, low_too)) in (
      (w ∷ f) ∷ fs,
      (are.0, ((fits, are.1.0), are.1.1)),
      ap (λ (n : ℕ). take n (a ∷ b ∷ bytes)) is ∙ ap (λ (xs : List ℕ). a ∷ b ∷ xs) same
          ∙ ap (λ (n : ℕ). n ∷ b ∷ levels_bytes (f ∷ fs)) first ∙ ap (λ (n : ℕ). w / 256 ∷ n ∷ levels_bytes (f ∷ fs)) second
          ∙ sym (weight_before w f fs),
    )

-- a number that is one more
mapped : (o : Option ℕ) (end : ℕ) → option_map (λ n. n + 2) o ≡ Some end → (m : ℕ) × (o ≡ Some m) × (end ≡ suc (suc m))
mapped None end h = nothing h
mapped (Some m) end h = let same : m + 2 ≡ end = same_some (m + 2) end h in (m, refl, omega (arith, same))

-- where the program found an end of so many levels, the bytes begin with these
pub levels_found : (count : ℕ) (key : List ℕ) (end : ℕ) → AreBytes key → 0 < count → levels_length count key ≡ Some end → BeginWithLevels count key end
levels_found count [] end are some h = by_one (nat_eq count 1) refl h
  where
    by_one : (t : Bool) → nat_eq count 1 ≡ t → cond t (Some 0) None ≡ Some end → BeginWithLevels count [] end
    by_one true test found = one_begins count end [] (grind (arith, nat_tests)) found
    by_one false test found = nothing found
levels_found count (a ∷ []) end are some h = nothing h
levels_found count (a ∷ b ∷ bytes) end are some h =
    by_zero (nat_eq (256 * a + b) 0) refl (λ m more found. levels_found (count - 1) bytes m are.1.1 more found)
    (λ m found. levels_found count bytes m are.1.1 some found) h
  where
    by_few : (t : Bool) → nat_lt count 2 ≡ t → 256 * a + b ≡ 0
        → ((m : ℕ) → 0 < count - 1 → levels_length (count - 1) bytes ≡ Some m → BeginWithLevels (count - 1) bytes m)
        → cond t (Some 0) (option_map (λ n. n + 2) (levels_length (count - 1) bytes)) ≡ Some end → BeginWithLevels count (a ∷ b ∷ bytes) end
    by_few true test zeros less found =
        let few : count < 2 = grind (arith, nat_tests) in
        one_begins count end (a ∷ b ∷ bytes) (omega (arith, few, some)) found
    by_few false test zeros less found =
        let many : 2 ≤ count = grind (arith, nat_tests) in
        let it = mapped (levels_length (count - 1) bytes) end found in
        zeros_begin count end it.0 a b bytes many zeros it.2 (less it.0 (omega (arith, many)) it.1)

    by_zero : (t : Bool) → nat_eq (256 * a + b) 0 ≡ t
        → ((m : ℕ) → 0 < count - 1 → levels_length (count - 1) bytes ≡ Some m → BeginWithLevels (count - 1) bytes m)
        → ((m : ℕ) → levels_length count bytes ≡ Some m → BeginWithLevels count bytes m)
        → cond t (cond (nat_lt count 2) (Some 0) (option_map (λ n. n + 2) (levels_length (count - 1) bytes))) (option_map (λ n. n + 2) (levels_length count bytes)) ≡ Some end
        → BeginWithLevels count (a ∷ b ∷ bytes) end
    by_zero true test less same found =
        let zeros : 256 * a + b ≡ 0 = grind (arith, nat_tests) in by_few (nat_lt count 2) refl zeros less found
    by_zero false test less same found =
        let weight : 256 * a + b ≢ 0 = grind (arith, nat_tests) in
        let it = mapped (levels_length count bytes) end found in
        weight_begins count end it.0 a b bytes some are.0 are.1.0 weight it.2 (same it.0 it.1)

-- and both ends are those of these levels
pub has_levels : (count : ℕ) (key : List ℕ) (end : ℕ) (low high : List ℕ) → AreBytes key → Some end ≡ levels_length count key → low ≡ take end key
    → high ≡ take end key ++ (0 ∷ 1 ∷ []) → 0 < count → HasLevels count key low high
has_levels count key end low high are ends below above some =
    let found = levels_found count key end are some (sym ends) in
    record {
      firsts = found.0;
      rest = drop end key;
      levels = found.1;
      begins = sym (take-append-drop end key) ∙ ap (λ (xs : List ℕ). xs ++ drop end key) found.2;
      low_end = below ∙ found.2;
      high_end = above ∙ ap (λ (xs : List ℕ). xs ++ (0 ∷ 1 ∷ [])) found.2;
    }
