-- A stored key whose levels after the first ones are plain.
use Rattle.std.proofs.Common.{◌≡◌, ℕ, zero, suc, ◌+◌, ◌-◌, ◌/◌, ◌%◌, ◌<◌, ◌≤◌, List, [], ◌∷◌, ◌++◌, true, false, length, refl, ap, sym, subst, ◌∙◌, arith, append_assoc, append-nil, length-append}
use Rattle.std.specs.List.{AllByRecursion}
use Rattle.uca_order.specs.Levels.{level_bytes, levels_bytes}
use Rattle.uca_compact.specs.Forms.{AreWeights, AreLevels}
use Rattle.uca_compact.specs.PlainLevels.{copies, letter_count, plain_level}
use Rattle.uca_ranges.specs.Ranges.{plain_levels}
use Rattle.uca_ranges.specs.inside.WeightCounts.{weights_counted}
use Rattle.uca_ranges.proofs.PlainCounts.{first_count, first_letters, second_count, third_count}

-- ---- The plain level after some

-- after one
pub plain_second : (n : ℕ) (bytes : List ℕ) (levels : List (List ℕ)) → n ≡ weights_counted true false 1 bytes → AreLevels 1 levels → bytes ≡ levels_bytes levels
    → copies 0x20 n ≡ plain_level levels
plain_second n bytes [] counts are is = absurd (omega (arith, are.0))
plain_second n bytes (a ∷ []) counts are is =
    ap (copies 0x20) (counts ∙ ap (weights_counted true false 1) is ∙ first_letters a [] are.1.0)
plain_second n bytes (a ∷ b ∷ more) counts are is = absurd (omega (arith, are.0))

-- after two
pub plain_third : (n : ℕ) (bytes : List ℕ) (levels : List (List ℕ)) → n ≡ weights_counted false false 2 bytes → AreLevels 2 levels → bytes ≡ levels_bytes levels
    → copies 2 n ≡ plain_level levels
plain_third n bytes [] counts are is = absurd (omega (arith, are.0))
plain_third n bytes (a ∷ []) counts are is = absurd (omega (arith, are.0))
plain_third n bytes (a ∷ b ∷ []) counts are is =
    ap (copies 2) (counts ∙ ap (weights_counted false false 2) is ∙ second_count a b [] are.1.0 are.1.1.0)
plain_third n bytes (a ∷ b ∷ c ∷ more) counts are is = absurd (omega (arith, are.0))

-- after more
pub plain_later : (count third first letters n : ℕ) (bytes : List ℕ) (levels : List (List ℕ)) → third ≡ weights_counted false false 3 bytes
    → first ≡ weights_counted false false 1 bytes → letters ≡ weights_counted true false 1 bytes → n ≡ third + (first - letters)
    → AreLevels count levels → 2 < count → bytes ≡ levels_bytes levels → copies 0xFFFF n ≡ plain_level levels
plain_later count third first letters n bytes [] h i j sum are many is = absurd (omega (arith, are.0, many))
plain_later count third first letters n bytes (a ∷ []) h i j sum are many is = absurd (omega (arith, are.0, many))
plain_later count third first letters n bytes (a ∷ b ∷ []) h i j sum are many is = absurd (omega (arith, are.0, many))
plain_later count third first letters n bytes (a ∷ b ∷ c ∷ more) h i j sum are many is =
    let three : third ≡ length c = h ∙ ap (weights_counted false false 3) is ∙ third_count a b c more are.1.0 are.1.1.0 are.1.1.1.0 in
    let one : first ≡ length a = i ∙ ap (weights_counted false false 1) is ∙ first_count a (b ∷ c ∷ more) are.1.0 in
    let mostly : letters ≡ letter_count a = j ∙ ap (weights_counted true false 1) is ∙ first_letters a (b ∷ c ∷ more) are.1.0 in
    let all : n ≡ length c + (length a - letter_count a) = omega (arith, sum, three, one, mostly) in
    ap (copies 0xFFFF) all

-- ---- Levels and a plain one

-- a program writes a weight once more
pub copy_pushed : (out first second : List ℕ) (w left : ℕ) (all : List ℕ) → 0 < left → first ≡ out ++ w / 256 ∷ [] → second ≡ first ++ w % 256 ∷ []
    → out ++ level_bytes (copies w left) ≡ all → second ++ level_bytes (copies w (left - 1)) ≡ all
copy_pushed out first second w zero all some one two h = absurd (omega arith)
copy_pushed out first second w (suc left) all some one two h =
    let back : suc left - 1 ≡ left = omega arith in
    let both : second ≡ out ++ (w / 256 ∷ w % 256 ∷ []) = two ∙ ap (λ (xs : List ℕ). xs ++ w % 256 ∷ []) one ∙ append_assoc out (w / 256 ∷ []) (w % 256 ∷ []) in
    ap (λ (n : ℕ). second ++ level_bytes (copies w n)) back
    ∙ ap (λ (xs : List ℕ). xs ++ level_bytes (copies w left)) both
    ∙ append_assoc out (w / 256 ∷ w % 256 ∷ []) (level_bytes (copies w left)) ∙ h

-- a level after others
level_after : (a : List ℕ) (levels : List (List ℕ)) (level : List ℕ) → levels_bytes ((a ∷ levels) ++ level ∷ []) ≡ levels_bytes (a ∷ levels) ++ (0 ∷ 0 ∷ level_bytes level)
level_after a [] level = refl
level_after a (b ∷ levels) level =
    ap (λ (xs : List ℕ). level_bytes a ++ (0 ∷ 0 ∷ xs)) (level_after b levels level)
    ∙ sym (append_assoc (level_bytes a) (0 ∷ 0 ∷ levels_bytes (b ∷ levels)) (0 ∷ 0 ∷ level_bytes level))

-- a program writes the plain one
pub plain_written : (before zeros after plain : List ℕ) (levels : List (List ℕ)) → 0 < length levels → before ≡ levels_bytes levels
    → zeros ≡ before ++ (0 ∷ 0 ∷ []) → plain ≡ plain_level levels → after ≡ zeros ++ level_bytes plain
    → after ≡ levels_bytes (levels ++ plain_level levels ∷ [])
plain_written before zeros after plain [] some is two same all = absurd (omega arith)
plain_written before zeros after plain (a ∷ levels) some is two same all =
    let level = plain_level (a ∷ levels) in
    all
    ∙ ap (λ (xs : List ℕ). xs ++ level_bytes plain) (two ∙ ap (λ (xs : List ℕ). xs ++ (0 ∷ 0 ∷ [])) is)
    ∙ ap (λ (ws : List ℕ). (levels_bytes (a ∷ levels) ++ (0 ∷ 0 ∷ [])) ++ level_bytes ws) same
    ∙ append_assoc (levels_bytes (a ∷ levels)) (0 ∷ 0 ∷ []) (level_bytes level)
    ∙ sym (level_after a levels level)

-- copies are weights
copies_weights : (w n : ℕ) → 0 < w → w < 65536 → AreWeights (copies w n)
copies_weights w zero above below = tt
copies_weights w (suc n) above below = ((above, below), copies_weights w n above below)

plain_weights : (levels : List (List ℕ)) → AreWeights (plain_level levels)
plain_weights [] = tt
plain_weights (a ∷ []) = copies_weights 0x20 (letter_count a) (omega arith) (omega arith)
plain_weights (a ∷ b ∷ []) = copies_weights 2 (length b) (omega arith) (omega arith)
plain_weights (a ∷ b ∷ c ∷ more) = copies_weights 0xFFFF (length c + (length a - letter_count a)) (omega arith) (omega arith)

-- so are both
weights_then : (levels more : List (List ℕ)) → AllByRecursion AreWeights levels → AllByRecursion AreWeights more → AllByRecursion AreWeights (levels ++ more)
weights_then [] more first later = later
weights_then (a ∷ levels) more first later = (first.0, weights_then levels more first.1 later)

-- with a plain level
one_plain : (count : ℕ) (levels : List (List ℕ)) → AreLevels count levels → AreLevels (count + 1) (levels ++ plain_level levels ∷ [])
one_plain count levels are = (
  omega (arith, are.0, length-append levels (plain_level levels ∷ [])),
  weights_then levels (plain_level levels ∷ []) are.1 (plain_weights levels, tt),
)

-- with plain levels
pub plains_are : (levels : List (List ℕ)) (n : ℕ) → AllByRecursion AreWeights levels → AreLevels (length levels + n) (levels ++ plain_levels levels n)
plains_are levels zero weights =
    let same : length levels ≡ length levels + 0 = omega arith in
    (ap length (append-nil levels) ∙ same, subst (AllByRecursion AreWeights) (sym (append-nil levels)) weights)
plains_are levels (suc n) weights =
    let plain = plain_level levels in
    let next = levels ++ plain ∷ [] in
    let are = plains_are next n (weights_then levels (plain ∷ []) weights (plain_weights levels, tt)) in
    let same : next ++ plain_levels next n ≡ levels ++ plain_levels levels (suc n) = append_assoc levels (plain ∷ []) (plain_levels next n) in
    let long : length next + n ≡ length levels + suc n = omega (arith, length-append levels (plain ∷ [])) in (
      ap length (sym same) ∙ are.0 ∙ long,
      subst (AllByRecursion AreWeights) same are.1,
    )

-- ---- Steps of a program that writes plain levels

-- these bytes have so many levels; with plain levels up to `all` these are the ones that are wanted
abbrev pub HasPlains : (bytes : List ℕ) → (done all : ℕ) → (wanted : List (List ℕ)) → Type 0
HasPlains bytes done all wanted =
    (levels : List (List ℕ)) × AreLevels done levels × (0 < done) × (bytes ≡ levels_bytes levels) × (levels ++ plain_levels levels (all - done) ≡ wanted)

-- one more
pub plains_step : (bytes next : List ℕ) (done all : ℕ) (wanted : List (List ℕ)) → done < all → HasPlains bytes done all wanted
    → ((levels : List (List ℕ)) → AreLevels done levels → 0 < done → bytes ≡ levels_bytes levels → next ≡ levels_bytes (levels ++ plain_level levels ∷ []))
    → HasPlains next (done + 1) all wanted
plains_step bytes next done all wanted more h write =
    let levels = h.0 in
    let plain = plain_level levels in
    let rest = all - (done + 1) in
    let left : all - done ≡ suc rest = omega (arith, more) in
    let some : 0 < done = h.2 in (
      levels ++ plain ∷ [],
      one_plain done levels h.1,
      omega arith,
      write levels h.1 some h.3,
      append_assoc levels (plain ∷ []) (plain_levels (levels ++ plain ∷ []) rest)
          ∙ ap (λ (n : ℕ). levels ++ plain_levels levels n) (sym left) ∙ h.4,
    )

-- all are written
pub plains_end : (bytes : List ℕ) (done all : ℕ) (wanted : List (List ℕ)) → all ≤ done → HasPlains bytes done all wanted → bytes ≡ levels_bytes wanted
plains_end bytes done all wanted end h =
    let none : all - done ≡ 0 = omega (arith, end) in
    let same : h.0 ≡ wanted = sym (append-nil h.0) ∙ ap (λ (n : ℕ). h.0 ++ plain_levels h.0 n) (sym none) ∙ h.4 in
    h.3 ∙ ap levels_bytes same
