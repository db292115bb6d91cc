-- A program finds the ends of a range of compact keys.
use Rattle.std.proofs.Common.{◌≡◌, ℕ, suc, ◌+◌, ◌-◌, ◌<◌, ◌≤◌, List, [], ◌∷◌, ◌++◌, Bool, true, false, Option, Some, None, option_map, if◌then◌else◌, length, take, drop, take-append-drop, refl, ap, sym, subst, ◌∙◌, arith, append-nil, length-append}
use Rattle.std.specs.List.{AllByRecursion}
use Rattle.uca_weights.specs.declared.Depth.{Depth}
use Rattle.uca_weights.specs.declared.Depth.TheVariants.{Weights, Identical}
use Rattle.uca_weights.specs.declared.Settings.{Settings}
use Rattle.uca_weights.specs.declared.Weighting.{Weighting}
use Rattle.uca_order.specs.Levels.{level_count, levels_bytes}
use Rattle.uca_order.specs.Depths.{points_bytes}
use Rattle.uca_books.specs.Books.{BookContent}
use Rattle.uca_compact.specs.Forms.{AreWeights, AreLevels}
use Rattle.uca_compact.specs.CompactKeys.{KeyParts, AreParts, points_at, stored_key, compact_key}
use Rattle.uca_compact.specs.StoredParts.{stored_parts}
use Rattle.uca_compact.proofs.OnlyCells.{AreBytes, nothing, same_some}
use Rattle.uca_compact.proofs.StoredBack.{stored_again}
use Rattle.uca_ranges.specs.Ranges.{LevelsBegin, plain_levels, levels_after, plain_key, with_last, compact_levels_low, compact_levels_high, FindsCompactLevels, HasCompactLevels}
use Rattle.uca_ranges.specs.inside.LevelsLength.{levels_length}
use Rattle.uca_ranges.specs.inside.NoPoints.{no_points}
use Rattle.uca_ranges.proofs.CompactLevels.{last_of, ends_in_byte}
use Rattle.uca_ranges.proofs.LevelsEnd.{front_weights, key_length, levels_found}
use Rattle.uca_ranges.proofs.PlainKeys.{plains_are}

-- ---- The stored key with plain levels

abbrev pub plain_parts : Weighting → List (List ℕ) → KeyParts
plain_parts weighting firsts = record { levels = firsts ++ plain_levels firsts (levels_after weighting firsts); points = [] }

-- these are parts of a key
pub parts_of : (depth : Depth) (weighting : Weighting) (firsts : List (List ℕ)) → AllByRecursion AreWeights firsts → length firsts ≤ level_count weighting
    → AreParts depth weighting (plain_parts weighting firsts)
parts_of depth weighting firsts weights few =
    let are = plains_are firsts (levels_after weighting firsts) weights in
    let all : length firsts + levels_after weighting firsts ≡ level_count weighting = omega (arith, few) in
    record {
      levels = (are.0 ∙ all, are.1);
      points = refl;
      level = none depth;
    }
  where
    none : (d : Depth) → points_at d [] ≡ []
    none Weights = refl
    none Identical = refl

-- a program writes its key
written_by : (depth : Depth) (k : KeyParts) → k.points ≡ [] → levels_bytes k.levels ++ no_points depth ≡ stored_key depth k
written_by Weights k none = append-nil (levels_bytes k.levels)
written_by Identical k none = ap (λ (points : List ℕ). levels_bytes k.levels ++ (0 ∷ 0 ∷ points_bytes points)) (sym none)

-- its compact key
compact_by : (depth : Depth) (weighting : Weighting) (b : BookContent) (firsts : List (List ℕ))
    → compact_key depth weighting b (plain_parts weighting firsts) ≡ plain_key weighting b firsts
compact_by Weights weighting b firsts = refl
compact_by Identical weighting b firsts = append-nil (plain_key weighting b firsts)

-- what is found of a key whose parts are read
found_by : (code : KeyParts → List ℕ) (o : Option KeyParts) (k : KeyParts) (made : List ℕ) (found : Bool) → o ≡ Some k
    → option_map code o ≡ (if found then Some made else None) → (found ≡ true) × (made ≡ code k)
found_by code o k made true read h = (refl, sym (same_some (code k) made (ap (option_map code) (sym read) ∙ h)))
found_by code o k made false read h = nothing (sym (ap (option_map code) (sym read) ∙ h))

-- ---- What a program finds

-- as many levels as a key has
begin_few : (firsts rest levels : List (List ℕ)) (n : ℕ) → levels ≡ firsts ++ rest → length levels ≡ n → length firsts ≤ n
begin_few firsts rest levels n is long = omega (arith, long, ap length is, length-append firsts rest)

-- the key with plain levels, as a program writes it
abbrev pub WritesPlains : (count all : ℕ) → (front written : List ℕ) → Type 0
WritesPlains count all front written = (levels : List (List ℕ)) → AreLevels count levels → 0 < count → front ≡ levels_bytes levels
    → written ≡ levels_bytes (levels ++ plain_levels levels (all - count))

-- its compact key, by these levels
plain_made : (s : Settings) (b : BookContent) (count all : ℕ) (front plains written made : List ℕ) (found : Bool) (firsts : List (List ℕ))
    → all ≡ level_count s.weighting → WritesPlains count all front plains → written ≡ plains ++ no_points s.depth
    → option_map (compact_key s.depth s.weighting b) (stored_parts s.depth s.weighting written) ≡ (if found then Some made else None)
    → AreLevels count firsts → 0 < count → length firsts ≤ level_count s.weighting → front ≡ levels_bytes firsts
    → (found ≡ true) × (made ≡ plain_key s.weighting b firsts)
plain_made s b count all front plains written made found firsts total write last made_by are some few is =
    let later : all - count ≡ levels_after s.weighting firsts = omega (arith, total, are.0) in
    let j = plain_parts s.weighting firsts in
    let bytes : plains ≡ levels_bytes j.levels =
    write firsts are some is ∙ ap (λ (n : ℕ). levels_bytes (firsts ++ plain_levels firsts n)) later in
    let whole : written ≡ stored_key s.depth j = last ∙ ap (λ (xs : List ℕ). xs ++ no_points s.depth) bytes ∙ written_by s.depth j refl in
    let read : stored_parts s.depth s.weighting written ≡ Some j =
    ap (stored_parts s.depth s.weighting) whole ∙ stored_again s.depth s.weighting j (parts_of s.depth s.weighting firsts are.1 few) in
    let it = found_by (compact_key s.depth s.weighting b) (stored_parts s.depth s.weighting written) j made found read made_by in
    (it.0, it.1 ∙ compact_by s.depth s.weighting b firsts)

-- that of a key
plain_found : (s : Settings) (b : BookContent) (count all : ℕ) (key front plains written made : List ℕ) (end : ℕ) (found : Bool) → all ≡ level_count s.weighting
    → Some end ≡ levels_length count key → front ≡ take end key → WritesPlains count all front plains → written ≡ plains ++ no_points s.depth
    → option_map (compact_key s.depth s.weighting b) (stored_parts s.depth s.weighting written) ≡ (if found then Some made else None)
    → (k : KeyParts) (firsts : List (List ℕ)) → AreParts s.depth s.weighting k → key ≡ stored_key s.depth k → LevelsBegin firsts k.levels → length firsts ≡ count → 0 < count
    → (found ≡ true) × (made ≡ plain_key s.weighting b firsts) × (length firsts ≤ level_count s.weighting)
plain_found s b count all key front plains written made end found total ends cut write last made_by k firsts parts is begins long some =
    let there = key_length s.depth k firsts key parts.levels.1 is begins (omega (arith, long, some)) in
    let both : Some end ≡ Some (length (levels_bytes firsts)) = ends ∙ ap (λ (n : ℕ). levels_length n key) (sym long) ∙ there.0 in
    let same : end ≡ length (levels_bytes firsts) = cc in
    let weights = front_weights firsts begins.0 (subst (AllByRecursion AreWeights) begins.1 parts.levels.1) in
    let few = begin_few firsts begins.0 k.levels (level_count s.weighting) begins.1 parts.levels.0 in
    let it = plain_made s b count all front plains written made found firsts total write last made_by (long, weights) some few
    (cut ∙ ap (λ (n : ℕ). take n key) same ∙ there.1) in
    (it.0, it.1, few)

-- what a program that has these settings is given
pub made_as : (s t : Settings) (b : BookContent) (bytes written made : List ℕ) (found u : Bool) → s ≡ t → bytes ≡ written → found ≡ u
    → option_map (compact_key s.depth s.weighting b) (stored_parts s.depth s.weighting bytes) ≡ (if found then Some made else None)
    → option_map (compact_key t.depth t.weighting b) (stored_parts t.depth t.weighting written) ≡ (if u then Some made else None)
made_as s t b bytes written made found u same is test h =
    ap (λ (x : Settings). option_map (compact_key x.depth x.weighting b) (stored_parts x.depth x.weighting written)) (sym same)
    ∙ ap (λ (xs : List ℕ). option_map (compact_key s.depth s.weighting b) (stored_parts s.depth s.weighting xs)) (sym is)
    ∙ h ∙ ap (λ (v : Bool). if v then Some made else None) test

-- both ends, by these levels
both_ends : (s : Settings) (b : BookContent) (count all later : ℕ) (made low high : List ℕ) (firsts : List (List ℕ)) → all ≡ level_count s.weighting
    → later ≡ all - count → length firsts ≡ count → 0 < count → made ≡ plain_key s.weighting b firsts → length firsts ≤ level_count s.weighting
    → ((start : List ℕ) (last : ℕ) → made ≡ start ++ last ∷ [] → low ≡ start ++ (last - later) ∷ [])
    → ((start : List ℕ) (last : ℕ) → made ≡ start ++ last ∷ [] → last + suc later < 256 → high ≡ start ++ (last + suc later) ∷ [])
    → (low ≡ compact_levels_low s.weighting b firsts) × (high ≡ compact_levels_high s.weighting b firsts)
both_ends s b count all later made low high firsts total rest long some made_is few below above =
    let after : later ≡ levels_after s.weighting firsts = omega (arith, rest, total, long) in
    let e = ends_in_byte s.weighting b firsts (omega (arith, long, some)) few in
    let here : made ≡ e.front ++ e.end ∷ [] = made_is ∙ e.is in
    let low_is : compact_levels_low s.weighting b firsts ≡ e.front ++ (e.end - later) ∷ [] =
    ap (with_last (λ n. n - levels_after s.weighting firsts)) e.is ∙ last_of (λ n. n - levels_after s.weighting firsts) e.front e.end
    ∙ ap (λ (n : ℕ). e.front ++ (e.end - n) ∷ []) (sym after) in
    let high_is : compact_levels_high s.weighting b firsts ≡ e.front ++ (e.end + suc later) ∷ [] =
    ap (with_last (λ n. n + suc (levels_after s.weighting firsts))) e.is ∙ last_of (λ n. n + suc (levels_after s.weighting firsts)) e.front e.end
    ∙ ap (λ (n : ℕ). e.front ++ (e.end + suc n) ∷ []) (sym after) in
    (below e.front e.end here ∙ sym low_is, above e.front e.end here (omega (arith, after, e.top)) ∙ sym high_is)

-- both ends
pub compact_found : (s : Settings) (b : BookContent) (count all later : ℕ) (key front plains written made low high : List ℕ) (end : ℕ) → all ≡ level_count s.weighting
    → later ≡ all - count → Some end ≡ levels_length count key → front ≡ take end key → WritesPlains count all front plains → written ≡ plains ++ no_points s.depth
    → option_map (compact_key s.depth s.weighting b) (stored_parts s.depth s.weighting written) ≡ Some made
    → ((start : List ℕ) (last : ℕ) → made ≡ start ++ last ∷ [] → low ≡ start ++ (last - later) ∷ [])
    → ((start : List ℕ) (last : ℕ) → made ≡ start ++ last ∷ [] → last + suc later < 256 → high ≡ start ++ (last + suc later) ∷ [])
    → FindsCompactLevels s b count key true low high
compact_found s b count all later key front plains written made low high end total rest ends cut write last made_by below above k firsts parts is begins long some =
    let it = plain_found s b count all key front plains written made end true total ends cut write last made_by k firsts parts is begins long some in
    let ends_are = both_ends s b count all later made low high firsts total rest long some it.1 it.2 below above in
    (refl, ends_are.0, ends_are.1)

-- and the levels that the bytes begin with
pub compact_has : (s : Settings) (b : BookContent) (count all later : ℕ) (key front plains written made low high : List ℕ) (end : ℕ) → AreBytes key
    → (0 < count) × (count ≤ all) → all ≡ level_count s.weighting → later ≡ all - count → Some end ≡ levels_length count key → front ≡ take end key
    → WritesPlains count all front plains → written ≡ plains ++ no_points s.depth
    → option_map (compact_key s.depth s.weighting b) (stored_parts s.depth s.weighting written) ≡ Some made
    → ((start : List ℕ) (last : ℕ) → made ≡ start ++ last ∷ [] → low ≡ start ++ (last - later) ∷ [])
    → ((start : List ℕ) (last : ℕ) → made ≡ start ++ last ∷ [] → last + suc later < 256 → high ≡ start ++ (last + suc later) ∷ [])
    → HasCompactLevels s b count key low high
compact_has s b count all later key front plains written made low high end are counts total rest ends cut write last made_by below above =
    let found = levels_found count key end are counts.0 (sym ends) in
    let firsts = found.0 in
    let few : length firsts ≤ level_count s.weighting = omega (arith, found.1.0, counts.1, total) in
    let it = plain_made s b count all front plains written made true firsts total write last made_by found.1 counts.0 few (cut ∙ found.2) in
    let ends_are = both_ends s b count all later made low high firsts total rest found.1.0 counts.0 it.1 few below above in
    record {
      firsts = firsts;
      rest = drop end key;
      levels = found.1;
      few = (counts.0, omega (arith, counts.1, total));
      begins = sym (take-append-drop end key) ∙ ap (λ (xs : List ℕ). xs ++ drop end key) found.2;
      low_end = ends_are.0;
      high_end = ends_are.1;
    }

-- keys have not so many levels, or none are asked for
pub no_such_levels : (s : Settings) (b : BookContent) (count all : ℕ) (key low high : List ℕ) → all ≡ level_count s.weighting
    → ¬ ((0 < count) × (count ≤ all)) → FindsCompactLevels s b count key false low high
no_such_levels s b count all key low high total none k firsts parts is begins long some =
    absurd (none (some, omega (arith, total, long, begin_few firsts begins.0 k.levels (level_count s.weighting) begins.1 parts.levels.0)))

-- that key is always found
pub compact_not_found : (s : Settings) (b : BookContent) (count all : ℕ) (key front plains written made low high : List ℕ) (end : ℕ) → all ≡ level_count s.weighting
    → Some end ≡ levels_length count key → front ≡ take end key → WritesPlains count all front plains → written ≡ plains ++ no_points s.depth
    → option_map (compact_key s.depth s.weighting b) (stored_parts s.depth s.weighting written) ≡ None
    → FindsCompactLevels s b count key false low high
compact_not_found s b count all key front plains written made low high end total ends cut write last made_by k firsts parts is begins long some =
    let it = plain_found s b count all key front plains written made end false total ends cut write last made_by k firsts parts is begins long some in
    absurd (let wrong : false ≡ true = it.0 in cc)

-- a key has an end of these levels
pub no_compact_end : (s : Settings) (b : BookContent) (count : ℕ) (key low high : List ℕ) → None ≡ levels_length count key → FindsCompactLevels s b count key false low high
no_compact_end s b count key low high none k firsts parts is begins long some =
    let there = key_length s.depth k firsts key parts.levels.1 is begins (omega (arith, long, some)) in
    let both : None ≡ Some (length (levels_bytes firsts)) = none ∙ ap (λ (n : ℕ). levels_length n key) (sym long) ∙ there.0 in
    absurd cc
