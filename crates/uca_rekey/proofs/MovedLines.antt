-- The line of a key that is put through the maps is the line of the new key: its digits, alone and in groups. And the line of a
-- key becomes that of its compact key.
use Rattle.std.proofs.Common.{◌≡◌, ℕ, zero, suc, ◌+◌, ◌*◌, ◌/◌, ◌%◌, ◌<◌, ◌≤◌, true, false, List, [], ◌∷◌, ◌++◌, map, length, Option, Some, None, nat_eq, nat_lt, refl, ap, ap₂, sym, ◌∙◌, append_assoc, append-nil, arith, length-append, chars, subst, ◌↔◌}
use Rattle.std.specs.Prelude.{◌==◌}
use Rattle.std.specs.List.{flat_map, join_with_byte}
use Rattle.std.proofs.lemmas.Bool.{cond_both, ne_eqb}
use Rattle.std.proofs.lemmas.Grind.{flat_map-append}
use Rattle.std.proofs.lemmas.List.{append_cancel_right, map-append}
use Rattle.std.proofs.lemmas.Str.{scalars-chars}
use Rattle.std.specs.Str.{IsUtf8}
use Rattle.uca_scalars.proofs.NfdScalars.{each_nfd_scalar}
use Rattle.uca_weights.specs.declared.Asked.{Asked}
use Rattle.uca_weights.specs.declared.Depth.{Depth}
use Rattle.uca_weights.specs.declared.Depth.TheVariants.{Weights, Identical}
use Rattle.uca_weights.specs.declared.Weighting.{Weighting}
use Rattle.uca_weights.proofs.Tests.{by_cases}
use Rattle.uca_values.specs.Content.{TableContent, Properties, IsTable}
use Rattle.uca_lines.specs.Lines.{ended}
use Rattle.uca_lines.specs.Numbers.{digits, hex_of, upper_digit}
use Rattle.uca_lines.proofs.DigitLemmas.{hex_of-digits}
use Rattle.uca_order.specs.Levels.{key_bytes, level_count, weight_bytes}
use Rattle.uca_order.specs.Depths.{ReadText, key_at, point_bytes, points_bytes}
use Rattle.uca_order.specs.Keyings.{Keying, keying, key_of_bytes, read_of}
use Rattle.uca_order.proofs.Levels.{key_is_bytes}
use Rattle.uca_order.proofs.Keyings.{bytes_fit}
use Rattle.uca_books.specs.Books.{BookContent}
use Rattle.uca_compact.specs.CompactTexts.{compact_of_bytes}
use Rattle.uca_compact.specs.StoredParts.{IsCompactOf}
use Rattle.uca_compact.proofs.CompactTexts.{compact_is}
use Rattle.uca_tailorings.specs.Images.{Maps}
use Rattle.uca_tailorings.specs.Moves.{KeyMoves, are_points, level_images, moved_from, weight_before}
use Rattle.uca_run_parts.specs.Print.{byte_digits, digits_line_of, groups, keyed_line_of, print_line_at, printed_after, printed_groups, spaced_point}
use Rattle.uca_rekey.specs.Laws.{AreBytes, LinesMoveWithKeys, LinesBecomeCompactLines}
use Rattle.uca_rekey.specs.ChangedLines.{LineBecomes, byte_before, bytes_of, compacts, digits_of, from_tab, key_in, moves, with_digits, with_key}
use Rattle.uca_rekey.proofs.LineKeys.{with_no_digits}

-- ---- The digits of a key

no_low_digit : (d : ℕ) → 48 ≤ upper_digit d
no_low_digit d = cond_both (nat_lt d 10) _ _ (λ x. 48 ≤ x) (λ low. omega arith) (λ high. omega arith)

-- a digit is no tab and no space
is_other : (d b : ℕ) → b < 48 → (upper_digit d == b) ≡ false
is_other d b low = ne_eqb (upper_digit d) b (λ same. let above = no_low_digit d in omega arith)

digits_of-key : (key rest : List ℕ) → digits_of (flat_map byte_digits key ++ rest) ≡ flat_map byte_digits key ++ digits_of rest
digits_of-key [] rest = refl
digits_of-key (b ∷ key) rest =
    rw (is_other (b / 16) 9 (omega arith), is_other (b / 16) 32 (omega arith), is_other (b % 16) 9 (omega arith), is_other (b % 16) 32 (omega arith))
    (ap (λ l. upper_digit (b / 16) ∷ upper_digit (b % 16) ∷ l) (digits_of-key key rest))

hex_of_byte : (b : ℕ) → b < 256 → hex_of (upper_digit (b / 16) ∷ upper_digit (b % 16) ∷ []) ≡ Some b
unfolding digits
hex_of_byte b h =
    let small : b / 16 ≡ b / 16 % 16 = omega arith in
    ap (λ d. hex_of (upper_digit d ∷ upper_digit (b % 16) ∷ [])) small ∙ hex_of-digits 2 b h

bytes_of-key : (key : List ℕ) → AreBytes key → bytes_of (flat_map byte_digits key) ≡ Some key
bytes_of-key [] all = refl
bytes_of-key (b ∷ key) all = ap₂ byte_before (hex_of_byte b all.0) (bytes_of-key key all.1)

-- those of a key as long take their place
with_digits-key : (old new rest later : List ℕ) → length old ≡ length new
    → with_digits (flat_map byte_digits old ++ rest) (flat_map byte_digits new ++ later) ≡ flat_map byte_digits new ++ with_digits rest later
with_digits-key [] [] rest later long = refl
with_digits-key [] (n ∷ new) rest later long = absurd (omega arith)
with_digits-key (o ∷ old) [] rest later long = absurd (omega arith)
with_digits-key (o ∷ old) (n ∷ new) rest later long =
    rw (is_other (o / 16) 9 (omega arith), is_other (o / 16) 32 (omega arith), is_other (o % 16) 9 (omega arith), is_other (o % 16) 32 (omega arith))
    (ap (λ l. upper_digit (n / 16) ∷ upper_digit (n % 16) ∷ l) (with_digits-key old new rest later (omega arith)))

-- ---- A key that moves is as long as before

weight_parts : (w : Option ℕ) (rest : Option (List ℕ)) (new : List ℕ) → weight_before w rest ≡ Some new
    → (more : List ℕ) × (rest ≡ Some more) × (length new ≡ suc (suc (length more)))
weight_parts None rest new h = cc
weight_parts (Some w) None new h = cc
weight_parts (Some w) (Some more) new h = (more, refl, (let same : weight_bytes w ++ more ≡ new = cc in ap length (sym same)))

length-moved : (maps : Maps) (depth : Depth) (level more : ℕ) (bytes new : List ℕ) → moved_from maps depth level more bytes ≡ Some new → length new ≡ length bytes
length-moved maps Weights level zero bytes new h = cc
length-moved maps Identical level zero bytes new h =
    by_cases (are_points bytes)
    (λ whole. let kept : Some bytes ≡ Some new = rw whole at h in let same : bytes ≡ new = cc in ap length (sym same))
    (λ other. let none : None ≡ Some new = rw other at h in cc)
length-moved maps Weights level (suc zero) [] new h = (let same : [] ≡ new = cc in ap length (sym same))
length-moved maps Weights level (suc (suc more)) [] new h = cc
length-moved maps Identical level (suc more) [] new h = cc
length-moved maps depth level (suc more) (a ∷ []) new h = cc
length-moved maps depth level (suc more) (a ∷ b ∷ bytes) new h =
    by_cases (nat_eq (256 * a + b) 0)
    (λ next. let parts = weight_parts (Some 0) (moved_from maps depth (suc level) more bytes) new (rw next at h) in
    parts.2 ∙ ap (λ n. suc (suc n)) (length-moved maps depth (suc level) more bytes parts.0 parts.1))
    (λ weight. let parts = weight_parts (level_images maps level (256 * a + b)) (moved_from maps depth level (suc more) bytes) new (rw weight at h) in
    parts.2 ∙ ap (λ n. suc (suc n)) (length-moved maps depth level (suc more) bytes parts.0 parts.1))

-- ---- A key in parts, each after a space

spelled : List (List ℕ) → List ℕ
spelled parts = flat_map (λ part. 32 ∷ flat_map byte_digits part) parts

all_of : List (List ℕ) → List ℕ
all_of parts = flat_map (λ part. part) parts

digits_of-spelled : (parts : List (List ℕ)) → digits_of (spelled parts) ≡ flat_map byte_digits (all_of parts)
unfolding spelled all_of
digits_of-spelled [] = refl
digits_of-spelled (part ∷ parts) =
    digits_of-key part (spelled parts) ∙ ap (λ l. flat_map byte_digits part ++ l) (digits_of-spelled parts) ∙ sym (flat_map-append byte_digits part (all_of parts))

-- a space stays
space_first : (line digits_ : List ℕ) → with_digits (32 ∷ line) digits_ ≡ 32 ∷ with_digits line digits_
space_first line [] = ap (λ l. 32 ∷ l) (sym (with_no_digits line))
space_first line (d ∷ ds) = refl

with_digits-spelled : (old new : List (List ℕ)) → map length old ≡ map length new → with_digits (spelled old) (flat_map byte_digits (all_of new)) ≡ spelled new
unfolding spelled all_of
with_digits-spelled [] [] same = refl
with_digits-spelled [] (n ∷ new) same = cc
with_digits-spelled (o ∷ old) [] same = cc
with_digits-spelled (o ∷ old) (n ∷ new) same =
    let first : length o ≡ length n = cc in
    let rest : map length old ≡ map length new = cc in
    space_first (flat_map byte_digits o ++ spelled old) (flat_map byte_digits (n ++ all_of new))
    ∙ ap (λ l. 32 ∷ with_digits (flat_map byte_digits o ++ spelled old) l) (flat_map-append byte_digits n (all_of new))
    ∙ ap (λ l. 32 ∷ l) (with_digits-key o n (spelled old) (flat_map byte_digits (all_of new)) first ∙ ap (λ l. flat_map byte_digits n ++ l) (with_digits-spelled old new rest))

-- the groups of a key
pairs : List ℕ → List (List ℕ)
pairs [] = []
pairs (a ∷ []) = (a ∷ []) ∷ []
pairs (a ∷ b ∷ more) = (a ∷ b ∷ []) ∷ pairs more

all_of-pairs : (key : List ℕ) → all_of (pairs key) ≡ key
unfolding all_of pairs
all_of-pairs [] = refl
all_of-pairs (a ∷ []) = refl
all_of-pairs (a ∷ b ∷ more) = ap (λ l. a ∷ b ∷ l) (all_of-pairs more)

same_pairs : (old new : List ℕ) → length old ≡ length new → map length (pairs old) ≡ map length (pairs new)
unfolding pairs
same_pairs [] [] long = refl
same_pairs [] (n ∷ new) long = absurd (omega arith)
same_pairs (o ∷ old) [] long = absurd (omega arith)
same_pairs (o ∷ []) (n ∷ []) long = refl
same_pairs (o ∷ []) (n ∷ m ∷ new) long = absurd (omega arith)
same_pairs (o ∷ p ∷ old) (n ∷ []) long = absurd (omega arith)
same_pairs (o ∷ p ∷ old) (n ∷ m ∷ new) long = ap (λ l. 2 ∷ l) (same_pairs old new (omega arith))

-- all groups but the first have a space before them
joined : (all : List (List ℕ)) (group : List ℕ) → 32 ∷ join_with_byte 32 (group ∷ all) ≡ flat_map (λ g. 32 ∷ g) (group ∷ all)
joined [] group = ap (λ l. 32 ∷ l) (sym (append-nil group))
joined (next ∷ all) group = ap (λ l. 32 ∷ (group ++ l)) (joined all next)

spelled-pairs : (key : List ℕ) → spelled (pairs key) ≡ flat_map (λ g. 32 ∷ g) (groups key)
unfolding spelled pairs
spelled-pairs [] = refl
spelled-pairs (a ∷ []) = refl
spelled-pairs (a ∷ b ∷ more) = ap (λ l. 32 ∷ (byte_digits a ++ byte_digits b) ++ l) (spelled-pairs more)

printed-spelled : (a : ℕ) (key : List ℕ) → 32 ∷ printed_groups (a ∷ key) ≡ spelled (pairs (a ∷ key))
unfolding printed_groups
printed-spelled a [] = joined [] (byte_digits a) ∙ sym (spelled-pairs (a ∷ []))
printed-spelled a (b ∷ more) = joined (groups more) (byte_digits a ++ byte_digits b) ∙ sym (spelled-pairs (a ∷ b ∷ more))

-- what comes after the weights
points_parts : Depth → List ℕ → List (List ℕ)
points_parts Weights points = []
points_parts Identical points = (0 ∷ 0 ∷ []) ∷ map point_bytes points

all_of-points : (points : List ℕ) → all_of (map point_bytes points) ≡ points_bytes points
unfolding all_of
all_of-points [] = refl
all_of-points (c ∷ points) = ap (λ l. point_bytes c ++ l) (all_of-points points)

spelled-points : (points : List ℕ) → flat_map spaced_point points ≡ spelled (map point_bytes points)
unfolding spelled
spelled-points [] = refl
spelled-points (c ∷ points) = ap (λ l. spaced_point c ++ l) (spelled-points points)

same_points : (old new : List ℕ) → length old ≡ length new → map length (map point_bytes old) ≡ map length (map point_bytes new)
same_points [] [] long = refl
same_points [] (n ∷ new) long = absurd (omega arith)
same_points (o ∷ old) [] long = absurd (omega arith)
same_points (o ∷ old) (n ∷ new) long = ap (λ l. 3 ∷ l) (same_points old new (omega arith))

length-points : (points : List ℕ) → length (points_bytes points) ≡ 3 * length points
length-points [] = refl
length-points (c ∷ points) = omega (arith, length-points points)

-- the parts of the line of a key and code points
parts_of : Depth → List ℕ → List ℕ → List (List ℕ)
parts_of depth key points = pairs key ++ points_parts depth points

-- the line, without its LF
printed : Depth → List ℕ → List ℕ → List ℕ
printed depth key points = printed_groups key ++ printed_after depth points

after-spelled : (depth : Depth) (points : List ℕ) → printed_after depth points ≡ spelled (points_parts depth points)
unfolding spelled points_parts
after-spelled Weights points = refl
after-spelled Identical points = ap (λ l. 32 ∷ 48 ∷ 48 ∷ 48 ∷ 48 ∷ l) (spelled-points points)

no_key-spelled : (depth : Depth) (points : List ℕ) → printed depth [] points ≡ spelled (parts_of depth [] points)
unfolding printed parts_of printed_groups pairs
no_key-spelled depth points = after-spelled depth points

some_key-spelled : (depth : Depth) (a : ℕ) (key points : List ℕ) → 32 ∷ printed depth (a ∷ key) points ≡ spelled (parts_of depth (a ∷ key) points)
unfolding printed parts_of spelled
some_key-spelled depth a key points =
    ap₂ ◌++◌ (printed-spelled a key) (after-spelled depth points)
    ∙ sym (flat_map-append (λ part. 32 ∷ flat_map byte_digits part) (pairs (a ∷ key)) (points_parts depth points))

digits_of-printed : (depth : Depth) (key points : List ℕ) → digits_of (printed depth key points) ≡ flat_map byte_digits (all_of (parts_of depth key points))
digits_of-printed depth [] points = ap digits_of (no_key-spelled depth points) ∙ digits_of-spelled (parts_of depth [] points)
digits_of-printed depth (a ∷ key) points = ap digits_of (some_key-spelled depth a key points) ∙ digits_of-spelled (parts_of depth (a ∷ key) points)

with_digits-printed : (depth : Depth) (old new points others : List ℕ) → length old ≡ length new → map length (parts_of depth old points) ≡ map length (parts_of depth new others)
    → with_digits (printed depth old points) (flat_map byte_digits (all_of (parts_of depth new others))) ≡ printed depth new others
with_digits-printed depth [] [] points others long same =
    ap (λ l. with_digits l (flat_map byte_digits (all_of (parts_of depth [] others)))) (no_key-spelled depth points)
    ∙ with_digits-spelled (parts_of depth [] points) (parts_of depth [] others) same ∙ sym (no_key-spelled depth others)
with_digits-printed depth [] (n ∷ new) points others long same = absurd (omega arith)
with_digits-printed depth (o ∷ old) [] points others long same = absurd (omega arith)
with_digits-printed depth (o ∷ old) (n ∷ new) points others long same =
    let line = flat_map byte_digits (all_of (parts_of depth (n ∷ new) others)) in
    let whole : 32 ∷ with_digits (printed depth (o ∷ old) points) line ≡ 32 ∷ printed depth (n ∷ new) others =
    sym (space_first (printed depth (o ∷ old) points) line) ∙ ap (λ l. with_digits l line) (some_key-spelled depth o old points)
    ∙ with_digits-spelled (parts_of depth (o ∷ old) points) (parts_of depth (n ∷ new) others) same ∙ sym (some_key-spelled depth n new others) in
    cc

-- ---- The key of a text

all_of-parts : (depth : Depth) (weighting : Weighting) (t : ReadText) → all_of (parts_of depth (key_bytes weighting t.elements) t.points) ≡ key_at depth weighting t
unfolding all_of parts_of points_parts
all_of-parts Weights weighting t =
    flat_map-append (λ part. part) (pairs (key_bytes weighting t.elements)) [] ∙ append-nil (all_of (pairs (key_bytes weighting t.elements))) ∙ all_of-pairs (key_bytes weighting t.elements)
all_of-parts Identical weighting t =
    flat_map-append (λ part. part) (pairs (key_bytes weighting t.elements)) ((0 ∷ 0 ∷ []) ∷ map point_bytes t.points)
    ∙ ap₂ ◌++◌ (all_of-pairs (key_bytes weighting t.elements)) (ap (λ l. 0 ∷ 0 ∷ l) (all_of-points t.points))

-- the line of a key without its LF
keyed_is : (key line before : List ℕ) → ended before ≡ keyed_line_of key line → before ≡ flat_map byte_digits key ++ 9 ∷ line
keyed_is key line before is =
    append_cancel_right before (flat_map byte_digits key ++ 9 ∷ line) (10 ∷ []) (is ∙ sym (append_assoc (flat_map byte_digits key) (9 ∷ line) (10 ∷ [])))

printed_is : (depth : Depth) (key points before : List ℕ) → ended before ≡ print_line_at depth key points → before ≡ printed depth key points
unfolding printed
printed_is depth key points before is =
    append_cancel_right before (printed_groups key ++ printed_after depth points) (10 ∷ [])
    (is ∙ sym (append_assoc (printed_groups key) (printed_after depth points) (10 ∷ [])))

module _ (maps : Maps) (old new : ReadText) (move : KeyMoves maps old new) where
  long_key : (depth : Depth) (weighting : Weighting) → length (key_at depth weighting old) ≡ length (key_at depth weighting new)
  long_key depth weighting =
      sym (length-moved maps depth 1 (level_count weighting) (key_at depth weighting old) (key_at depth weighting new) (move.mended depth weighting))

  -- the line has the digits of the new key then
  line_moves : (depth : Depth) (weighting : Weighting) (line now : List ℕ) → AreBytes (key_at depth weighting old) → digits_of line ≡ flat_map byte_digits (key_at depth weighting old)
      → with_key true line (key_at depth weighting new) ≡ now → LineBecomes (moves depth weighting maps) line now
  line_moves depth weighting line now bytes is put = record {
    key = key_at depth weighting old;
    new_key = key_at depth weighting new;
    has = ap bytes_of is ∙ bytes_of-key (key_at depth weighting old) bytes;
    becomes = move.mended depth weighting;
    put = sym put;
  }

  keyed_moves : (depth : Depth) (weighting : Weighting) → AreBytes (key_at depth weighting old) → (line before after : List ℕ)
      → ended before ≡ keyed_line_of (key_at depth weighting old) line → ended after ≡ keyed_line_of (key_at depth weighting new) line
      → LineBecomes (moves depth weighting maps) before after
  keyed_moves depth weighting bytes line before after is becoming =
      let was = key_at depth weighting old in
      let now = key_at depth weighting new in
      let front = keyed_is was line before is in
      line_moves depth weighting before after bytes (ap digits_of front ∙ digits_of-key was (9 ∷ line) ∙ append-nil (flat_map byte_digits was))
      (ap₂ with_digits front (sym (append-nil (flat_map byte_digits now))) ∙ with_digits-key was now (9 ∷ line) [] (long_key depth weighting)
      ∙ sym (keyed_is now line after becoming))

  same_parts : (depth : Depth) (weighting : Weighting)
      → map length (parts_of depth (key_bytes weighting old.elements) old.points) ≡ map length (parts_of depth (key_bytes weighting new.elements) new.points)
  unfolding parts_of points_parts
  same_parts Weights weighting =
      ap (map length) (append-nil (pairs (key_bytes weighting old.elements)))
      ∙ same_pairs (key_bytes weighting old.elements) (key_bytes weighting new.elements) (long_key Weights weighting)
      ∙ ap (map length) (sym (append-nil (pairs (key_bytes weighting new.elements))))
  same_parts Identical weighting =
      let was = key_bytes weighting old.elements in
      let now = key_bytes weighting new.elements in
      let weights : length was ≡ length now = long_key Weights weighting in
      let many : length old.points ≡ length new.points =
      omega (
        arith,
        long_key Identical weighting,
        weights,
        length-append was (0 ∷ 0 ∷ points_bytes old.points),
        length-append now (0 ∷ 0 ∷ points_bytes new.points),
        length-points old.points,
        length-points new.points,
      ) in
      map-append length (pairs was) ((0 ∷ 0 ∷ []) ∷ map point_bytes old.points)
      ∙ ap₂ ◌++◌ (same_pairs was now weights) (ap (λ l. 2 ∷ l) (same_points old.points new.points many))
      ∙ sym (map-append length (pairs now) ((0 ∷ 0 ∷ []) ∷ map point_bytes new.points))

  printed_moves : (depth : Depth) (weighting : Weighting) → AreBytes (key_at depth weighting old) → (before after : List ℕ)
      → ended before ≡ print_line_at depth (key_bytes weighting old.elements) old.points → ended after ≡ print_line_at depth (key_bytes weighting new.elements) new.points
      → LineBecomes (moves depth weighting maps) before after
  printed_moves depth weighting bytes before after is becoming =
      let was = key_bytes weighting old.elements in
      let now = key_bytes weighting new.elements in
      let front = printed_is depth was old.points before is in
      line_moves depth weighting before after bytes
      (ap digits_of front ∙ digits_of-printed depth was old.points ∙ ap (flat_map byte_digits) (all_of-parts depth weighting old))
      (ap₂ with_digits front (ap (flat_map byte_digits) (sym (all_of-parts depth weighting new)))
      ∙ with_digits-printed depth was now old.points new.points (long_key Weights weighting) (same_parts depth weighting) ∙ sym (printed_is depth now new.points after becoming))

pub lines_move : LinesMoveWithKeys
lines_move maps old new move = record { keyed = keyed_moves maps old new move; printed = printed_moves maps old new move }

-- ---- Compact keys

-- digits are no tab
from_tab-key : (key rest : List ℕ) → from_tab (flat_map byte_digits key ++ rest) ≡ from_tab rest
from_tab-key [] rest = refl
from_tab-key (b ∷ key) rest = rw (is_other (b / 16) 9 (omega arith), is_other (b % 16) 9 (omega arith)) (from_tab-key key rest)

-- nor are the spaces before groups
from_tab-spelled : (parts : List (List ℕ)) → from_tab (spelled parts) ≡ []
unfolding spelled
from_tab-spelled [] = refl
from_tab-spelled (part ∷ parts) = from_tab-key part (spelled parts) ∙ from_tab-spelled parts

from_tab-printed : (depth : Depth) (key points : List ℕ) → from_tab (printed depth key points) ≡ []
from_tab-printed depth [] points = ap from_tab (no_key-spelled depth points) ∙ from_tab-spelled (parts_of depth [] points)
from_tab-printed depth (a ∷ key) points = ap from_tab (some_key-spelled depth a key points) ∙ from_tab-spelled (parts_of depth (a ∷ key) points)

-- the key of a line has one compact key
one_line : (depth : Depth) (weighting : Weighting) (b : BookContent) (line key compact new : List ℕ) → key_in line ≡ Some key →
    IsCompactOf depth weighting b key compact → LineBecomes (compacts depth weighting b) line new ↔ (new ≡ with_key false line compact)
one_line depth weighting b line key compact new has is = (
  (λ h. let same : h.key ≡ key = cc (h.has, has) in
      let of_key : IsCompactOf depth weighting b key h.new_key = subst (λ (k : List ℕ). IsCompactOf depth weighting b k h.new_key) same h.becomes in
      let one : h.new_key ≡ compact = cc (of_key, is) in
      h.put ∙ ap (with_key false line) one),
  (λ put. record { key = key; new_key = compact; has = has; becomes = is; put = put }),
)

module _ (asked : Asked) (table : TableContent) (properties : Properties) (b : BookContent) (bytes : List ℕ) (is : IsTable table) (utf8 : IsUtf8 bytes) where
  abbrev k : Keying
  k = keying asked table properties

  abbrev key : List ℕ
  key = key_of_bytes k bytes

  abbrev compact : List ℕ
  compact = compact_of_bytes b k bytes

  are_bytes : AreBytes key
  are_bytes =
      key_is_bytes k.settings.depth k.settings.weighting (read_of k bytes) (bytes_fit asked table properties is bytes utf8)
      (each_nfd_scalar (chars bytes) (scalars-chars bytes utf8))

  -- what the line becomes, by its digits
  line_becomes : (before after : List ℕ) → digits_of before ≡ flat_map byte_digits key →
      LineBecomes (compacts k.settings.depth k.settings.weighting b) before after ↔ (after ≡ with_key false before compact)
  line_becomes before after digits_are =
      one_line k.settings.depth k.settings.weighting b before key compact after (ap bytes_of digits_are ∙ bytes_of-key key are_bytes)
      (compact_is asked table properties is bytes utf8 b)

  -- a key before a row
  keyed_compact : (row before after : List ℕ) → ended before ≡ keyed_line_of key row →
      LineBecomes (compacts k.settings.depth k.settings.weighting b) before after ↔ (ended after ≡ keyed_line_of compact row)
  keyed_compact row before after was =
      let front = keyed_is key row before was in
      let new : with_key false before compact ≡ flat_map byte_digits compact ++ 9 ∷ row =
      ap (λ l. flat_map byte_digits compact ++ l) (ap from_tab front ∙ from_tab-key key (9 ∷ row)) in
      let line = line_becomes before after (ap digits_of front ∙ digits_of-key key (9 ∷ row) ∙ append-nil (flat_map byte_digits key)) in (
        (λ h. ap ended (line.0 h ∙ new) ∙ append_assoc (flat_map byte_digits compact) (9 ∷ row) (10 ∷ [])),
        (λ h. line.1 (keyed_is compact row after h ∙ sym new)),
      )

  -- a key alone, in groups
  printed_compact : (before after : List ℕ) → ended before ≡ print_line_at k.settings.depth (key_bytes k.settings.weighting (read_of k bytes).elements) (read_of k bytes).points →
      LineBecomes (compacts k.settings.depth k.settings.weighting b) before after ↔ (ended after ≡ digits_line_of compact)
  printed_compact before after was =
      let weights = key_bytes k.settings.weighting (read_of k bytes).elements in
      let points = (read_of k bytes).points in
      let front = printed_is k.settings.depth weights points before was in
      let new : with_key false before compact ≡ flat_map byte_digits compact =
      ap (λ l. flat_map byte_digits compact ++ l) (ap from_tab front ∙ from_tab-printed k.settings.depth weights points) ∙ append-nil (flat_map byte_digits compact) in
      let line =
      line_becomes before after
      (ap digits_of front ∙ digits_of-printed k.settings.depth weights points
      ∙ ap (flat_map byte_digits) (all_of-parts k.settings.depth k.settings.weighting (read_of k bytes))) in (
        (λ h. ap ended (line.0 h ∙ new)),
        (λ h. line.1 (append_cancel_right after (flat_map byte_digits compact) (10 ∷ []) h ∙ sym new)),
      )

pub lines_become_compact : LinesBecomeCompactLines
lines_become_compact asked table properties b bytes is utf8 = record {
  keyed = keyed_compact asked table properties b bytes is utf8;
  printed = printed_compact asked table properties b bytes is utf8;
}
