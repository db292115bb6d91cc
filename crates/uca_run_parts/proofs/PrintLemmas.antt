-- A line that is printed piece by piece.
use Rattle.std.proofs.Common.{◌≡◌, ℕ, zero, suc, min, ◌+◌, ◌-◌, ◌*◌, ◌^◌, ◌/◌, ◌%◌, ◌<◌, ◌≤◌, List, [], ◌∷◌, ◌++◌, length, take, drop, get_or, set, take-append-drop, refl, sym, ap, subst, ◌∙◌, append_assoc, arith, length-append}
use Rattle.std.specs.Simd.{first_chunks}
use Rattle.std.proofs.lemmas.List.{drop-append-le, append-nil, take_more, take_more_set, take_all, take_at, take_rest, length-take-le, drop-drop, get_or-take, get_or-drop}
use Rattle.std.proofs.lemmas.List.Concat.{flat_map-append}
use Rattle.std.specs.List.{flat_map, join_with_byte}
use Rattle.uca_weights.specs.Streams.{SinkState}
use Rattle.uca_weights.specs.declared.Depth.{Depth}
use Rattle.uca_weights.specs.declared.Depth.TheVariants.{Weights, Identical}
use Rattle.uca_lines.specs.Lines.{ended}
use Rattle.uca_lines.specs.OutputBuffer.{BufferState}
use Rattle.uca_lines.specs.Buffered.{HasRoom, HasWrittenThrough}
use Rattle.uca_lines.proofs.BufferedLemmas.{part, written_none, written_then}
use Rattle.uca_run_parts.specs.Print.{byte_digits, groups, printed_groups, spaced_groups, spaced_point, identical_level, printed_after, print_line_at, digits_line_of, keyed_line_of}

-- ---- The groups

pub groups_none : printed_groups [] ≡ []
unfolding printed_groups
groups_none = refl

-- ---- The groups, each after a space

pub spaced_none : spaced_groups [] ≡ []
unfolding spaced_groups
spaced_none = refl

-- after whole groups others begin
pub spaced-append : (xs ys : List ℕ) → length xs % 2 ≡ 0 → spaced_groups (xs ++ ys) ≡ spaced_groups xs ++ spaced_groups ys
unfolding spaced_groups
spaced-append [] ys even = refl
spaced-append (a ∷ []) ys even = absurd (omega arith)
spaced-append (a ∷ b ∷ xs) ys even = ap (λ l. (32 ∷ (byte_digits a ++ byte_digits b)) ++ l) (spaced-append xs ys (omega arith))

pub length-spaced : (xs : List ℕ) → length xs % 2 ≡ 0 → 2 * length (spaced_groups xs) ≡ 5 * length xs
unfolding spaced_groups
length-spaced [] even = refl
length-spaced (a ∷ []) even = absurd (omega arith)
length-spaced (a ∷ b ∷ xs) even = let more : 2 * length (spaced_groups xs) ≡ 5 * length xs = length-spaced xs (omega arith) in omega (arith, more)

some_spaced : (xs : List ℕ) → 0 < length xs → 0 < length (spaced_groups xs)
unfolding spaced_groups
some_spaced [] some = absurd (omega arith)
some_spaced (a ∷ []) some = omega arith
some_spaced (a ∷ b ∷ xs) some = omega arith

-- one more group of two bytes
spaced_pair : (part : List ℕ) (n : ℕ) → 2 * n + 1 < length part
    → spaced_groups (take (2 * (n + 1)) part) ≡ spaced_groups (take (2 * n) part) ++ 32 ∷ (byte_digits (get_or part (2 * n) 0) ++ byte_digits (get_or part (2 * n + 1) 0))
unfolding spaced_groups
spaced_pair part n within =
    let x = get_or part (2 * n) 0 in
    let y = get_or part (2 * n + 1) 0 in
    let front = take (2 * n) part in
    let long : length front ≡ 2 * n = length-take-le (2 * n) part (omega arith) in
    let pushed : take (2 * (n + 1)) part ≡ front ++ (x ∷ y ∷ []) =
    ap (λ (m : ℕ). take m part) (omega arith) ∙ take_more part (2 * n + 1) 0 within ∙ ap (λ l. l ++ y ∷ []) (take_more part (2 * n) 0 (omega arith)) ∙ append_assoc front (x ∷ []) (y ∷ []) in
    ap spaced_groups pushed ∙ spaced-append front (x ∷ y ∷ []) (omega arith)

-- a last group of one byte
spaced_last : (part : List ℕ) (n : ℕ) → length part ≡ 2 * n + 1 → spaced_groups part ≡ spaced_groups (take (2 * n) part) ++ 32 ∷ byte_digits (get_or part (2 * n) 0)
unfolding spaced_groups
spaced_last part n long =
    let front = take (2 * n) part in
    let x = get_or part (2 * n) 0 in
    let short : length front ≡ 2 * n = length-take-le (2 * n) part (omega arith) in
    let pushed : part ≡ front ++ (x ∷ []) =
    sym (take_all (2 * n + 1) part (omega arith)) ∙ take_more part (2 * n) 0 (omega arith) in
    ap spaced_groups pushed ∙ spaced-append front (x ∷ []) (omega arith)

-- the bytes of a group
get_or-pairs : (k n : ℕ) (xs d : List ℕ) → n < k → get_or (first_chunks 2 k xs) n d ≡ take 2 (drop (2 * n) xs)
get_or-pairs zero n xs d below = absurd (omega arith)
get_or-pairs (suc k) zero xs d below = refl
get_or-pairs (suc k) (suc n) xs d below =
    get_or-pairs k n (drop 2 xs) d (omega arith) ∙ ap (take 2) (drop-drop (2 * n) 2 xs) ∙ ap (λ (m : ℕ). take 2 (drop m xs)) (omega arith)

pair_byte : (k n j : ℕ) (xs d : List ℕ) → n < k → j < 2 → get_or (get_or (first_chunks 2 k xs) n d) j 0 ≡ get_or xs (2 * n + j) 0
pair_byte k n j xs d below first =
    ap (λ (pair : List ℕ). get_or pair j 0) (get_or-pairs k n xs d below) ∙ get_or-take 2 (drop (2 * n) xs) j 0 first ∙ get_or-drop (2 * n) xs j 0

-- a group written after others
written_more : (groups : List (List ℕ)) (n : ℕ) (group text : List ℕ) → n < length groups → flat_map (λ g. g) (take n groups) ≡ text → flat_map (λ g. g) (take (n + 1) (set groups n group)) ≡ text ++ group
written_more groups n group text within written =
    ap (flat_map (λ g. g)) (take_more_set groups n group within) ∙ flat_map-append (λ g. g) (take n groups) (group ∷ [])
    ∙ ap (λ l. l ++ (group ++ [])) written ∙ ap (λ l. text ++ l) (append-nil group)

-- the text of the groups that were written
written_front : (groups : List (List ℕ)) (n len : ℕ) (text more : List ℕ) → flat_map (λ g. g) (take n groups) ≡ text ++ more → length text ≡ len → take len (flat_map (λ g. g) groups) ≡ text
written_front groups n len text more written long =
    let rest = flat_map (λ g. g) (drop n groups) in
    ap (take len) (ap (flat_map (λ g. g)) (sym (take-append-drop n groups)) ∙ flat_map-append (λ g. g) (take n groups) (drop n groups) ∙ ap (λ l. l ++ rest) written ∙ append_assoc text more rest)
    ∙ take_at text (more ++ rest) len long

last_byte : (part last : List ℕ) (n b : ℕ) → last ≡ drop (length part / 2 * 2) part → n ≡ length part / 2 → b ≡ get_or last 0 0 → b ≡ get_or part (2 * n) 0
last_byte part last n b behind half is =
    is ∙ ap (λ (l : List ℕ). get_or l 0 0) behind ∙ get_or-drop (length part / 2 * 2) part 0 0 ∙ ap (λ (m : ℕ). get_or part m 0) (omega arith)

-- the next group of two bytes was written
pub pair_written : (groups pairs : List (List ℕ)) (part first second d : List ℕ) (n : ℕ) → pairs ≡ first_chunks 2 (length part / 2) part → n < length part / 2 → n < length groups
    → flat_map (λ g. g) (take n groups) ≡ spaced_groups (take (2 * n) part)
    → first ≡ byte_digits (get_or (get_or pairs n d) 0 0)
    → second ≡ byte_digits (get_or (get_or pairs n d) 1 0)
    → flat_map (λ g. g) (take (n + 1) (set groups n (32 ∷ get_or first 0 0 ∷ get_or first 1 0 ∷ get_or second 0 0 ∷ get_or second 1 0 ∷ []))) ≡ spaced_groups (take (2 * (n + 1)) part)
pair_written groups pairs part first second d n are below within written one two =
    let x = get_or part (2 * n) 0 in
    let y = get_or part (2 * n + 1) 0 in
    let high : first ≡ byte_digits x = one ∙ ap byte_digits (ap (λ (l : List (List ℕ)). get_or (get_or l n d) 0 0) are ∙ pair_byte (length part / 2) n 0 part d below (omega arith) ∙ ap (λ (m : ℕ). get_or part m 0) (omega arith)) in
    let low : second ≡ byte_digits y = two ∙ ap byte_digits (ap (λ (l : List (List ℕ)). get_or (get_or l n d) 1 0) are ∙ pair_byte (length part / 2) n 1 part d below (omega arith)) in
    let text = spaced_groups (take (2 * n) part) in
    written_more groups n (32 ∷ get_or first 0 0 ∷ get_or first 1 0 ∷ get_or second 0 0 ∷ get_or second 1 0 ∷ []) text within written
    ∙ ap (λ (l : List ℕ). text ++ (32 ∷ get_or l 0 0 ∷ get_or l 1 0 ∷ get_or second 0 0 ∷ get_or second 1 0 ∷ [])) high
    ∙ ap (λ (l : List ℕ). text ++ (32 ∷ (byte_digits x ++ (get_or l 0 0 ∷ get_or l 1 0 ∷ [])))) low
    ∙ sym (spaced_pair part n (omega arith))

-- all were written, and the last has two bytes
pub pairs_written : (groups : List (List ℕ)) (part : List ℕ) (n len : ℕ) → n ≡ length part / 2 → length part % 2 ≡ 0 → flat_map (λ g. g) (take n groups) ≡ spaced_groups (take (2 * n) part) → len ≡ 5 * n
    → take len (flat_map (λ g. g) groups) ≡ spaced_groups part
pairs_written groups part n len half even written long =
    let all : take (2 * n) part ≡ part = take_all (2 * n) part (omega arith) in
    let count : 2 * length (spaced_groups part) ≡ 5 * length part = length-spaced part even in
    written_front groups n len (spaced_groups part) [] (written ∙ ap spaced_groups all ∙ sym (append-nil (spaced_groups part))) (omega arith)

-- or one
pub last_written : (groups : List (List ℕ)) (part last digits : List ℕ) (n b len : ℕ) → n ≡ length part / 2 → length part % 2 ≡ 1 → n < length groups
    → flat_map (λ g. g) (take n groups) ≡ spaced_groups (take (2 * n) part) → last ≡ drop (length part / 2 * 2) part → b ≡ get_or last 0 0 → digits ≡ byte_digits b → len ≡ 5 * n + 3
    → take len (flat_map (λ g. g) (set groups n (32 ∷ get_or digits 0 0 ∷ get_or digits 1 0 ∷ 0 ∷ 0 ∷ []))) ≡ spaced_groups part
last_written groups part last digits n b len half odd within written behind is are long =
    let front = take (2 * n) part in
    let text = spaced_groups front in
    let group = 32 ∷ get_or digits 0 0 ∷ get_or digits 1 0 ∷ 0 ∷ 0 ∷ [] in
    let all : spaced_groups part ≡ text ++ (32 ∷ byte_digits b) =
    spaced_last part n (omega arith) ∙ ap (λ (x : ℕ). text ++ (32 ∷ byte_digits x)) (sym (last_byte part last n b behind half is)) in
    let short : length front ≡ 2 * n = length-take-le (2 * n) part (omega arith) in
    let count : 2 * length text ≡ 5 * length front = length-spaced front (omega arith) in
    let sum : length (spaced_groups part) ≡ length text + 3 = ap length all ∙ length-append text (32 ∷ byte_digits b) in
    written_front (set groups n group) (n + 1) len (spaced_groups part) (0 ∷ 0 ∷ [])
    (written_more groups n group text within written
    ∙ ap (λ (l : List ℕ). text ++ (32 ∷ get_or l 0 0 ∷ get_or l 1 0 ∷ 0 ∷ 0 ∷ [])) are
    ∙ sym (append_assoc text (32 ∷ byte_digits b) (0 ∷ 0 ∷ [])) ∙ ap (λ l. l ++ (0 ∷ 0 ∷ [])) (sym all))
    (omega arith)

-- ---- One more part

-- the groups have spaces before them, except the first
printed_is : (key : List ℕ) → printed_groups key ≡ drop 1 (spaced_groups key)
unfolding printed_groups spaced_groups
printed_is key = join_is (groups key)
  where
    join_is : (all : List (List ℕ)) → join_with_byte 32 all ≡ drop 1 (flat_map (λ group. 32 ∷ group) all)
    join_is [] = refl
    join_is (x ∷ []) = sym (append-nil x)
    join_is (x ∷ y ∷ more) = ap (λ l. x ++ 32 ∷ l) (join_is (y ∷ more))

-- after whole groups the others have each a space
printed-append : (xs ys : List ℕ) → length xs % 2 ≡ 0 → 0 < length xs → printed_groups (xs ++ ys) ≡ printed_groups xs ++ spaced_groups ys
printed-append xs ys even some =
    let count : 2 * length (spaced_groups xs) ≡ 5 * length xs = length-spaced xs even in
    printed_is (xs ++ ys) ∙ ap (drop 1) (spaced-append xs ys even) ∙ drop-append-le 1 (spaced_groups xs) (spaced_groups ys) (omega arith)
    ∙ ap (λ l. l ++ spaced_groups ys) (sym (printed_is xs))

-- a key was written up to the part that is left
pub record IsWrittenUpTo (key rest : List ℕ) (begin : ℕ) (out now : SinkState) (buffer held : BufferState) : Type 0 where
  pub done : List ℕ
  pub key_is : key ≡ done ++ rest
  pub whole : 0 < length rest → length done % 2 ≡ 0
  pub begins : begin ≡ 1 - length done
  pub written_through : HasWrittenThrough (printed_groups done) buffer held out now

pub written_up_to_start : (key rest : List ℕ) (out : SinkState) (buffer : BufferState) → rest ≡ key → IsWrittenUpTo key rest 1 out out buffer buffer
written_up_to_start key rest out buffer is = record {
  done = [];
  key_is = sym is;
  whole = λ _. refl;
  begins = refl;
  written_through = subst (λ (text : List ℕ). HasWrittenThrough text buffer buffer out out) (sym groups_none) (written_none buffer out);
}

-- the text of a part begins within it
pub text_from : (key rest part left text : List ℕ) (begin size : ℕ) (out now : SinkState) (buffer held : BufferState) → IsWrittenUpTo key rest begin out now buffer held
    → (rest ≡ part ++ left) × (length part ≡ min size (length rest)) × (0 < length rest) → size ≡ 256 → text ≡ spaced_groups part → begin ≤ length text
text_from key rest part left text begin size out now buffer held upto cut is spaced =
    let some = some_spaced part (omega (arith, cut.1, cut.2, is)) in
    omega (arith, upto.begins, some, ap length spaced)

-- the printed groups of a key go on after each of its parts
pub record GoesOn (key done part piece : List ℕ) : Type 0 where
  pub more : List ℕ
  pub grown : printed_groups (done ++ part) ≡ printed_groups done ++ piece
  pub line : printed_groups key ≡ (printed_groups done ++ piece) ++ more

-- of the text of a part, what is written
part_grown : (done part piece : List ℕ) (begin : ℕ) → length done % 2 ≡ 0 → begin ≡ 1 - length done → piece ≡ drop begin (spaced_groups part) → printed_groups (done ++ part) ≡ printed_groups done ++ piece
part_grown [] part piece begin even begins is =
    printed_is part ∙ ap (λ (n : ℕ). drop n (spaced_groups part)) (sym begins) ∙ sym is ∙ ap (λ l. l ++ piece) (sym groups_none)
part_grown (a ∷ more) part piece begin even begins is =
    let none : begin ≡ 0 = omega arith in
    printed-append (a ∷ more) part even (omega arith) ∙ ap (λ l. printed_groups (a ∷ more) ++ l) (sym (is ∙ ap (λ (n : ℕ). drop n (spaced_groups part)) none))

-- the line goes on with what is left of the key
line_goes_on : (key done part left piece : List ℕ) → key ≡ done ++ (part ++ left) → (0 < length left → length (done ++ part) % 2 ≡ 0) → 0 < length (done ++ part)
    → printed_groups (done ++ part) ≡ printed_groups done ++ piece → GoesOn key done part piece
line_goes_on key done part [] piece is even some grown = record {
  more = [];
  grown = grown;
  line = ap printed_groups (is ∙ ap (λ l. done ++ l) (append-nil part)) ∙ grown ∙ sym (append-nil (printed_groups done ++ piece));
}
line_goes_on key done part (a ∷ left) piece is even some grown =
    let text = spaced_groups (a ∷ left) in
    record {
      more = text;
      grown = grown;
      line = ap printed_groups (is ∙ sym (append_assoc done part (a ∷ left)))
          ∙ printed-append (done ++ part) (a ∷ left) (even (omega arith)) some ∙ ap (λ l. l ++ text) grown;
    }

pub goes_on : (key rest part left text : List ℕ) (begin size : ℕ) (out now : SinkState) (buffer held : BufferState) (upto : IsWrittenUpTo key rest begin out now buffer held) → size ≡ 256
    → (rest ≡ part ++ left) × (length part ≡ min size (length rest)) × (0 < length rest) → text ≡ spaced_groups part → GoesOn key upto.done part (take (length text - begin) (drop begin text))
goes_on key rest part left text begin size out now buffer held upto is cut spaced =
    let done = upto.done in
    let even : length done % 2 ≡ 0 = upto.whole cut.2 in
    let both : length rest ≡ length part + length left = ap length cut.0 ∙ length-append part left in
    let ends : length (done ++ part) ≡ length done + length part = length-append done part in
    line_goes_on key done part left (take (length text - begin) (drop begin text)) (upto.key_is ∙ ap (λ l. done ++ l) cut.0)
    (λ some. omega (arith, some, is, cut.1, both, ends, even)) (omega (arith, is, cut.1, cut.2, ends))
    (part_grown done part _ begin even upto.begins (take_rest text begin ∙ ap (drop begin) spaced))

-- there is room for the piece where there is room for all groups
pub piece_fits : (key done part piece : List ℕ) (out now : SinkState) (buffer held : BufferState) → HasWrittenThrough (printed_groups done) buffer held out now → GoesOn key done part piece
    → HasRoom buffer (length (printed_groups key)) → HasRoom held (length piece)
piece_fits key done part piece out now buffer held written_through on room =
    let front = printed_groups done in
    omega (arith, written_through.count, room, ap length on.line, length-append (front ++ piece) on.more, length-append front piece)

-- and after it the rest is left
pub written_up_to_more : (key rest part left : List ℕ) (begin size : ℕ) (out now next : SinkState) (buffer held kept : BufferState) (upto : IsWrittenUpTo key rest begin out now buffer held) → size ≡ 256
    → (rest ≡ part ++ left) × (length part ≡ min size (length rest)) × (0 < length rest) → HasWrittenThrough (printed_groups (upto.done ++ part)) buffer kept out next → IsWrittenUpTo key left 0 out next buffer kept
written_up_to_more key rest part left begin size out now next buffer held kept upto is cut written_through =
    let both : length rest ≡ length part + length left = ap length cut.0 ∙ length-append part left in
    let ends : length (upto.done ++ part) ≡ length upto.done + length part = length-append upto.done part in
    record {
      done = upto.done ++ part;
      key_is = upto.key_is ∙ ap (λ l. upto.done ++ l) cut.0 ∙ sym (append_assoc upto.done part left);
      whole = λ some. let even = upto.whole cut.2 in omega (arith, some, is, cut.1, both, ends, even);
      begins = omega (arith, is, cut.1, cut.2, ends);
      written_through = written_through;
    }

-- a line is not much longer than its key
pub length-groups : (key : List ℕ) → length (printed_groups key) ≤ 3 * length key
unfolding printed_groups
length-groups [] = omega arith
length-groups (a ∷ []) = omega arith
length-groups (a ∷ b ∷ []) = omega arith
length-groups (a ∷ b ∷ c ∷ []) = omega arith
length-groups (a ∷ b ∷ c ∷ d ∷ more) = omega (arith, length-groups (c ∷ d ∷ more))

-- seven bytes for each code point
length-points : (points : List ℕ) → length (flat_map spaced_point points) ≡ 7 * length points
length-points [] = refl
length-points (p ∷ points) = omega (arith, length-points points)

length-level : (depth : Depth) (points : List ℕ) → length (printed_after depth points) ≤ 7 * length points + 5
length-level Weights points = omega arith
length-level Identical points = omega (arith, length-points points)

pub line_is_short : (depth : Depth) (key points : List ℕ) → length key < 2 ^ 41 → length points ≤ 2 ^ 23 → length (print_line_at depth key points) < 2 ^ 43
line_is_short depth key points short few =
    let level = printed_after depth points in
    omega (arith, short, few, length-append (printed_groups key) (level ++ 10 ∷ []), length-append level (10 ∷ []), length-groups key, length-level depth points)

-- all groups of a key were written when nothing is left
pub all_groups : (key rest : List ℕ) (begin : ℕ) (out now : SinkState) (buffer held : BufferState) → IsWrittenUpTo key rest begin out now buffer held → length rest ≡ 0
    → HasWrittenThrough (printed_groups key) buffer held out now
all_groups key [] begin out now buffer held upto none =
    subst (λ (l : List ℕ). HasWrittenThrough (printed_groups l) buffer held out now) (sym (upto.key_is ∙ append-nil upto.done)) upto.written_through
all_groups key (a ∷ rest) begin out now buffer held upto none = absurd (omega arith)

-- ---- The parts of a line

abbrev pub line_parts : Depth → List ℕ → List ℕ → List (List ℕ)
line_parts depth key points = printed_groups key ∷ printed_after depth points ∷ (10 ∷ []) ∷ []

pub line_is : (depth : Depth) (key points : List ℕ) → print_line_at depth key points ≡ flat_map part (line_parts depth key points)
line_is depth key points = refl

abbrev pub level_parts : List ℕ → List (List ℕ)
level_parts points = (32 ∷ 48 ∷ 48 ∷ 48 ∷ 48 ∷ []) ∷ flat_map spaced_point points ∷ []

pub level_is : (points : List ℕ) → identical_level points ≡ flat_map part (level_parts points)
level_is points = ap (λ l. 32 ∷ 48 ∷ 48 ∷ 48 ∷ 48 ∷ l) (sym (append-nil (flat_map spaced_point points)))

-- ---- A key before a line

-- two digits for each byte
length-digits : (key : List ℕ) → length (flat_map byte_digits key) ≡ 2 * length key
length-digits [] = refl
length-digits (b ∷ key) = omega (arith, length-digits key)

-- one more byte has its digits
pub digits_of_one_more : (digits : List (List ℕ)) (part pair : List ℕ) (n : ℕ) → n < length part → n < length digits
    → flat_map (λ d. d) (take n digits) ≡ flat_map byte_digits (take n part) → pair ≡ byte_digits (get_or part n 0)
    → flat_map (λ d. d) (take (n + 1) (set digits n pair)) ≡ flat_map byte_digits (take (n + 1) part)
digits_of_one_more digits part pair n below within written is =
    let text = flat_map byte_digits (take n part) in
    let b = get_or part n 0 in
    written_more digits n pair text within written ∙ ap (λ p. text ++ p) is
    ∙ sym (ap (flat_map byte_digits) (take_more part n 0 below) ∙ flat_map-append byte_digits (take n part) (b ∷ []) ∙ ap (λ l. text ++ l) (append-nil (byte_digits b)))

-- all bytes have them
pub digits_of_all : (digits : List (List ℕ)) (part : List ℕ) (n len : ℕ) → n ≡ length part → len ≡ 2 * length part
    → flat_map (λ d. d) (take n digits) ≡ flat_map byte_digits (take n part) → take len (flat_map (λ d. d) digits) ≡ flat_map byte_digits part
digits_of_all digits part n len all twice written =
    let text = flat_map byte_digits part in
    written_front digits n len text [] (written ∙ ap (flat_map byte_digits) (take_all n part (omega (arith, all))) ∙ sym (append-nil text))
    (length-digits part ∙ sym twice)

-- the digits of a key were written, but for the part that is left
pub record HasDigitsUpTo (key rest : List ℕ) (out now : SinkState) (buffer held : BufferState) : Type 0 where
  pub done : List ℕ
  pub key_is : key ≡ done ++ rest
  pub written_through : HasWrittenThrough (flat_map byte_digits done) buffer held out now

pub digits_start : (key rest : List ℕ) (out : SinkState) (buffer : BufferState) → rest ≡ key → HasDigitsUpTo key rest out out buffer buffer
digits_start key rest out buffer is = record { done = []; key_is = sym is; written_through = written_none buffer out }

-- a part and what is left after it go on with the digits
pub digits_go_on : (key rest part left : List ℕ) (out now : SinkState) (buffer held : BufferState) (upto : HasDigitsUpTo key rest out now buffer held) → rest ≡ part ++ left
    → flat_map byte_digits key ≡ (flat_map byte_digits upto.done ++ flat_map byte_digits part) ++ flat_map byte_digits left
digits_go_on key rest part left out now buffer held upto cut =
    let front = flat_map byte_digits upto.done in
    ap (flat_map byte_digits) (upto.key_is ∙ ap (λ l. upto.done ++ l) cut) ∙ flat_map-append byte_digits upto.done (part ++ left)
    ∙ ap (λ l. front ++ l) (flat_map-append byte_digits part left)
    ∙ sym (append_assoc front (flat_map byte_digits part) (flat_map byte_digits left))

pub digits_fit : (key rest part left : List ℕ) (out now : SinkState) (buffer held : BufferState) → HasDigitsUpTo key rest out now buffer held → rest ≡ part ++ left
    → HasRoom buffer (length (flat_map byte_digits key)) → HasRoom held (length (flat_map byte_digits part))
digits_fit key rest part left out now buffer held upto cut room =
    let front = flat_map byte_digits upto.done in
    let piece = flat_map byte_digits part in
    omega (
      arith,
      upto.written_through.count,
      room,
      ap length (digits_go_on key rest part left out now buffer held upto cut),
      length-append (front ++ piece) (flat_map byte_digits left),
      length-append front piece,
    )

pub digits_more : (key rest part left : List ℕ) (out now next : SinkState) (buffer held kept : BufferState) (upto : HasDigitsUpTo key rest out now buffer held) → rest ≡ part ++ left
    → HasWrittenThrough (flat_map byte_digits part) held kept now next → HasDigitsUpTo key left out next buffer kept
digits_more key rest part left out now next buffer held kept upto cut written = record {
  done = upto.done ++ part;
  key_is = upto.key_is ∙ ap (λ l. upto.done ++ l) cut ∙ sym (append_assoc upto.done part left);
  written_through = subst (λ (text : List ℕ). HasWrittenThrough text buffer kept out next) (sym (flat_map-append byte_digits upto.done part))
      (written_then upto.written_through written);
}

pub all_digits : (key rest : List ℕ) (out now : SinkState) (buffer held : BufferState) → HasDigitsUpTo key rest out now buffer held → length rest ≡ 0
    → HasWrittenThrough (flat_map byte_digits key) buffer held out now
all_digits key [] out now buffer held upto none =
    subst (λ (l : List ℕ). HasWrittenThrough (flat_map byte_digits l) buffer held out now) (sym (upto.key_is ∙ append-nil upto.done)) upto.written_through
all_digits key (a ∷ rest) out now buffer held upto none = absurd (omega arith)

-- the parts of a line with the digits alone
abbrev pub digits_parts : List ℕ → List (List ℕ)
digits_parts key = flat_map byte_digits key ∷ (10 ∷ []) ∷ []

pub digits_is : (key : List ℕ) → digits_line_of key ≡ flat_map part (digits_parts key)
digits_is key = refl

pub digits_are_short : (key : List ℕ) → length key < 2 ^ 41 → length (digits_line_of key) < 2 ^ 43
digits_are_short key short = omega (arith, short, length-digits key, length-append (flat_map byte_digits key) (10 ∷ []))

-- the parts of a key before a line
abbrev pub keyed_parts : List ℕ → List ℕ → List (List ℕ)
keyed_parts key line = flat_map byte_digits key ∷ (9 ∷ []) ∷ ended line ∷ []

pub keyed_is : (key line : List ℕ) → keyed_line_of key line ≡ flat_map part (keyed_parts key line)
keyed_is key line = ap (λ l. flat_map byte_digits key ++ 9 ∷ l) (sym (append-nil (ended line)))

pub keyed_is_short : (key line : List ℕ) → length key < 2 ^ 41 → length line ≤ 4194304 → length (keyed_line_of key line) < 2 ^ 43
keyed_is_short key line short few =
    omega (arith, short, few, length-digits key, length-append (flat_map byte_digits key) (9 ∷ ended line), length-append line (10 ∷ []))
