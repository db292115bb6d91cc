-- How a reader cuts bytes at their first LF: the line, what is left after it, and what waits for more bytes.
use Rattle.std.proofs.Common.{◌≡◌, ◌↔◌, ℕ, suc, Bool, not, ◌+◌, ◌-◌, ◌<◌, ◌≤◌, true, false, List, [], ◌∷◌, ◌++◌, Option, None, Some, Result, Err, append-nil, refl, length, take, drop, get_or, cond, sym, ap, subst, ◌∙◌, arith, le_refl, length-take, length-drop, length-append, append_assoc, MatchOption}
use Rattle.std.specs.Int.{from_bool}
use Rattle.std.specs.List.{before_first, after_first, position_or_len, slice_range}
use Rattle.std.proofs.lemmas.Bool.{false_from_ne_true, eqb-true, not-true, cond_both, iff_false}
use Rattle.std.proofs.lemmas.List.{drop-take, drop-drop, length-take-le, take_all, drop_all}
use Rattle.std.proofs.lemmas.List.Sums.{position_or_len_is, prefix_len-le-length, split_at_first, passes_at_first}
use Rattle.std.specs.Io.KnownBytes.{Consumes, IsAtEnd, prepend_known}
use Rattle.memchr.specs.Find.{IsFirstByte, is_byte}
use Rattle.uca_lines.specs.Lines.{is_lf, Lacks, ended}
use Rattle.uca_lines.specs.NextLine.{BeginsLonger, HasBytes, SaysOfBytes, is_read}
use Rattle.uca_lines.specs.inside.Taking.{IsTakeFault}
use Rattle.uca_lines.specs.declared.lines.NextLine.{NextLine}
use Rattle.uca_lines.specs.declared.lines.LineFault.{LineFault}
use Rattle.uca_lines.specs.declared.lines.LineFault.TheVariants.{TooLong, Limit, Read, Memory}

-- the position that a search for LF gives, or that there is none
pub line_end-memchr : (text : List ℕ) (r : Option ℕ) → IsFirstByte (is_byte 10) text r
    → MatchOption r (position_or_len is_lf text ≡ length text) (λ at. (position_or_len is_lf text ≡ at) × (at < length text))
line_end-memchr text None h = position_or_len_is is_lf text (length text) 0 (le_refl (length text))
    (λ k lt. false_from_ne_true _ (h k (omega arith) lt)) (λ lt. absurd (omega arith))
line_end-memchr text (Some k) h =
    let within = h.0.high in
    (position_or_len_is is_lf text k 0 (omega arith) (λ j lt. false_from_ne_true _ (h.0.before j (omega arith) lt)) (λ _. h.1), within)

pub length-before_lf : (text : List ℕ) → length (before_first is_lf text) ≡ position_or_len is_lf text
length-before_lf text = length-take-le (position_or_len is_lf text) text (prefix_len-le-length _ text)

-- what of a range is left after its first LF
slice_range-after_lf : (chunk : List ℕ) (start end : ℕ) (piece : List ℕ)
    → piece ≡ before_first is_lf (slice_range chunk start end) → position_or_len is_lf (slice_range chunk start end) < length (slice_range chunk start end)
    → slice_range chunk (start + length piece + 1) end ≡ after_first is_lf (slice_range chunk start end)
slice_range-after_lf chunk start end piece is_piece there =
    let n = position_or_len is_lf (slice_range chunk start end) in
    let len : length piece ≡ n = ap length is_piece ∙ length-before_lf (slice_range chunk start end) in
    let within : n < end - start = omega (arith, length-take (end - start) (drop start chunk)) in
    let place : start + length piece + 1 ≡ start + (n + 1) = omega arith in
    let parts : (n + 1) + (end - (start + (n + 1))) ≡ end - start = omega arith in
    ap (λ k. slice_range chunk k end) place
    ∙ ap (take (end - (start + (n + 1)))) (sym (drop-drop (n + 1) start chunk))
    ∙ sym (drop-take (n + 1) (end - (start + (n + 1))) (drop start chunk))
    ∙ ap (λ k. drop (n + 1) (take k (drop start chunk))) parts

-- what of a range is left after its first LF, or nothing where none is there
pub slice_range-after_piece : (chunk : List ℕ) (start end next : ℕ) (piece : List ℕ) (is_ended : Bool) → piece ≡ before_first is_lf (slice_range chunk start end)
    → (is_ended ≡ true) ↔ (position_or_len is_lf (slice_range chunk start end) < length (slice_range chunk start end)) → end ≤ length chunk
    → (is_ended ≡ true → next ≡ start + length piece + 1) → (is_ended ≡ false → next ≡ start + length piece)
    → slice_range chunk next end ≡ after_first is_lf (slice_range chunk start end)
slice_range-after_piece chunk start end next piece true is_piece found within one none =
    ap (λ k. slice_range chunk k end) (one refl) ∙ slice_range-after_lf chunk start end piece is_piece (found.0 refl)
slice_range-after_piece chunk start end next piece false is_piece found within one none =
    let all = slice_range chunk start end in
    let is : next ≡ start + length piece = none refl in
    let all_before : length all ≤ position_or_len is_lf all = omega (arith, iff_false found refl) in
    let len : length piece ≡ position_or_len is_lf all = ap length is_piece ∙ length-before_lf all in
    let count : length all ≡ end - start = omega (arith, length-take (end - start) (drop start chunk), length-drop start chunk) in
    ap (λ k. take k (drop next chunk)) (let past : end - next ≡ 0 = omega arith in past)
    ∙ sym (drop_all (position_or_len is_lf all + 1) all (omega arith))

-- the first line of a range, with its LF where one is there, ends within the range
pub piece_within : (chunk : List ℕ) (start end more : ℕ) (piece : List ℕ) (is_ended : Bool) → piece ≡ before_first is_lf (slice_range chunk start end)
    → (is_ended ≡ true) ↔ (position_or_len is_lf (slice_range chunk start end) < length (slice_range chunk start end)) → start ≤ end
    → more ≡ from_bool is_ended → start + (length piece + more) ≤ end
piece_within chunk start end more piece true is_piece found ordered one =
    let len : length piece ≡ position_or_len is_lf (slice_range chunk start end) = ap length is_piece ∙ length-before_lf (slice_range chunk start end) in
    omega (arith, found.0 refl, length-take (end - start) (drop start chunk))
piece_within chunk start end more piece false is_piece found ordered none =
    let len : length piece ≡ position_or_len is_lf (slice_range chunk start end) = ap length is_piece ∙ length-before_lf (slice_range chunk start end) in
    omega (arith, prefix_len-le-length (λ b. not (is_lf b)) (slice_range chunk start end), length-take (end - start) (drop start chunk))

-- a range that has a place has a byte
pub range_some : (chunk : List ℕ) (start end : ℕ) → start < end → end ≤ length chunk → 0 < length (slice_range chunk start end)
range_some chunk start end some within = omega (arith, length-take (end - start) (drop start chunk), length-drop start chunk)

-- one that has none is empty
pub range_none : (chunk : List ℕ) (start end : ℕ) → end ≤ start → slice_range chunk start end ≡ []
range_none chunk start end none = ap (λ k. take k (drop start chunk)) (let past : end - start ≡ 0 = omega arith in past)

-- a text with an LF is its first line, ended, and what comes after
pub cut_at_lf : (text : List ℕ) → position_or_len is_lf text < length text → text ≡ ended (before_first is_lf text) ++ after_first is_lf text
cut_at_lf text there =
    let lf : get_or text (position_or_len is_lf text) 0 ≡ 10 = eqb-true _ _ (passes_at_first is_lf text 0 there) in
    split_at_first is_lf text 0 there
    ∙ ap (λ b. before_first is_lf text ++ b ∷ after_first is_lf text) lf
    ∙ sym (append_assoc (before_first is_lf text) (10 ∷ []) (after_first is_lf text))

-- a text without one is all its line
pub before_lf-all : (text : List ℕ) → length text ≤ position_or_len is_lf text → before_first is_lf text ≡ text
before_lf-all text none = take_all (position_or_len is_lf text) text none

pub after_lf-none : (text : List ℕ) → length text ≤ position_or_len is_lf text → after_first is_lf text ≡ []
after_lf-none text none = drop_all (position_or_len is_lf text + 1) text (omega arith)

pub Lacks-append : (p : ℕ → Bool) (xs ys : List ℕ) → Lacks p xs → Lacks p ys → Lacks p (xs ++ ys)
Lacks-append p [] ys a b = b
Lacks-append p (x ∷ xs) ys a b = (a.0, Lacks-append p xs ys a.1 b)

-- the first line of a text has no LF
pub Lacks-before_first : (p : ℕ → Bool) (text : List ℕ) → Lacks p (before_first p text)
Lacks-before_first p [] = tt
Lacks-before_first p (x ∷ xs) =
    let n = position_or_len p xs in
    let step : suc n ≡ 1 + n = omega arith in
    cond_both (not (p x)) (1 + n) 0 (λ k. Lacks p (take k (x ∷ xs)))
    (λ passes. subst (λ k. Lacks p (take k (x ∷ xs))) step (not-true (p x) passes, Lacks-before_first p xs))
    (λ _. tt)

cond_le : (b : Bool) (m n : ℕ) → m ≤ n → cond b (1 + m) 0 ≤ cond b (1 + n) 0
cond_le true m n le = omega arith
cond_le false m n le = omega arith

-- the first line of a longer text is no shorter
position_or_len-append_le : (p : ℕ → Bool) (xs ys : List ℕ) → position_or_len p xs ≤ position_or_len p (xs ++ ys)
position_or_len-append_le p [] ys = omega arith
position_or_len-append_le p (x ∷ xs) ys = cond_le (not (p x)) _ _ (position_or_len-append_le p xs ys)

position_or_len-lacks : (p : ℕ → Bool) (xs ys : List ℕ) → Lacks p xs → position_or_len p (xs ++ ys) ≡ length xs + position_or_len p ys
position_or_len-lacks p [] ys lacks = omega arith
position_or_len-lacks p (x ∷ xs) ys lacks = rw lacks.0 (omega (arith, position_or_len-lacks p xs ys lacks.1))

-- known bytes lose the front of what waits
Consumes-front : (known rest : Option (List ℕ)) (line waiting front later : List ℕ) → Consumes known (prepend_known waiting rest) line
    → waiting ≡ front ++ later → Consumes known (prepend_known later rest) (line ++ front)
Consumes-front None rest line waiting front later h e = tt
Consumes-front (Some xs) None line waiting front later h e = absurd h
Consumes-front (Some xs) (Some r) line waiting front later h e =
    h ∙ ap (λ w. line ++ (w ++ r)) e ∙ ap (λ l. line ++ l) (append_assoc front later r) ∙ sym (append_assoc line front (later ++ r))

-- the first line has what was read of it, and what waits of it
BeginsLonger-part : (known rest : Option (List ℕ)) (line waiting : List ℕ) (n : ℕ) → Consumes known (prepend_known waiting rest) line
    → Lacks is_lf line → n < length (line ++ before_first is_lf waiting) → BeginsLonger known n
BeginsLonger-part None rest line waiting n h lacks long = tt
BeginsLonger-part (Some xs) None line waiting n h lacks long = absurd h
BeginsLonger-part (Some xs) (Some r) line waiting n h lacks long =
    omega (
      arith,
      ap (position_or_len is_lf) h,
      position_or_len-lacks is_lf line (waiting ++ r) lacks,
      position_or_len-append_le is_lf waiting r,
      length-append line (before_first is_lf waiting),
      length-before_lf waiting,
    )

-- ---- a line that is read on

-- what waited of the line is no more than the line
pub Lacks_more : (line waiting new : List ℕ) → Lacks is_lf line → new ≡ line ++ before_first is_lf waiting → Lacks is_lf new
Lacks_more line waiting new lacks e = subst (Lacks is_lf) (sym e) (Lacks-append is_lf line (before_first is_lf waiting) lacks
    (Lacks-before_first is_lf waiting))

-- it was ended
pub Consumes-ended : (known rest : Option (List ℕ)) (line waiting new later : List ℕ) → Consumes known (prepend_known waiting rest) line
    → position_or_len is_lf waiting < length waiting → new ≡ line ++ before_first is_lf waiting → later ≡ after_first is_lf waiting
    → Consumes known (prepend_known later rest) (ended new)
Consumes-ended known rest line waiting new later h there is_new is_later =
    let cut : waiting ≡ ended (before_first is_lf waiting) ++ later =
    cut_at_lf waiting there ∙ ap (λ l. ended (before_first is_lf waiting) ++ l) (sym is_later) in
    let whole : line ++ ended (before_first is_lf waiting) ≡ ended new =
    sym (append_assoc line (before_first is_lf waiting) (10 ∷ [])) ∙ ap ended (sym is_new) in
    subst (Consumes known (prepend_known later rest)) whole (Consumes-front known rest line waiting (ended (before_first is_lf waiting)) later h cut)

-- it was not
pub Consumes-part : (known rest : Option (List ℕ)) (line waiting new later : List ℕ) → Consumes known (prepend_known waiting rest) line
    → length waiting ≤ position_or_len is_lf waiting → new ≡ line ++ before_first is_lf waiting → later ≡ after_first is_lf waiting
    → Consumes known (prepend_known later rest) new
Consumes-part known rest line waiting new later h none is_new is_later =
    let cut : waiting ≡ waiting ++ later = sym (ap (λ l. waiting ++ l) (is_later ∙ after_lf-none waiting none) ∙ append-nil waiting) in
    let whole : line ++ waiting ≡ new = ap (λ l. line ++ l) (sym (before_lf-all waiting none)) ∙ sym is_new in
    subst (Consumes known (prepend_known later rest)) whole (Consumes-front known rest line waiting waiting later h cut)

-- what waits was in no line
pub none_left : (rest : Option (List ℕ)) (waiting : List ℕ) → waiting ≡ [] → IsAtEnd rest → IsAtEnd (prepend_known waiting rest)
none_left None waiting empty end = tt
none_left (Some xs) waiting empty end = rw (empty, end) refl

-- all that waited was taken
length-taken : (line waiting new : List ℕ) → length waiting ≤ position_or_len is_lf waiting → new ≡ line ++ before_first is_lf waiting
    → length new ≡ length line + length waiting
length-taken line waiting new none is_new = ap length (is_new ∙ ap (λ l. line ++ l) (before_lf-all waiting none)) ∙ length-append line waiting

-- so the line has a byte
pub taken_some : (line waiting new : List ℕ) → length waiting ≤ position_or_len is_lf waiting → new ≡ line ++ before_first is_lf waiting
    → 0 < length waiting → 0 < length new
taken_some line waiting new none is_new some = omega (arith, length-taken line waiting new none is_new)

-- and room for fewer than before
pub taken_nearer : (line waiting new : List ℕ) (n m : ℕ) → length waiting ≤ position_or_len is_lf waiting → new ≡ line ++ before_first is_lf waiting
    → 0 < length waiting → length new ≤ n → m ≡ n → m - length new < n - length line
taken_nearer line waiting new n m none is_new some fits is = omega (arith, length-taken line waiting new none is_new)

-- bytes that wait are left
pub HasBytes-waiting : (known rest : Option (List ℕ)) (line waiting : List ℕ) → Consumes known (prepend_known waiting rest) line → 0 < length waiting
    → HasBytes known
HasBytes-waiting None rest line waiting h some = tt
HasBytes-waiting (Some xs) None line waiting h some = absurd h
HasBytes-waiting (Some xs) (Some ys) line waiting h some =
    let all : length xs ≡ length line + length (waiting ++ ys) = ap length h ∙ length-append line (waiting ++ ys) in
    omega (arith, all, length-append waiting ys, some)

-- it was not taken
pub SaysOfBytes-fault : (known rest : Option (List ℕ)) (line waiting new later : List ℕ) (capacity n longest : ℕ) (fault : LineFault)
    → Consumes known (prepend_known waiting rest) line → 0 < length waiting → Lacks is_lf line → new ≡ line → later ≡ waiting → n ≡ longest
    → IsTakeFault fault capacity n (length (line ++ before_first is_lf waiting))
    → SaysOfBytes known (prepend_known later rest) new longest (Err fault)
SaysOfBytes-fault known rest line waiting new later capacity n longest TooLong h some lacks is_new is_later is_longest cause =
    (rw (is_new, is_later) h, BeginsLonger-part known rest line waiting longest h lacks (omega arith))
SaysOfBytes-fault known rest line waiting new later capacity n longest Limit h some lacks is_new is_later is_longest cause = absurd cause
SaysOfBytes-fault known rest line waiting new later capacity n longest Read h some lacks is_new is_later is_longest cause = absurd cause
SaysOfBytes-fault known rest line waiting new later capacity n longest Memory h some lacks is_new is_later is_longest cause =
    (rw (is_new, is_later) h, HasBytes-waiting known rest line waiting h some)

-- A piece that is not taken because memory ran out fits the line, which has less room.
pub take_fault-memory : (fault : LineFault) (capacity n len : ℕ) → IsTakeFault fault capacity n len → ◌≡◌ {A = Result NextLine LineFault} (Err fault) (Err Memory) → capacity < n
take_fault-memory TooLong capacity n len h e = cc
take_fault-memory Limit capacity n len h e = absurd h
take_fault-memory Read capacity n len h e = absurd h
take_fault-memory Memory capacity n len h e = omega (arith, h.0, h.1)

-- The limit on lines is no reason not to take a piece.
pub take_fault-not_limit : (fault : LineFault) (capacity n len : ℕ) → IsTakeFault fault capacity n len → ◌≡◌ {A = Result NextLine LineFault} (Err fault) (Err Limit) → ⊥
take_fault-not_limit TooLong capacity n len h e = cc
take_fault-not_limit Limit capacity n len h e = h
take_fault-not_limit Read capacity n len h e = h
take_fault-not_limit Memory capacity n len h e = cc

-- Nor is a failed read.
pub take_fault-not_read : (fault : LineFault) (capacity n len : ℕ) → IsTakeFault fault capacity n len → is_read (Err fault) ≡ false
take_fault-not_read TooLong capacity n len h = refl
take_fault-not_read Limit capacity n len h = absurd h
take_fault-not_read Read capacity n len h = absurd h
take_fault-not_read Memory capacity n len h = refl

-- an error of a reader that failed
pub is_failed_read : (fault : LineFault) → ◌≡◌ {A = Result Bool LineFault} (Err fault) (Err Read) → fault ≡ Read
is_failed_read fault e = cc

-- it is not that memory ran out
pub failed_read-not_memory : (fault : LineFault) → fault ≡ Read → ◌≡◌ {A = Result NextLine LineFault} (Err fault) (Err Memory) → ⊥
failed_read-not_memory fault is e = cc

-- nor the limit
pub failed_read-not_limit : (fault : LineFault) → fault ≡ Read → ◌≡◌ {A = Result NextLine LineFault} (Err fault) (Err Limit) → ⊥
failed_read-not_limit fault is e = cc

-- ---- an empty line

-- it fits
pub empty_fits : (line : List ℕ) (n : ℕ) → line ≡ [] → length line ≤ n
empty_fits line n empty = omega (arith, ap length empty)

-- it has no LF
pub empty_lacks : (line : List ℕ) → line ≡ [] → Lacks is_lf line
empty_lacks line empty = rw empty tt
