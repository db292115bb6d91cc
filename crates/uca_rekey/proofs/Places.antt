-- The parts of a buffer: the line at its front, what waits after it, and where more bytes are put.
use Rattle.std.proofs.Common.{◌≡◌, ℕ, zero, suc, ltb, ◌+◌, ◌-◌, ◌^◌, ◌<◌, ◌≤◌, List, [], ◌∷◌, ◌++◌, length, take, drop, get_or, Option, Some, None, Ok, Err, refl, ap, sym, subst, ◌∙◌, append_assoc, append-nil, length-append, arith, take-append-drop}
use Rattle.std.specs.Bool.{MatchBool}
use Rattle.std.specs.Io.KnownBytes.{Consumes, IsAtEnd, Keeps, prepend_known}
use lib.Seq.{take-append_seam}
use Rattle.std.specs.List.{before_first, position_or_len, slice_range}
use Rattle.std.proofs.lemmas.Bool.{eqb-true, lt-ltb}
use borrow.Rule.Slice.PartMut.{put_mid, post_of}
use Rattle.std.proofs.KnownBytes.{Keeps-trans}
use Rattle.std.proofs.lemmas.List.{drop-drop, drop-take, drop_at, get_or-drop, take-take, take-append-le, length-drop, length-take-le}
use Rattle.std.proofs.lemmas.Slice.{take-put_mid_below}
use Rattle.memchr.specs.Find.{IsFirstByte, is_byte}
use Rattle.uca_weights.proofs.Lists.{split_at}
use Rattle.uca_lines.specs.Lines.{is_lf, Lacks, ended}
use Rattle.uca_lines.proofs.LineLemmas.{line_end-memchr, before_lf-all, Lacks-append, Lacks-before_first}
use Rattle.uca_lines.specs.NextLine.{BeginsLonger, HasBytes}
use Rattle.uca_lines.specs.declared.lines.NextLine.{NextLine}
use Rattle.uca_lines.specs.declared.lines.NextLine.TheVariants.{Terminated, Unterminated, EndOfInput}
use Rattle.uca_run_parts.specs.declared.faults.StoredKeyKind.{StoredKeyKind}
use Rattle.uca_run_parts.specs.declared.faults.StoredKeyKind.TheVariants as kinds
use Rattle.uca_rekey.specs.inside.LinesInPlace.{BeginsLine, FindsLine, IsFillFault, IsLast}

-- ---- Parts of lists

-- the first members of a list, part by part
take_sum : (m n : ℕ) (xs : List ℕ) → take (m + n) xs ≡ take m xs ++ take n (drop m xs)
take_sum m n xs = sym (take-append-drop m (take (m + n) xs)) ∙ rw (take-take m (m + n) xs (omega arith), drop-take m n xs) refl

-- what is left of a range
pub rest_of_range : (xs : List ℕ) (start n end : ℕ) → start + n ≤ end → slice_range xs (start + n) end ≡ drop n (slice_range xs start end)
rest_of_range xs start n end within =
    let parts : n + (end - (start + n)) ≡ end - start = omega arith in
    ap (take (end - (start + n))) (sym (drop-drop n start xs)) ∙ sym (drop-take n (end - (start + n)) (drop start xs)) ∙ ap (λ k. drop n (take k (drop start xs))) parts

-- what a part begins with that is written after some members
pub range_filled : (xs ys : List ℕ) (e n : ℕ) → e ≤ length xs → n ≤ length ys
    → slice_range (put_mid e (length xs - e) xs ys) 0 (e + n) ≡ take e xs ++ take n ys
range_filled xs ys e n within few =
    let all = put_mid e (length xs - e) xs ys in
    let post = post_of e (length xs - e) xs in
    let whole : e + n - 0 ≡ e + n = omega arith in
    ap (λ m. take m all) whole ∙ take_sum e n all
    ∙ ap (λ l. l ++ take n (drop e all)) (take-put_mid_below e (length xs - e) xs ys e (omega arith) within)
    ∙ ap (λ l. take e xs ++ take n l) (drop_at (take e xs) (ys ++ post) e (length-take-le e xs within))
    ∙ ap (λ l. take e xs ++ l) (take-append-le n ys post few)

-- members before a part that is written stay
pub range_kept : (xs ys : List ℕ) (e : ℕ) → e ≤ length xs → slice_range (put_mid e (length xs - e) xs ys) 0 e ≡ take e xs
range_kept xs ys e within =
    let all = put_mid e (length xs - e) xs ys in
    let whole : e - 0 ≡ e = omega arith in
    ap (λ m. take m all) whole ∙ take-put_mid_below e (length xs - e) xs ys e (omega arith) within

-- what a list begins with
pub front_range : (xs : List ℕ) (e : ℕ) → slice_range xs 0 e ≡ take e xs
front_range xs e =
    let whole : e - 0 ≡ e = omega arith in
    ap (λ m. take m xs) whole

-- ---- The first line

module _ (bytes rest : List ℕ) (seen : ℕ) (is : rest ≡ drop seen bytes) (lacks : Lacks is_lf (take seen bytes)) where
  -- an LF was found after bytes without one
  pub line_found : (at : ℕ) → seen ≤ length bytes → IsFirstByte (is_byte 10) rest (Some at) → BeginsLine bytes (seen + at)
  line_found at within found =
      let place = line_end-memchr rest (Some at) found in
      let inside : seen + at < length bytes = omega (arith, place.1, ap length is, length-drop seen bytes) in
      let lf : get_or bytes (seen + at) 0 ≡ 10 =
      sym (ap (λ l. get_or l at 0) is ∙ get_or-drop seen bytes at 0) ∙ eqb-true _ _ found.1 in
      let line : take (seen + at) bytes ≡ take seen bytes ++ before_first is_lf rest =
      take_sum seen at bytes ∙ ap (λ l. take seen bytes ++ take at l) (sym is) ∙ ap (λ n. take seen bytes ++ take n rest) (sym place.0) in
      record {
        parts = split_at bytes (seen + at) 0 inside ∙ ap (λ b. take (seen + at) bytes ++ b ∷ drop (seen + at + 1) bytes) lf
            ∙ sym (append_assoc (take (seen + at) bytes) (10 ∷ []) (drop (seen + at + 1) bytes));
        lacks = subst (Lacks is_lf) (sym line) (Lacks-append is_lf (take seen bytes) (before_first is_lf rest) lacks (Lacks-before_first is_lf rest));
        within = inside;
      }

  -- none was
  pub none_found : IsFirstByte (is_byte 10) rest None → Lacks is_lf bytes
  none_found found =
      let none = line_end-memchr rest None found in
      let whole : before_first is_lf rest ≡ drop seen bytes = before_lf-all rest (omega (arith, none)) ∙ is in
      subst (Lacks is_lf) (take-append-drop seen bytes)
      (Lacks-append is_lf (take seen bytes) (drop seen bytes) lacks (subst (Lacks is_lf) whole (Lacks-before_first is_lf rest)))

-- ---- More bytes

-- bytes that were read wait after the others
pub filled : (old new : Option (List ℕ)) (pending later part : List ℕ) → Consumes old new part → later ≡ pending ++ part
    → Keeps (prepend_known pending old) (prepend_known later new)
filled None new pending later part takes is = tt
filled (Some x) None pending later part takes is = absurd takes
filled (Some x) (Some y) pending later part takes is =
    ap (λ l. l ++ y) is ∙ append_assoc pending part y ∙ ap (λ l. pending ++ l) (sym takes)

-- the others wait first
pub begins_so : (pending part later : List ℕ) → later ≡ pending ++ part → take (length pending) later ≡ pending
begins_so pending part later is = ap (take (length pending)) is ∙ take-append_seam pending part

-- there are more bytes, or the source is at its end
pub some_more : (n : ℕ) (pending part later : List ℕ) (rest : Option (List ℕ)) → later ≡ pending ++ part → length part ≡ n → (n ≡ 0 → IsAtEnd rest)
    → MatchBool (ltb 0 n) (length pending < length later) ((later ≡ pending) × IsAtEnd rest)
some_more zero pending [] later rest is many end = (is ∙ append-nil pending, end refl)
some_more zero pending (b ∷ part) later rest is many end = absurd (omega (arith, many))
some_more (suc n) pending part later rest is many end = rw (lt-ltb 0 (suc n) (omega arith)) (omega (arith, ap length is, length-append pending part, many))

-- no byte was read, and the bytes that wait are those that waited
pub nothing_filled : (old new : Option (List ℕ)) (pending later : List ℕ) → Keeps old new → later ≡ pending
    → Keeps (prepend_known pending old) (prepend_known later new)
nothing_filled None new pending later keeps is = tt
nothing_filled (Some x) None pending later keeps is = absurd keeps
nothing_filled (Some x) (Some y) pending later keeps is = ap (λ l. l ++ y) is ∙ ap (λ l. pending ++ l) keeps

-- ---- What was found

longer : (line more : List ℕ) → Lacks is_lf line → length line ≤ position_or_len is_lf (line ++ more)
longer [] more lacks = omega arith
longer (b ∷ line) more lacks = rw lacks.0 (omega (arith, longer line more lacks.1))

module _ (old : Option (List ℕ)) (pending : List ℕ) (rest : Option (List ℕ)) (kept : Keeps old (prepend_known pending rest)) where
  -- the bytes begin with a long line
  pub long_line : (front more : List ℕ) → pending ≡ front ++ more → Lacks is_lf front → 2 ^ 30 < length front → BeginsLonger old (2 ^ 30)
  long_line front more is lacks long = go old rest kept
    where
      go : (known left : Option (List ℕ)) → Keeps known (prepend_known pending left) → BeginsLonger known (2 ^ 30)
      go None left same = tt
      go (Some xs) None same = absurd same
      go (Some xs) (Some ys) same =
          let whole : front ++ (more ++ ys) ≡ xs = sym (append_assoc front more ys) ∙ ap (λ l. l ++ ys) (sym is) ∙ same in
          omega (arith, longer front (more ++ ys) lacks, ap (position_or_len is_lf) whole)

  -- a line and its LF were taken
  pub line_taken : (len : ℕ) (line left : List ℕ) → BeginsLine pending len → line ≡ take len pending → left ≡ drop (len + 1) pending
      → Consumes old (prepend_known left rest) (ended line) × Lacks is_lf line
  line_taken len line left first line_is left_is = (go old rest kept, subst (Lacks is_lf) (sym line_is) first.lacks)
    where
      go : (known after : Option (List ℕ)) → Keeps known (prepend_known pending after) → Consumes known (prepend_known left after) (ended line)
      go None after same = tt
      go (Some xs) None same = absurd same
      go (Some xs) (Some ys) same =
          sym same ∙ ap (λ l. l ++ ys) first.parts ∙ append_assoc (ended (take len pending)) (drop (len + 1) pending) ys
          ∙ ap (λ l. ended l ++ (drop (len + 1) pending ++ ys)) (sym line_is) ∙ ap (λ l. ended line ++ (l ++ ys)) (sym left_is)

  module _ (unread : Option (List ℕ)) (later : List ℕ) (same : Keeps (prepend_known pending rest) (prepend_known later unread)) (is : later ≡ pending)
      (lacks : Lacks is_lf pending) where
    all_kept : Keeps old (prepend_known later unread)
    all_kept = Keeps-trans old (prepend_known pending rest) (prepend_known later unread) kept same

    -- no more was read after some bytes without LF
    pub not_filled : (line : List ℕ) (kind : StoredKeyKind) → IsFillFault pending kind → FindsLine old (prepend_known later unread) unread line (Err kind)
    not_filled line kinds.NoKey fault = absurd fault
    not_filled line kinds.NoImage fault = absurd fault
    not_filled line kinds.OtherKey fault = absurd fault
    not_filled line kinds.NoCompactKey fault = absurd fault
    not_filled line kinds.Header fault = absurd fault
    not_filled line kinds.TooLong fault = absurd fault
    not_filled line kinds.Read fault = (pending, go old unread all_kept, lacks)
      where
        go : (known left : Option (List ℕ)) → Keeps known (prepend_known later left) → Consumes known left pending
        go None left all = tt
        go (Some xs) None all = absurd all
        go (Some xs) (Some ys) all = sym all ∙ ap (λ l. l ++ ys) is
    not_filled line kinds.Memory fault = go old rest kept
      where
        go : (known left : Option (List ℕ)) → Keeps known (prepend_known pending left) → HasBytes known
        go None left all = tt
        go (Some xs) None all = absurd all
        go (Some xs) (Some ys) all = omega (arith, ap length all, length-append pending ys, fault)

    -- the source has no more than some bytes without LF
    pub rest_taken : IsAtEnd unread → (line left : List ℕ) → line ≡ later → left ≡ [] → (kind : NextLine) → IsLast later kind
        → FindsLine old (prepend_known left unread) unread line (Ok kind)
    rest_taken end line left line_is left_is Terminated last = absurd last
    rest_taken end line left line_is left_is Unterminated last = (
      go old unread all_kept,
      subst (Lacks is_lf) (sym (line_is ∙ is)) lacks,
      none unread end,
      omega (arith, ap length line_is, last),
    )
      where
        go : (known after : Option (List ℕ)) → Keeps known (prepend_known later after) → Consumes known (prepend_known left after) line
        go None after all = tt
        go (Some xs) None all = absurd all
        go (Some xs) (Some ys) all = sym all ∙ ap (λ l. l ++ ys) (sym line_is) ∙ ap (λ l. line ++ (l ++ ys)) (sym left_is)

        none : (after : Option (List ℕ)) → IsAtEnd after → IsAtEnd (prepend_known left after)
        none None ends = tt
        none (Some ys) ends = ap (λ l. l ++ ys) left_is ∙ ends
    rest_taken end line left line_is left_is EndOfInput last = go old unread all_kept end
      where
        go : (known after : Option (List ℕ)) → Keeps known (prepend_known later after) → IsAtEnd after → IsAtEnd known
        go None after all ends = tt
        go (Some xs) None all ends = absurd all
        go (Some xs) (Some ys) all ends = sym all ∙ ap (λ l. l ++ ys) last ∙ ends
