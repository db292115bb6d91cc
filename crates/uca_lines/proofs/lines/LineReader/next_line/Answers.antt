-- A line that has begun is within the limit, and what `fill` keeps it keeps.
use Rattle.std.proofs.Common.{◌≡◌, ◌≢◌, ◌+◌, ◌<◌, ◌≤◌, if◌then◌else◌, ℕ, Bool, true, false, List, [], Option, None, Some, Result, Ok, Err, length, refl, sym, ap, subst, ◌∙◌, arith, is_ok, Fits, w32}
use Rattle.std.proofs.Math.Bool.{or-false}
use Rattle.std.specs.Int.{from_bool}
use Rattle.std.specs.Io.KnownBytes.{Keeps, Consumes}
use Rattle.std.proofs.KnownBytes.{Consumes-nil, Consumes-kept}
use Rattle.std.proofs.lemmas.Bool.{MatchBool-at_true, MatchBool-at_false, false≢true}
use Rattle.uca_lines.specs.declared.lines.NextLine.{NextLine}
use Rattle.uca_lines.specs.declared.lines.NextLine.TheVariants.{Terminated, Unterminated, EndOfInput}
use Rattle.uca_lines.specs.declared.lines.LineFault.{LineFault}
use Rattle.uca_lines.specs.declared.lines.LineFault.TheVariants.{TooLong, Limit, Read, Memory}
use Rattle.uca_lines.specs.NextLine.{IsWithinLimit, SaysOfBytes, is_line}
use Rattle.uca_lines.specs.LineReader.{LineState, left_of}
use Rattle.uca_lines.proofs.LineLemmas.{none_left, HasBytes-waiting, is_failed_read, failed_read-not_memory, empty_fits, empty_lacks}
use Rattle.uca_lines.proofs.lines.LineReader.next_line.Goals as goal

-- what is returned within the limit, unless it is the error of the limit
within_limit : (number : ℕ) (result : Result NextLine LineFault) → number < 1000000 → result ≢ Err Limit → IsWithinLimit number result
within_limit number (Ok Terminated) few other = few
within_limit number (Ok Unterminated) few other = few
within_limit number (Ok EndOfInput) few other = tt
within_limit number (Err TooLong) few other = few
within_limit number (Err Limit) few other = absurd (other refl)
within_limit number (Err Read) few other = tt
within_limit number (Err Memory) few other = few

-- what is true of the bytes that were kept is true of those before
says_before : (old mid new : Option (List ℕ)) (line : List ℕ) (n longest : ℕ) (result : Result NextLine LineFault) → Keeps old mid → n ≡ longest
    → SaysOfBytes mid new line n result → SaysOfBytes old new line longest result
says_before (Some xs) None new line n longest result kept is h = absurd kept
says_before (Some xs) (Some ys) new line n longest result kept is h =
    subst (λ m. SaysOfBytes (Some xs) new line m result) is (subst (λ (l : List ℕ). SaysOfBytes (Some l) new line n result) kept h)
says_before None None new line n longest result kept is h = subst (λ m. SaysOfBytes None new line m result) is h
says_before None (Some ys) new line n longest (Ok Terminated) kept is h = tt
says_before None (Some ys) new line n longest (Ok Unterminated) kept is h = (tt, h.1)
says_before None (Some ys) new line n longest (Ok EndOfInput) kept is h = (tt, h.1)
says_before None (Some ys) new line n longest (Err TooLong) kept is h = (tt, tt)
says_before None (Some ys) new line n longest (Err Limit) kept is h = (tt, tt)
says_before None (Some ys) new line n longest (Err Read) kept is h = tt
says_before None (Some ys) new line n longest (Err Memory) kept is h = (tt, tt)

-- nothing was read of them
nothing_read : (old new : Option (List ℕ)) (line : List ℕ) → Keeps old new → line ≡ [] → Consumes old new line
nothing_read old new line kept empty = rw empty (Consumes-kept old old new [] (Consumes-nil old) kept)

-- a number counts one more, or not
counted : (found : Bool) (before number : ℕ) → before ≡ number → before + from_bool found ≡ (if found then number + 1 else number)
counted true before number is = omega arith
counted false before number is = omega arith

-- and stays within the limit
counted_within : (found : Bool) (before number more : ℕ) → before ≡ number → number < 1000000 → more ≡ from_bool found → before + more ≤ 1000000
counted_within true before number more is few one = omega arith
counted_within false before number more is few none = omega arith

-- which is a number of 32 bits
fits_32 : (n : ℕ) → n ≤ 1000000 → Fits w32 n
fits_32 n few = omega arith

-- a line that was found is not the end
not_end : (result : Result NextLine LineFault) → is_line result ≡ is_ok result → result ≡ Ok EndOfInput → ⊥
not_end result found e = false≢true (rw e at found)

-- equal numbers are in the same order
same_less : (a b c d : ℕ) → a < b → a ≡ c → b ≡ d → c < d
same_less a b c d h is_c is_d = omega arith

-- no number is within the limit and beyond it
not_beyond : (n number : ℕ) → n < 1000000 → n ≡ number → 1000000 ≤ number → ⊥
not_beyond n number few is many = omega arith

pub returns-then-self-ge-LINE_LIMIT-clause-bytes : goal.returns-then-self-ge-LINE_LIMIT-clause-bytes
returns-then-self-ge-LINE_LIMIT-clause-bytes g c =
    let old = left_of c.args.self.now c.args.source.now in
    let filled = c.in-Ok-true.ensures in
    let some = MatchBool-at_true _ _ c.in-Ok-true.field-0-test filled.pending in (
      nothing_read old (left_of c.fill.new.self c.fill.new.source) c.clear.new.self.items filled.bytes c.clear.ensures.items,
      HasBytes-waiting old c.fill.new.source.remaining [] c.fill.new.self.pending
          (nothing_read old (left_of c.fill.new.self c.fill.new.source) [] filled.bytes refl) some,
    )

pub returns-then-self-ge-LINE_LIMIT-clause-fits : goal.returns-then-self-ge-LINE_LIMIT-clause-fits
returns-then-self-ge-LINE_LIMIT-clause-fits g c = empty_fits c.clear.new.self.items c.args.self.now.longest c.clear.ensures.items

pub returns-then-self-ge-LINE_LIMIT-clause-limit : goal.returns-then-self-ge-LINE_LIMIT-clause-limit
returns-then-self-ge-LINE_LIMIT-clause-limit g c =
    subst (λ n. 1000000 ≤ n) (ap (λ (s : LineState). s.number) c.self.view_is ∙ c.in-Ok-true.ensures.number) c.if-self-ge-LINE_LIMIT.true

pub returns-then-self-ge-LINE_LIMIT-clause-no_lf : goal.returns-then-self-ge-LINE_LIMIT-clause-no_lf
returns-then-self-ge-LINE_LIMIT-clause-no_lf g c = empty_lacks c.clear.new.self.items c.clear.ensures.items

pub read_line-next-requires-clause-begun : goal.read_line-next-requires-clause-begun
read_line-next-requires-clause-begun g c = MatchBool-at_true _ _ c.in-Ok-true.field-0-test c.in-Ok-true.ensures.pending

pub overflow_add-self : goal.overflow_add-self
overflow_add-self g c = fits_32 _ (counted_within c.is_ok.result c.self-in-Ok-true.inside.number c.self.inside.number c.from.result
    (ap (λ (s : LineState). s.number) c.self-in-Ok-true.view_is ∙ c.read_line-next.ensures.number ∙ sym (ap (λ (s : LineState). s.number) c.self.view_is))
    c.if-self-ge-LINE_LIMIT.false c.from.ensures)

pub invariant_of-self : goal.invariant_of-self
invariant_of-self g c =
    let i = c.self-in-Ok-true.invariant in (
      i.0,
      i.1,
      counted_within c.is_ok.result c.self-in-Ok-true.inside.number c.self.inside.number c.from.result
          (ap (λ (s : LineState). s.number) c.self-in-Ok-true.view_is ∙ c.read_line-next.ensures.number ∙ sym (ap (λ (s : LineState). s.number) c.self.view_is))
          c.if-self-ge-LINE_LIMIT.false c.from.ensures,
    )

pub returns-else-self-ge-LINE_LIMIT-clause-end : goal.returns-else-self-ge-LINE_LIMIT-clause-end
returns-else-self-ge-LINE_LIMIT-clause-end g c = λ e. absurd (not_end c.read_line-next.result c.read_line-next.ensures.found e)

pub returns-else-self-ge-LINE_LIMIT-clause-read : goal.returns-else-self-ge-LINE_LIMIT-clause-read
returns-else-self-ge-LINE_LIMIT-clause-read g c = λ e. ap (λ (s : LineState). s.pending) c.self-in-Ok-true.view_is ∙ c.read_line-next.ensures.read e

pub returns-else-self-ge-LINE_LIMIT-clause-memory : goal.returns-else-self-ge-LINE_LIMIT-clause-memory
returns-else-self-ge-LINE_LIMIT-clause-memory g c =
    λ e. same_less _ _ _ _ (c.read_line-next.ensures.memory e) c.clear.ensures.capacity c.in-Ok-true.ensures.longest

pub returns-else-self-ge-LINE_LIMIT-clause-failed : goal.returns-else-self-ge-LINE_LIMIT-clause-failed
returns-else-self-ge-LINE_LIMIT-clause-failed g c = rw (c.in-Ok-true.ensures.failed, or-false) at c.read_line-next.ensures.failed

pub returns-else-self-ge-LINE_LIMIT-clause-bytes : goal.returns-else-self-ge-LINE_LIMIT-clause-bytes
returns-else-self-ge-LINE_LIMIT-clause-bytes g c =
    let pending = ap (λ (s : LineState). s.pending) c.self-in-Ok-true.view_is in
    rw pending (says_before (left_of c.args.self.now c.args.source.now) (left_of c.fill.new.self c.fill.new.source)
    (left_of c.read_line-next.new.self c.read_line-next.new.source) c.read_line-next.new.line.items c.fill.new.self.longest c.args.self.now.longest
    c.read_line-next.result c.in-Ok-true.ensures.bytes c.in-Ok-true.ensures.longest c.read_line-next.ensures.bytes)

pub returns-else-self-ge-LINE_LIMIT-clause-fits : goal.returns-else-self-ge-LINE_LIMIT-clause-fits
returns-else-self-ge-LINE_LIMIT-clause-fits g c =
    subst (λ n. length c.read_line-next.new.line.items ≤ n) c.in-Ok-true.ensures.longest c.read_line-next.ensures.fits

pub returns-else-self-ge-LINE_LIMIT-clause-limit : goal.returns-else-self-ge-LINE_LIMIT-clause-limit
returns-else-self-ge-LINE_LIMIT-clause-limit g c =
    within_limit c.args.self.now.number c.read_line-next.result
    (subst (λ n. n < 1000000) (ap (λ (s : LineState). s.number) c.self.view_is ∙ c.in-Ok-true.ensures.number) c.if-self-ge-LINE_LIMIT.false)
    c.read_line-next.ensures.not_limit

pub returns-else-self-ge-LINE_LIMIT-clause-none_beyond : goal.returns-else-self-ge-LINE_LIMIT-clause-none_beyond
returns-else-self-ge-LINE_LIMIT-clause-none_beyond g c =
    λ many. absurd (not_beyond c.self.inside.number c.args.self.now.number c.if-self-ge-LINE_LIMIT.false
    (ap (λ (s : LineState). s.number) c.self.view_is ∙ c.in-Ok-true.ensures.number) many)

pub returns-else-self-ge-LINE_LIMIT-clause-number : goal.returns-else-self-ge-LINE_LIMIT-clause-number
returns-else-self-ge-LINE_LIMIT-clause-number g c =
    rw (c.from.ensures, c.is_ok.ensures.value, c.read_line-next.ensures.found) (counted _ c.self-in-Ok-true.inside.number c.args.self.now.number
    (ap (λ (s : LineState). s.number) c.self-in-Ok-true.view_is ∙ c.read_line-next.ensures.number ∙ c.in-Ok-true.ensures.number))

pub returns-else-self-ge-LINE_LIMIT-clause-longest : goal.returns-else-self-ge-LINE_LIMIT-clause-longest
returns-else-self-ge-LINE_LIMIT-clause-longest g c =
    ap (λ (s : LineState). s.longest) c.self-in-Ok-true.view_is ∙ c.read_line-next.ensures.longest ∙ c.in-Ok-true.ensures.longest

pub returns-in-Ok-false-clause-bytes : goal.returns-in-Ok-false-clause-bytes
returns-in-Ok-false-clause-bytes g c =
    let filled = c.in-Ok-false.ensures in
    let end = MatchBool-at_false _ _ c.in-Ok-false.field-0-test filled.pending in (
      nothing_read (left_of c.args.self.now c.args.source.now) (left_of c.fill.new.self c.fill.new.source) c.clear.new.self.items filled.bytes
          c.clear.ensures.items,
      none_left c.fill.new.source.remaining c.fill.new.self.pending end.0 end.1,
    )

pub returns-in-Ok-false-clause-fits : goal.returns-in-Ok-false-clause-fits
returns-in-Ok-false-clause-fits g c = empty_fits c.clear.new.self.items c.args.self.now.longest c.clear.ensures.items

pub returns-in-Err-clause-bytes : goal.returns-in-Err-clause-bytes
returns-in-Err-clause-bytes g c =
    rw (is_failed_read c.in-Err.fault c.in-Err.ensures.read) (nothing_read (left_of c.args.self.now c.args.source.now)
    (left_of c.fill.new.self c.fill.new.source) c.clear.new.self.items c.in-Err.ensures.bytes c.clear.ensures.items)

pub returns-in-Err-clause-fits : goal.returns-in-Err-clause-fits
returns-in-Err-clause-fits g c = empty_fits c.clear.new.self.items c.args.self.now.longest c.clear.ensures.items

pub returns-in-Err-clause-limit : goal.returns-in-Err-clause-limit
returns-in-Err-clause-limit g c = rw (is_failed_read c.in-Err.fault c.in-Err.ensures.read) tt

pub returns-in-Err-clause-memory : goal.returns-in-Err-clause-memory
returns-in-Err-clause-memory g c = λ e. absurd (failed_read-not_memory c.in-Err.fault (is_failed_read c.in-Err.fault c.in-Err.ensures.read) e)

pub returns-in-Err-clause-failed : goal.returns-in-Err-clause-failed
returns-in-Err-clause-failed g c = rw (is_failed_read c.in-Err.fault c.in-Err.ensures.read) c.in-Err.ensures.failed

pub returns-in-Ok-false-clause-no_lf : goal.returns-in-Ok-false-clause-no_lf
returns-in-Ok-false-clause-no_lf g c = empty_lacks c.clear.new.self.items c.clear.ensures.items

pub returns-in-Err-clause-no_lf : goal.returns-in-Err-clause-no_lf
returns-in-Err-clause-no_lf g c = empty_lacks c.clear.new.self.items c.clear.ensures.items
