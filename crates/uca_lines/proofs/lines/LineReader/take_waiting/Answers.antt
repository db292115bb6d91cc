-- What is left after an LF, and why no more room means that the line does not fit.
use Rattle.std.proofs.Common.{◌≡◌, ◌↔◌, ◌++◌, ◌+◌, ◌-◌, ◌<◌, ◌≤◌, ℕ, List, true, IsTrue, Fits, w64, Result, Ok, Err, length, length-append, sym, ap, subst, ◌∙◌, arith}
use Rattle.std.specs.Prelude.{OnErr, is_err}
use Rattle.std.specs.List.{before_first, after_first, position_or_len}
use Rattle.std.proofs.lemmas.Bool.{false≢true}
use Rattle.uca_lines.specs.Lines.{is_lf}
use Rattle.uca_lines.specs.LineReader.{LineState}
use Rattle.uca_lines.proofs.LineLemmas.{slice_range-after_piece, piece_within}
use Rattle.uca_lines.proofs.lines.LineReader.take_waiting.Goals as goal

-- what holds at an error, at a result that is one
at_err : {T E : Type 0} (P : Type 0) (result : Result T E) → OnErr result P → true ≡ is_err result → P
at_err P (Ok x) h e = absurd (false≢true (sym e))
at_err P (Err x) h e = h

-- what is taken fits
fits_more : (line piece new : List ℕ) (len longest : ℕ) → new ≡ line ++ piece → len ≡ length line → length line ≤ longest → length piece ≤ longest - len
    → length new ≤ longest
fits_more line piece new len longest is_new is_len fits room = omega (arith, ap length is_new, length-append line piece)

-- a place in the chunk is a number of 64 bits
fits_64 : (n : ℕ) → n ≤ 16384 → Fits w64 n
fits_64 n few = omega arith

-- and so is the length of a part of it
part_fits_64 : (start n end : ℕ) → start + n ≤ end → end ≤ 16384 → Fits w64 n
part_fits_64 start n end h few = omega arith

-- what is at most a number is at most a greater one
le_both : (a b c : ℕ) → a ≤ b → b ≤ c → a ≤ c
le_both a b c h k = omega arith

pub overflow_sub-self-inside : goal.overflow_sub-self-inside
overflow_sub-self-inside g c =
    subst (λ n. n ≤ c.self.inside.longest) (sym (c.len.ensures ∙ c.args.line.now.ok.0))
    (subst (λ n. length c.args.line.now.items ≤ n) (sym (ap (λ (s : LineState). s.longest) c.self.view_is)) c.requires)

pub returns-then-is_err-clause-fits : goal.returns-then-is_err-clause-fits
returns-then-is_err-clause-fits g c =
    subst (λ (l : List ℕ). length l ≤ c.args.self.now.longest) (sym (rw c.if-is_err.ensures.negation at c.extend_from_slice.ensures.items)) c.requires

pub returns-then-is_err-clause-err_line : goal.returns-then-is_err-clause-err_line
returns-then-is_err-clause-err_line g c = rw c.if-is_err.ensures.negation at c.extend_from_slice.ensures.items

pub overflow_add-self : goal.overflow_add-self
overflow_add-self g c =
    let inside = c.self.inside in
    part_fits_64 inside.start _ inside.end (piece_within inside.chunk inside.start inside.end c.from.result c.first_line-is_ended.result.0.now
    c.first_line-is_ended.result.1 c.first_line-is_ended.ensures.line c.first_line-is_ended.ensures.is_ended c.self.invariant.0 c.from.ensures)
    c.self.invariant.1

pub overflow_add-self-2 : goal.overflow_add-self-2
overflow_add-self-2 g c =
    let inside = c.self.inside in
    fits_64 _ (le_both _ inside.end _ (piece_within inside.chunk inside.start inside.end c.from.result c.first_line-is_ended.result.0.now
    c.first_line-is_ended.result.1 c.first_line-is_ended.ensures.line c.first_line-is_ended.ensures.is_ended c.self.invariant.0 c.from.ensures)
    c.self.invariant.1)

pub invariant_of-self : goal.invariant_of-self
invariant_of-self g c =
    let inside = c.self.inside in (
      piece_within inside.chunk inside.start inside.end c.from.result c.first_line-is_ended.result.0.now
          c.first_line-is_ended.result.1 c.first_line-is_ended.ensures.line c.first_line-is_ended.ensures.is_ended c.self.invariant.0 c.from.ensures,
      c.self.invariant.1,
      c.self.invariant.2,
    )

pub returns-clause-found : goal.returns-clause-found
returns-clause-found g c =
    subst (λ (p : List ℕ). (IsTrue c.first_line-is_ended.result.1) ↔ (position_or_len is_lf p < length p)) (ap (λ (s : LineState). s.pending) c.self.view_is)
    c.first_line-is_ended.ensures.is_ended

pub returns-clause-line : goal.returns-clause-line
returns-clause-line g c =
    (rw c.if-is_err.ensures.negation at c.extend_from_slice.ensures.items)
    ∙ ap (λ (l : List ℕ). c.args.line.now.items ++ l) (c.first_line-is_ended.ensures.line ∙ ap (λ (s : LineState). before_first is_lf s.pending) c.self.view_is)

pub returns-clause-fits : goal.returns-clause-fits
returns-clause-fits g c =
    let longest = ap (λ (s : LineState). s.longest) c.self.view_is in
    subst (λ n. length c.extend_from_slice.new.self.items ≤ n) longest (fits_more c.args.line.now.items c.first_line-is_ended.result.0.now
    c.extend_from_slice.new.self.items c.len.result c.self.inside.longest (rw c.if-is_err.ensures.negation at c.extend_from_slice.ensures.items)
    (c.len.ensures ∙ c.args.line.now.ok.0) (subst (λ n. length c.args.line.now.items ≤ n) (sym longest) c.requires) c.if-len-self.false)

pub returns-then-is_err-clause-fault : goal.returns-then-is_err-clause-fault
returns-then-is_err-clause-fault g c =
    let line = c.args.line.now in
    let pending = ap (λ (s : LineState). s.pending) c.self.view_is in
    let longest = ap (λ (s : LineState). s.longest) c.self.view_is in
    let piece = ap length (c.first_line-is_ended.ensures.line ∙ ap (before_first is_lf) pending) in
    let all = length-append line.items (before_first is_lf c.args.self.now.pending) in
    let full = at_err _ _ c.extend_from_slice.ensures.full c.if-is_err.ensures.value in
    (omega (arith, all, piece, longest, line.ok.0, c.requires, c.len.ensures, c.if-len-self.false), omega (arith, all, piece, line.ok.0, full))

pub returns-clause-pending : goal.returns-clause-pending
returns-clause-pending g c =
    let inside = c.self.inside in
    slice_range-after_piece inside.chunk inside.start inside.end _ _ c.first_line-is_ended.result.1 c.first_line-is_ended.ensures.line
    c.first_line-is_ended.ensures.is_ended (omega arith) (λ e. let one = rw e at c.from.ensures in omega (arith, one))
    (λ e. let none = rw e at c.from.ensures in omega (arith, none))
    ∙ ap (λ (s : LineState). after_first is_lf s.pending) c.self.view_is
