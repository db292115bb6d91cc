-- What one turn does to the known bytes, by how it ends.
use Rattle.std.proofs.Common.{◌≡◌, ◌↔◌, ◌<◌, ◌≤◌, ◌||◌, Bool, true, false, IsTrue, List, ℕ, length, refl, sym, ap, subst, ◌∙◌, vec_capacity, arith, le_refl}
use Rattle.std.proofs.Math.Bool.{or-false}
use Rattle.std.specs.List.{position_or_len}
use Rattle.std.proofs.KnownBytes.{Consumes-nil, Consumes-kept}
use Rattle.std.proofs.lemmas.Bool.{iff_false, false≢true, MatchBool-at_true, MatchBool-at_false}
use Rattle.uca_lines.specs.Lines.{is_lf}
use Rattle.uca_lines.specs.LineReader.{left_of}
use Rattle.uca_lines.specs.NextLine.{is_read}
use Rattle.uca_lines.proofs.LineLemmas.{Lacks_more, Consumes-ended, Consumes-part, SaysOfBytes-fault, none_left, taken_some, taken_nearer, take_fault-memory, take_fault-not_limit, take_fault-not_read, is_failed_read, failed_read-not_memory, failed_read-not_limit, empty_fits, empty_lacks}
use Rattle.uca_lines.proofs.lines.LineReader.read_line.Goals as goal

-- no LF waits
iff_none : (waiting : List ℕ) {found : Bool} → (IsTrue found ↔ (position_or_len is_lf waiting < length waiting)) → found ≡ false
    → length waiting ≤ position_or_len is_lf waiting
iff_none waiting h none = omega (arith, iff_false h none)

pub returns-in-Err-clause-bytes : goal.returns-in-Err-clause-bytes
returns-in-Err-clause-bytes g c =
    let i = c.loop-fault.invariant in
    let kept = c.in-Err.ensures in
    SaysOfBytes-fault (left_of c.args.self.now c.args.source.now) c.loop-fault.source.remaining c.loop-fault.line.items c.loop-fault.self.pending
    c.take_waiting.new.line.items c.take_waiting.new.self.pending (vec_capacity c.loop-fault.line) c.loop-fault.self.longest c.args.self.now.longest
    c.in-Err.fault i.bytes i.some i.no_lf kept.err_line kept.err_pending i.longest kept.fault

pub returns-in-Ok-true-clause-bytes : goal.returns-in-Ok-true-clause-bytes
returns-in-Ok-true-clause-bytes g c =
    let i = c.loop-fault.invariant in
    let taken = c.in-Ok-true.ensures in
    Consumes-ended (left_of c.args.self.now c.args.source.now) c.loop-fault.source.remaining c.loop-fault.line.items c.loop-fault.self.pending
    c.take_waiting.new.line.items c.take_waiting.new.self.pending i.bytes (taken.found.0 c.in-Ok-true.field-0-test) taken.line taken.pending

pub returns-in-Ok-true-clause-no_lf : goal.returns-in-Ok-true-clause-no_lf
returns-in-Ok-true-clause-no_lf g c = Lacks_more c.loop-fault.line.items c.loop-fault.self.pending c.take_waiting.new.line.items
    c.loop-fault.invariant.no_lf c.in-Ok-true.ensures.line

pub returns-in-Err-fill-clause-no_lf : goal.returns-in-Err-fill-clause-no_lf
returns-in-Err-fill-clause-no_lf g c = Lacks_more c.loop-fault.line.items c.loop-fault.self.pending c.take_waiting.new.line.items
    c.loop-fault.invariant.no_lf c.in-Ok-false.ensures.line

pub returns-in-Ok-false-fill-clause-no_lf : goal.returns-in-Ok-false-fill-clause-no_lf
returns-in-Ok-false-fill-clause-no_lf g c = Lacks_more c.loop-fault.line.items c.loop-fault.self.pending c.take_waiting.new.line.items
    c.loop-fault.invariant.no_lf c.in-Ok-false.ensures.line

pub loop-fault-preserved : goal.loop-fault-preserved
loop-fault-preserved g c =
    let i = c.loop-fault.invariant in
    let taken = c.in-Ok-false.ensures in
    let filled = c.in-Ok-true-fill.ensures in
    let none = iff_none c.loop-fault.self.pending taken.found c.in-Ok-false.field-0-test in
    record {
      bytes = Consumes-kept (left_of c.args.self.now c.args.source.now)
          (left_of c.take_waiting.new.self c.loop-fault.source) (left_of c.fill.new.self c.fill.new.source) c.take_waiting.new.line.items
          (Consumes-part (left_of c.args.self.now c.args.source.now) c.loop-fault.source.remaining c.loop-fault.line.items c.loop-fault.self.pending
          c.take_waiting.new.line.items c.take_waiting.new.self.pending i.bytes none taken.line taken.pending) filled.bytes;
      no_lf = Lacks_more c.loop-fault.line.items c.loop-fault.self.pending c.take_waiting.new.line.items i.no_lf taken.line;
      fits = omega (arith, taken.fits, taken.longest, filled.longest);
      some = MatchBool-at_true _ _ c.in-Ok-true-fill.field-0-test filled.pending;
      capacity = omega (arith, taken.capacity, i.capacity);
      number = omega (arith, filled.number, taken.number, i.number);
      longest = omega (arith, filled.longest, taken.longest, i.longest);
      failed = rw (filled.failed, or-false) i.failed;
    }

pub returns-in-Err-clause-memory : goal.returns-in-Err-clause-memory
returns-in-Err-clause-memory g c =
    let i = c.loop-fault.invariant in
    λ e. omega (arith, i.capacity, i.longest, take_fault-memory _ _ _ _ c.in-Err.ensures.fault e)

pub returns-in-Err-clause-not_limit : goal.returns-in-Err-clause-not_limit
returns-in-Err-clause-not_limit g c =
    take_fault-not_limit _ _ _ _ c.in-Err.ensures.fault

pub returns-in-Err-clause-failed : goal.returns-in-Err-clause-failed
returns-in-Err-clause-failed g c =
    rw (take_fault-not_read _ _ _ _ c.in-Err.ensures.fault, or-false) c.loop-fault.invariant.failed

pub loop-fault-init : goal.loop-fault-init
loop-fault-init g c = record {
  bytes = rw c.requires.empty (Consumes-nil (left_of c.args.self.now c.args.source.now));
  no_lf = empty_lacks c.args.line.now.items c.requires.empty;
  fits = empty_fits c.args.line.now.items c.args.self.now.longest c.requires.empty;
  some = c.requires.begun;
  capacity = le_refl _;
  number = refl;
  longest = refl;
  failed = refl;
}

pub loop-fault-smaller : goal.loop-fault-smaller
loop-fault-smaller g c =
    let taken = c.in-Ok-false.ensures in
    taken_nearer c.loop-fault.line.items c.loop-fault.self.pending c.take_waiting.new.line.items c.loop-fault.self.longest c.fill.new.self.longest
    (iff_none c.loop-fault.self.pending taken.found c.in-Ok-false.field-0-test) taken.line c.loop-fault.invariant.some taken.fits
    (c.in-Ok-true-fill.ensures.longest ∙ taken.longest)

pub returns-in-Ok-true-clause-fits : goal.returns-in-Ok-true-clause-fits
returns-in-Ok-true-clause-fits g c =
    subst (λ n. length c.take_waiting.new.line.items ≤ n) c.loop-fault.invariant.longest c.in-Ok-true.ensures.fits

pub returns-in-Ok-true-clause-failed : goal.returns-in-Ok-true-clause-failed
returns-in-Ok-true-clause-failed g c = rw or-false c.loop-fault.invariant.failed

pub returns-in-Err-clause-no_lf : goal.returns-in-Err-clause-no_lf
returns-in-Err-clause-no_lf g c = rw c.in-Err.ensures.err_line c.loop-fault.invariant.no_lf

pub returns-in-Err-clause-fits : goal.returns-in-Err-clause-fits
returns-in-Err-clause-fits g c = subst (λ n. length c.take_waiting.new.line.items ≤ n) c.loop-fault.invariant.longest c.in-Err.ensures.fits

pub returns-in-Err-clause-read : goal.returns-in-Err-clause-read
returns-in-Err-clause-read g c = λ e. absurd (false≢true (sym (take_fault-not_read _ _ _ _ c.in-Err.ensures.fault) ∙ ap is_read e))

pub returns-in-Ok-false-fill-clause-bytes : goal.returns-in-Ok-false-fill-clause-bytes
returns-in-Ok-false-fill-clause-bytes g c =
    let taken = c.in-Ok-false.ensures in
    let filled = c.in-Ok-false-fill.ensures in
    let end = MatchBool-at_false _ _ c.in-Ok-false-fill.field-0-test filled.pending in (
      Consumes-kept (left_of c.args.self.now c.args.source.now)
          (left_of c.take_waiting.new.self c.loop-fault.source) (left_of c.fill.new.self c.fill.new.source) c.take_waiting.new.line.items
          (Consumes-part (left_of c.args.self.now c.args.source.now) c.loop-fault.source.remaining c.loop-fault.line.items c.loop-fault.self.pending
          c.take_waiting.new.line.items c.take_waiting.new.self.pending c.loop-fault.invariant.bytes
          (iff_none c.loop-fault.self.pending taken.found c.in-Ok-false.field-0-test) taken.line taken.pending) filled.bytes,
      none_left c.fill.new.source.remaining c.fill.new.self.pending end.0 end.1,
    )

pub returns-in-Ok-false-fill-clause-fits : goal.returns-in-Ok-false-fill-clause-fits
returns-in-Ok-false-fill-clause-fits g c =
    subst (λ n. length c.take_waiting.new.line.items ≤ n) c.loop-fault.invariant.longest c.in-Ok-false.ensures.fits

pub returns-in-Ok-false-fill-clause-cut : goal.returns-in-Ok-false-fill-clause-cut
returns-in-Ok-false-fill-clause-cut g c =
    let taken = c.in-Ok-false.ensures in
    λ _. taken_some c.loop-fault.line.items c.loop-fault.self.pending c.take_waiting.new.line.items
    (iff_none c.loop-fault.self.pending taken.found c.in-Ok-false.field-0-test) taken.line c.loop-fault.invariant.some

pub returns-in-Ok-false-fill-clause-failed : goal.returns-in-Ok-false-fill-clause-failed
returns-in-Ok-false-fill-clause-failed g c = c.in-Ok-false-fill.ensures.failed ∙ ap (λ b. b || false) c.loop-fault.invariant.failed

pub returns-in-Ok-false-fill-clause-number : goal.returns-in-Ok-false-fill-clause-number
returns-in-Ok-false-fill-clause-number g c = c.in-Ok-false-fill.ensures.number ∙ c.in-Ok-false.ensures.number ∙ c.loop-fault.invariant.number

pub returns-in-Ok-false-fill-clause-longest : goal.returns-in-Ok-false-fill-clause-longest
returns-in-Ok-false-fill-clause-longest g c = c.in-Ok-false-fill.ensures.longest ∙ c.in-Ok-false.ensures.longest ∙ c.loop-fault.invariant.longest

pub returns-in-Err-fill-clause-bytes : goal.returns-in-Err-fill-clause-bytes
returns-in-Err-fill-clause-bytes g c =
    let taken = c.in-Ok-false.ensures in
    let filled = c.in-Err-fill.ensures in
    rw (is_failed_read c.in-Err-fill.fault filled.read) (Consumes-kept (left_of c.args.self.now c.args.source.now)
    (left_of c.take_waiting.new.self c.loop-fault.source) (left_of c.fill.new.self c.fill.new.source) c.take_waiting.new.line.items
    (Consumes-part (left_of c.args.self.now c.args.source.now) c.loop-fault.source.remaining c.loop-fault.line.items c.loop-fault.self.pending
    c.take_waiting.new.line.items c.take_waiting.new.self.pending c.loop-fault.invariant.bytes
    (iff_none c.loop-fault.self.pending taken.found c.in-Ok-false.field-0-test) taken.line taken.pending) filled.bytes)

pub returns-in-Err-fill-clause-fits : goal.returns-in-Err-fill-clause-fits
returns-in-Err-fill-clause-fits g c =
    subst (λ n. length c.take_waiting.new.line.items ≤ n) c.loop-fault.invariant.longest c.in-Ok-false.ensures.fits

pub returns-in-Err-fill-clause-not_limit : goal.returns-in-Err-fill-clause-not_limit
returns-in-Err-fill-clause-not_limit g c = failed_read-not_limit c.in-Err-fill.fault (is_failed_read c.in-Err-fill.fault c.in-Err-fill.ensures.read)

pub returns-in-Err-fill-clause-memory : goal.returns-in-Err-fill-clause-memory
returns-in-Err-fill-clause-memory g c =
    λ e. absurd (failed_read-not_memory c.in-Err-fill.fault (is_failed_read c.in-Err-fill.fault c.in-Err-fill.ensures.read) e)

pub returns-in-Err-fill-clause-failed : goal.returns-in-Err-fill-clause-failed
returns-in-Err-fill-clause-failed g c =
    rw (is_failed_read c.in-Err-fill.fault c.in-Err-fill.ensures.read) (c.in-Err-fill.ensures.failed ∙ ap (λ b. b || true) c.loop-fault.invariant.failed)

pub returns-in-Err-fill-clause-number : goal.returns-in-Err-fill-clause-number
returns-in-Err-fill-clause-number g c = c.in-Err-fill.ensures.number ∙ c.in-Ok-false.ensures.number ∙ c.loop-fault.invariant.number

pub returns-in-Err-fill-clause-longest : goal.returns-in-Err-fill-clause-longest
returns-in-Err-fill-clause-longest g c = c.in-Err-fill.ensures.longest ∙ c.in-Ok-false.ensures.longest ∙ c.loop-fault.invariant.longest
