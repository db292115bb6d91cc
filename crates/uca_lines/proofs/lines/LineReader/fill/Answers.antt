-- What is read waits, where nothing waited before.
use Rattle.std.proofs.Common.{◌≡◌, ◌++◌, ◌-◌, ◌<◌, ◌≤◌, ℕ, List, [], Option, None, Some, length, take, sym, ap, subst, ◌∙◌, arith}
use Rattle.std.specs.Io.KnownBytes.{Keeps, Consumes, prepend_known}
use Rattle.std.specs.List.{slice_range}
use Rattle.std.proofs.KnownBytes.{Keeps-refl}
use Rattle.uca_lines.specs.LineReader.{LineState, left_of}
use Rattle.uca_lines.proofs.LineLemmas.{range_some, range_none}
use Rattle.uca_lines.proofs.lines.LineReader.fill.Goals as goal

-- what waits is what the source lost
waits_now : (old new : Option (List ℕ)) (waiting buf : List ℕ) (n : ℕ) → waiting ≡ [] → Consumes old new (take n buf)
    → Keeps (prepend_known waiting old) (prepend_known (slice_range buf 0 n) new)
waits_now None new waiting buf n empty h = tt
waits_now (Some xs) None waiting buf n empty h = absurd h
waits_now (Some xs) (Some ys) waiting buf n empty h =
    ap (λ k. take k buf ++ ys) (let all : n - 0 ≡ n = omega arith in all) ∙ sym h ∙ ap (λ (w : List ℕ). w ++ xs) (sym empty)

-- or nothing, after an error
waits_as_before : (old new : Option (List ℕ)) (waiting : List ℕ) → waiting ≡ [] → Keeps old new → Keeps (prepend_known waiting old) (prepend_known [] new)
waits_as_before None new waiting empty h = tt
waits_as_before (Some xs) None waiting empty h = absurd h
waits_as_before (Some xs) (Some ys) waiting empty h = h ∙ ap (λ (w : List ℕ). w ++ xs) (sym empty)

pub returns-then-self-clause-bytes : goal.returns-then-self-clause-bytes
returns-then-self-clause-bytes g c = Keeps-refl (left_of c.args.self.now c.args.source.now)

pub returns-then-self-clause-pending : goal.returns-then-self-clause-pending
returns-then-self-clause-pending g c =
    subst (λ (p : List ℕ). 0 < length p) (ap (λ (s : LineState). s.pending) c.self.view_is) (range_some c.self.inside.chunk c.self.inside.start
    c.self.inside.end c.if-self.true (subst (λ n. c.self.inside.end ≤ n) (sym c.self.told) c.self.invariant.1))

pub returns-in-Ok-clause-bytes : goal.returns-in-Ok-clause-bytes
returns-in-Ok-clause-bytes g c =
    waits_now c.args.source.now.remaining c.read.new.self.remaining c.args.self.now.pending c.read.new.buf c.in-Ok.count
    (sym (ap (λ (s : LineState). s.pending) c.self.view_is) ∙ range_none c.self.inside.chunk c.self.inside.start c.self.inside.end c.if-self.false)
    c.in-Ok.ensures.bytes.0

pub returns-in-Err-clause-bytes : goal.returns-in-Err-clause-bytes
returns-in-Err-clause-bytes g c =
    waits_as_before c.args.source.now.remaining c.read.new.self.remaining c.args.self.now.pending
    (sym (ap (λ (s : LineState). s.pending) c.self.view_is) ∙ range_none c.self.inside.chunk c.self.inside.start c.self.inside.end c.if-self.false)
    c.in-Err.ensures.bytes
