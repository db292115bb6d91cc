-- The first line is the header, or another line, or there is none.
use Rattle.std.proofs.Common.{◌≡◌, ◌≢◌, ℕ, [], ◌∷◌, List, sym, subst, ◌∙◌}
use Rattle.std.proofs.lemmas.Slice.Eq.{slice_eq-Decides}
use Rattle.std.proofs.lemmas.Bool.Decides.{Decides-eqb}
use Rattle.uca_rekey.specs.inside.LinesInPlace.{HasRead}
use Rattle.uca_rekey.proofs.Headers.{header_unread, no_header, other_header}
use Rattle.uca_rekey.proofs.lines.KeyLines.read_header.Goals as goal

pub returns-then-eq-clause-reads : goal.returns-then-eq-clause-reads
returns-then-eq-clause-reads g c = λ start read.
    let found = rw c.in-Ok-true.field-0-test at c.in-Ok-true.ensures.reads start [] read in
    let is : c.next.new.self.line ≡ c.args.header.now = sym c.line.ensures.value ∙ (slice_eq-Decides Decides-eqb _ _ _ c.eq.ensures).0 c.if-eq.true in
    subst (λ (line : List ℕ). HasRead start (line ∷ []) c.next.new.self c.next.new.source) is found

pub returns-else-eq-clause-reads : goal.returns-else-eq-clause-reads
returns-else-eq-clause-reads g c = λ start read.
    let found = rw c.in-Ok-true.field-0-test at c.in-Ok-true.ensures.reads start [] read in
    let other : c.next.new.self.line ≢ c.args.header.now = λ same.
    let equal = (slice_eq-Decides Decides-eqb _ _ _ c.eq.ensures).1 (c.line.ensures.value ∙ same) in
    let unequal = c.if-eq.false in cc in
    other_header c.args.header.now c.next.new.self.line start c.next.new.self c.next.new.source found other

pub returns-in-Ok-false-clause-reads : goal.returns-in-Ok-false-clause-reads
returns-in-Ok-false-clause-reads g c = λ start read.
    no_header c.args.header.now start c.next.new.source.remaining
    (rw c.in-Ok-false.field-0-test at c.in-Ok-false.ensures.reads start [] read)

pub returns-in-Err-clause-reads : goal.returns-in-Err-clause-reads
returns-in-Err-clause-reads g c = λ start read.
    header_unread c.args.header.now start c.next.new.source.remaining c.in-Err.kind (c.in-Err.ensures.reads start [] read)
