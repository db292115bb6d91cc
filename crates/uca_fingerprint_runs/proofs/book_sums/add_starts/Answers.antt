-- Each line is added after those before it.
use Rattle.std.proofs.Common.{List, ℕ, ◌++◌, sym, subst, take, append-nil}
use Rattle.std.proofs.lemmas.List.{take_all}
use Rattle.sha2.specs.Hashers.{Holds256}
use Rattle.uca_fingerprint_runs.specs.inside.BookLines.{starts_lines}
use Rattle.uca_fingerprint_runs.proofs.BookText.{starts_more}
use Rattle.uca_fingerprint_runs.proofs.book_sums.add_starts.Goals as goal

pub loop-start-init : goal.loop-start-init
loop-start-init c = λ text holds. subst (Holds256 c.args.hasher.now) (sym (append-nil text)) holds

pub loop-start-preserved : goal.loop-start-preserved
loop-start-preserved c = λ text holds.
    subst (Holds256 c.update.new.self) (starts_more c.args.level c.args.starts.now c.loop-start.start-index text c.line_bytes.result c.loop-start-test.true c.line_bytes.ensures)
    (c.update.ensures (text ++ starts_lines c.args.level (take c.loop-start.start-index c.args.starts.now)) (c.loop-start.invariant text holds))

pub returns : goal.returns
returns c = λ text holds.
    subst (λ (starts : List ℕ). Holds256 c.loop-start.hasher (text ++ starts_lines c.args.level starts))
    (take_all c.loop-start.start-index c.args.starts.now c.loop-start-test.false) (c.loop-start.invariant text holds)
