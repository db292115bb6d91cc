-- What is returned where a line may come, from what is said of the line and of its key.
use Rattle.std.proofs.Common.{◌<◌, length, subst, ◌∙◌}
use Rattle.uca_order.specs.Keyings.{text_of}
use Rattle.uca_key_runs.specs.Keys.{keying_of_writer}
use Rattle.uca_run_parts.proofs.TextsLemmas.{clean_line, no_text}
use Rattle.uca_key_runs.proofs.keys.KeyRun.next.Goals as goal

pub returns-in-Ok-clause-reads : goal.returns-in-Ok-clause-reads
returns-in-Ok-clause-reads g c = λ start before h.
    let read_of = text_of (keying_of_writer g.L.Lookup.content c.args.self.now.key) in
    let at = rw c.in-Ok-true.field-0-test at c.in-Ok-true.ensures in
    let line = at.reads read_of start before h in
    let few : length before < 1000000 = subst (λ n. n < 1000000) h.count at.count.1 in
    clean_line read_of start before c.next.new.self c.next.new.input line (c.in-Ok.ensures.clean (length before) few)

pub returns-in-Err-make_key-clause-reads : goal.returns-in-Err-make_key-clause-reads
returns-in-Err-make_key-clause-reads g c = λ start before h.
    let read_of = text_of (keying_of_writer g.L.Lookup.content c.args.self.now.key) in
    let at = rw c.in-Ok-true.field-0-test at c.in-Ok-true.ensures in
    let line = at.reads read_of start before h in
    let few : length before < 1000000 = subst (λ n. n < 1000000) h.count at.count.1 in
    no_text read_of start before c.next.new.self c.next.new.input line _ c.in-Err-make_key.kind
    (c.number.ensures.value ∙ line.count) (c.in-Err-make_key.ensures.fault (length before) few)

pub returns-in-Ok-clause-made : goal.returns-in-Ok-clause-made
returns-in-Ok-clause-made g c = c.in-Ok.ensures.made

pub returns-in-Ok-clause-count : goal.returns-in-Ok-clause-count
returns-in-Ok-clause-count g c =
    let at = rw c.in-Ok-true.field-0-test at c.in-Ok-true.ensures in
    at.count

pub returns-in-Ok-clause-failed : goal.returns-in-Ok-clause-failed
returns-in-Ok-clause-failed g c = c.in-Ok-true.ensures.failed
