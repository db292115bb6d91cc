-- What is returned where a text may come, from what is said of its line and of its text.
use Rattle.std.proofs.Common.{◌<◌, length, subst, sym, ◌∙◌}
use Rattle.uca_values.specs.Content.{properties_of}
use Rattle.uca_run_parts.specs.Input.{line_text}
use Rattle.uca_run_parts.specs.Texts.{HasRead}
use Rattle.uca_run_parts.proofs.TextsLemmas.{clean_line, no_text}
use Rattle.uca_run_parts.proofs.input.InputTexts.next.Goals.{in-Ok, in-Err-take_text}
use Rattle.uca_run_parts.proofs.input.InputTexts.next.Goals as goal

pub returns-after-take_text-clause-reads : goal.returns-after-take_text-clause-reads
returns-after-take_text-clause-reads g c = λ start before h.
    let read_of = line_text c.args.numbers (properties_of c.args.properties.now) in
    let at = rw c.in-Ok-true.field-0-test at c.in-Ok-true.ensures in
    let read = subst (λ s. HasRead read_of start before s.lines c.args.input.now) (sym c.self.view_is) h in
    let line = at.reads read_of start before read in
    let few : length before < 1000000 = subst (λ n. n < 1000000) read.count at.count.1 in
    elim c.match-take_text.branch [
      | in-Ok w ↦ rw w.result-is (clean_line read_of start before c.next.new.self c.next.new.input line (w.in-Ok.ensures.clean (length before) few))
      | in-Err-take_text w ↦ rw w.result-is (no_text read_of start before c.next.new.self c.next.new.input line _ w.in-Err-take_text.kind
          (w.number.ensures.value ∙ line.count) (w.in-Err-take_text.ensures.fault (length before) few))
    ]
