-- All lines, from the first on.
use Rattle.std.proofs.Common.{◌≡◌, ◌||◌, [], None, sym, subst}
use Rattle.uca_rekey.proofs.Changing.{changes_begun, ends_changed, runs_change}
use Rattle.uca_rekey.proofs.change_run.ChangeRun.change_all.Goals as goal

pub returns-clause-changes : goal.returns-clause-changes
returns-clause-changes g c =
    let means = g.C.ChangesKeys.means c.args.self.now.change in
    let input = c.args.input.now in
    let out = c.args.out.now in
    let end = c.change_rest-end in
    let begun = changes_begun means c.args.self.now.lines input c.args.self.now.written out c.requires in
    runs_change means input end.new.input out c.end.new.out c.end.result
    (ends_changed means None input.remaining out.contents end.new.input end.new.out end.new.self.written.buffer c.end.new.out end.result c.end.result
    (end.ensures.changes None input.remaining out.contents [] [] begun) c.end.ensures.ends)

pub returns-clause-of_lines : goal.returns-clause-of_lines
returns-clause-of_lines g c = c.end.ensures.of_lines c.change_rest-end.ensures.of_lines

pub returns-clause-input_failed : goal.returns-clause-input_failed
returns-clause-input_failed g c = λ none.
    subst (λ b. c.change_rest-end.new.input.failed ≡ (c.args.input.now.failed || b)) (sym (c.end.ensures.not_read none)) c.change_rest-end.ensures.input_failed

pub returns-clause-out_failed : goal.returns-clause-out_failed
returns-clause-out_failed g c = c.end.ensures.failed c.args.out.now.failed c.change_rest-end.ensures.out_failed
