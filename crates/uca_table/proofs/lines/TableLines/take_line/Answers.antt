-- A line without text says nothing.
use Rattle.std.proofs.Common.{sym, ◌∙◌}
use Rattle.uca_table.proofs.TakeLaws.{takes_nothing, empty_without_first}
use Rattle.uca_table.proofs.lines.TableLines.take_line.Goals as goal

pub returns-in-None-clause-ok : goal.returns-in-None-clause-ok
returns-in-None-clause-ok g c =
    takes_nothing c.args.self.now _ _ c.self.view_is c.self.invariant.begun
    (sym c.line_text-text.ensures ∙ empty_without_first _ c.in-None.ensures.value)
