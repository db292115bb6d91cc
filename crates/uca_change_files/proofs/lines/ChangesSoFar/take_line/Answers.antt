use Rattle.std.proofs.Common.{inr, inl, refl, arith}
use Rattle.std.proofs.lemmas.Grind.{common_steps}
use Rattle.uca_change_files.specs.Steps.{SpellsText, SpellsRange}
use Rattle.uca_change_files.proofs.LineLaws.{line_of_text, line_of_range, line_takes, line_refused, no_item}
use Rattle.uca_change_files.proofs.lines.ChangesSoFar.take_line.Goals as goal

pub returns-in-Some-clause-ok : goal.returns-in-Some-clause-ok
returns-in-Some-clause-ok g c =
    line_takes SpellsText c.args.line.now c.in-Some.spelled.now c.args.self.now.started c.args.self.now.list c.add_text.new.list c.add_text.result
    (line_of_text c.args.line.now c.in-Some.spelled.now c.in-Some.ensures) c.if-not-self.false c.add_text.ensures.ok

pub returns-in-Some-clause-fault : goal.returns-in-Some-clause-fault
returns-in-Some-clause-fault g c =
    line_refused SpellsText c.args.line.now c.in-Some.spelled.now c.args.self.now.started c.args.self.now.list c.add_text.result
    (line_of_text c.args.line.now c.in-Some.spelled.now c.in-Some.ensures) c.if-not-self.false c.add_text.ensures.fault

pub returns-in-Some-after-clause-ok : goal.returns-in-Some-after-clause-ok
returns-in-Some-after-clause-ok g c =
    line_takes SpellsRange c.args.line.now c.in-Some-after.spelled.now c.args.self.now.started c.args.self.now.list c.add_range.new.list c.add_range.result
    (line_of_range c.args.line.now c.in-Some-after.spelled.now c.in-Some-after.ensures) c.if-not-self.false c.add_range.ensures.ok

pub returns-in-Some-after-clause-fault : goal.returns-in-Some-after-clause-fault
returns-in-Some-after-clause-fault g c =
    line_refused SpellsRange c.args.line.now c.in-Some-after.spelled.now c.args.self.now.started c.args.self.now.list c.add_range.result
    (line_of_range c.args.line.now c.in-Some-after.spelled.now c.in-Some-after.ensures) c.if-not-self.false c.add_range.ensures.fault

pub returns-clause-fault : goal.returns-clause-fault
returns-clause-fault g c =
    inr (inr (inl (refl, c.if-not-self.false, no_item c.args.line.now c.in_default.ensures c.in_default-after.ensures)))

pub returns-then-ne-clause-fault : goal.returns-then-ne-clause-fault
returns-then-ne-clause-fault g c = grind (arith, common_steps)
