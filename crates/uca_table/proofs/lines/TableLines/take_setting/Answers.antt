-- A setting that may come there follows the version.
use Rattle.uca_table.specs.TableLines.{ForSetting}
use Rattle.uca_table.proofs.TakeLaws.{takes_setting, keeps_setting, out_of_order, setting_fault}
use Rattle.uca_table.proofs.lines.TableLines.take_setting.Goals as goal

pub returns-then-not-is_setting_due-clause-fault : goal.returns-then-not-is_setting_due-clause-fault
returns-then-not-is_setting_due-clause-fault g c =
    out_of_order c.args.self.now c.args.text.now ForSetting c.is_setting_due.result c.requires c.is_setting_due.ensures c.if-not-is_setting_due.true

pub returns-in_default-clause-fault : goal.returns-in_default-clause-fault
returns-in_default-clause-fault g c =
    setting_fault c.args.self.now c.args.text.now c.argument.result.now (c.is_setting_due.ensures.0 c.if-not-is_setting_due.false) c.requires
    c.argument.ensures c.in_default.ensures

pub invariant_of-self : goal.invariant_of-self
invariant_of-self g c =
    keeps_setting _ _ _ c.args.self.now c.args.text.now _ c.self.invariant
    (takes_setting c.args.self.now _ c.args.text.now c.argument.result.now c.in-Some.setting c.self.view_is c.self.invariant.begun
    (c.is_setting_due.ensures.0 c.if-not-is_setting_due.false) c.requires c.argument.ensures c.in-Some.ensures)

pub returns-clause-ok : goal.returns-clause-ok
returns-clause-ok g c =
    takes_setting c.args.self.now _ c.args.text.now c.argument.result.now c.in-Some.setting c.self.view_is c.self.invariant.begun
    (c.is_setting_due.ensures.0 c.if-not-is_setting_due.false) c.requires c.argument.ensures c.in-Some.ensures
