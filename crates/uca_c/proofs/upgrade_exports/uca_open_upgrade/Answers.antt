-- What is kept in the caller's upgrade is what was opened, or memory ran out once all files were read.
use Rattle.std.proofs.Common.{◌∙◌, inl, inr, subst, sym}
use Rattle.uca_upgrade.specs.Opening.{IsUpgradeOf}
use Rattle.uca_upgrade.specs.declared.faults.UpgradeFault.TheVariants.{Memory}
use Rattle.uca_c.specs.UpgradeCalls.{files_of}
use Rattle.uca_c.proofs.upgrade_exports.uca_open_upgrade.Goals as goal

pub returns-in-Ok-clause-only : goal.returns-in-Ok-clause-only
returns-in-Ok-clause-only c asked change closed asks =
    let files = files_of c.args.old_table c.args.old_data c.args.new_table c.args.new_data c.args.changes c.args.certificate in
    elim c.keep.ensures.statuses [
      | inl is ↦ inl (is, subst (IsUpgradeOf files change asked) (sym (c.keep.ensures.value is ∙ c.new.ensures)) (c.in-Ok.ensures.only asked change asks))
      | inr is ↦ inr (record { fault = Memory; cause = (tt, c.in-Ok.ensures.no_error); same = is })
    ]

pub returns-in-Ok-clause-rejected : goal.returns-in-Ok-clause-rejected
returns-in-Ok-clause-rejected c not_ok _ =
    let found = c.in-Ok.ensures.found in
    let opens = found.opens in
    elim c.keep.ensures.statuses [
      | inl is ↦ absurd (not_ok is)
      | inr is ↦ inr (found.asked, found.is_asked, record { fault = Memory; cause = ((opens.0, opens.1), c.in-Ok.ensures.no_error); same = is })
    ]

pub returns-in-Err-clause-only : goal.returns-in-Err-clause-only
returns-in-Err-clause-only c asked change closed asks = inr (c.in-Err.ensures.only asked change asks)
