use Rattle.std.proofs.Common.{refl, inr}
use Rattle.uca_text.specs.declared.normalize.TextFault.TheVariants.{Memory}
use Rattle.uca_owned.specs.declared.faults.KeyFault.TheVariants.{Text}
use Rattle.uca_c.proofs.work.write_joined.Goals as goal

pub returns-in-Err-clause-rejected : goal.returns-in-Err-clause-rejected
returns-in-Err-clause-rejected c = inr (record { fault = Text Memory; cause = (c.in-Err.ensures.utf8, tt); same = refl })
