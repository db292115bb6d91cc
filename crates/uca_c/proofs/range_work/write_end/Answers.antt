-- Where memory runs out, the text is accepted.
use Rattle.std.proofs.Common.{refl, inr}
use Rattle.uca_c.specs.declared.statuses.TheConstants.{MEMORY}
use Rattle.uca_c.specs.OpenCollators.{keying_at}
use Rattle.uca_c.proofs.KeyTexts.{key_status_by}
use Rattle.uca_c.proofs.range_work.write_end.Goals as goal

pub returns-in-Err-last_end-clause-rejected : goal.returns-in-Err-last_end-clause-rejected
returns-in-Err-last_end-clause-rejected c asked = key_status_by (keying_at c.args.collator.now) c.args.text.now MEMORY c.in_default-make_key.ensures.accepted (inr (inr refl))
