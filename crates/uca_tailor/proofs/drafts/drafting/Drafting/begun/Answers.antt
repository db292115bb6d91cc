use Rattle.std.proofs.Common.{◌++◌, map, ap, ◌∙◌}
use Rattle.uca_plans.specs.Drafts.{row_as_draft}
use Rattle.uca_tailor.proofs.drafts.drafting.Drafting.begun.Goals as goal

pub returns-in-Ok-clause-rows : goal.returns-in-Ok-clause-rows
returns-in-Ok-clause-rows g c = c.in-Ok.ensures ∙ ap (λ rows. rows ++ map row_as_draft c.args.base.now) c.in_ok-rows.ensures.items
