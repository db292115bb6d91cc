-- The header that was read is the one that is seen.
use Rattle.std.proofs.Common.{◌∙◌, ap}
use Rattle.uca_weights.specs.AskedSettings.{settings_by}
use Rattle.uca_values.specs.Content.{HeaderContent}
use Rattle.uca_upgrade.proofs.opening.settings_under.Goals as goal

pub returns : goal.returns
returns c = c.settings.ensures ∙ ap (λ (h : HeaderContent). settings_by c.args.asked h.setting) c.header.view_is
