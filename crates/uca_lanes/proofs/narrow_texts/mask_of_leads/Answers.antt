use Rattle.std.proofs.Common.{◌<◌, ◌^◌, ℕ, sym, subst}
use Rattle.uca_lanes.proofs.Ends.{leads_bound, leads_compared}
use Rattle.uca_lanes.proofs.narrow_texts.mask_of_leads.Goals as goal

pub returns-clause-mask : goal.returns-clause-mask
returns-clause-mask c = leads_compared c.args.bytes c.fits-bytes.0

pub returns-clause-bound : goal.returns-clause-bound
returns-clause-bound c = subst (λ (n : ℕ). n < 2 ^ 16) (sym (leads_compared c.args.bytes c.fits-bytes.0)) (leads_bound c.args.bytes c.fits-bytes.0)
