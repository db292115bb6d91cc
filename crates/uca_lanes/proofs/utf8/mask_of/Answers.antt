use Rattle.uca_lanes.proofs.MaskSteps.{compared_to, of_bound}
use Rattle.std.proofs.Common.{◌<◌, ◌^◌, sym, subst, ℕ}
use Rattle.uca_lanes.proofs.utf8.mask_of.Goals as goal

pub returns-clause-mask : goal.returns-clause-mask
returns-clause-mask c = compared_to c.args.byte c.args.bytes c.fits-bytes.0

pub returns-clause-bound : goal.returns-clause-bound
returns-clause-bound c =
    subst (λ (n : ℕ). n < 2 ^ 16) (sym (compared_to c.args.byte c.args.bytes c.fits-bytes.0)) (of_bound c.args.byte c.args.bytes c.fits-bytes.0)
