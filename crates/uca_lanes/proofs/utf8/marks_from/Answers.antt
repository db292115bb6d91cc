use Rattle.std.proofs.Common.{ℕ, ◌+◌, ◌*◌, ◌/◌, ◌^◌, leb, ap₂, ◌∙◌}
use Rattle.uca_lanes.proofs.MaskSteps.{joined_masks}
use Rattle.uca_lanes.proofs.utf8.marks_from.Goals as goal

pub returns-clause-marks : goal.returns-clause-marks
returns-clause-marks c =
    ap₂ (λ (m n : ℕ). m + n / 2 ^ c.args.both * 65536) c.mask_from-2.ensures.mask c.mask_from.ensures.mask
    ∙ joined_masks (leb c.args.least) c.args.front c.args.back c.args.both c.fits-front.0
