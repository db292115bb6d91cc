use Rattle.std.proofs.Common.{ℕ, ◌+◌, ◌-◌, ◌*◌, ◌/◌, ◌^◌, length, ap₂, ◌∙◌, arith}
use Rattle.uca_lanes.proofs.MaskSteps.{halves}
use Rattle.uca_lanes.proofs.utf8.number_of_few.Goals as goal

pub returns-then-len-ge4 : goal.returns-then-len-ge4
returns-then-len-ge4 c =
    let bytes = c.args.bytes.now in
    ap₂ (λ (m n : ℕ). m + n / 2 ^ (8 * (8 - length bytes)) * 4294967296) c.number_of_four-then-len-ge4.ensures.number c.number_of_four.ensures.number
    ∙ halves 4 (8 - length bytes) bytes c.type_inv.bytes c.if-len-ge4.true (omega (arith, c.requires))

pub returns-then-len-ge2 : goal.returns-then-len-ge2
returns-then-len-ge2 c =
    let bytes = c.args.bytes.now in
    ap₂ (λ (m n : ℕ). m + n / 2 ^ (8 * (4 - length bytes)) * 65536) c.number_of_two-then-len-ge2.ensures.number c.number_of_two.ensures.number
    ∙ halves 2 (4 - length bytes) bytes c.type_inv.bytes c.if-len-ge2.true (omega (arith, c.if-len-ge4.false))
