use Rattle.std.proofs.Common.{ℕ, ◌≡◌, ◌+◌, ◌-◌, ◌*◌, ◌/◌, ◌^◌, length, ap, ap₂, ◌∙◌, arith}
use Rattle.std.specs.Simd.Lanes.{number_l, digits_l}
use Rattle.uca_lanes.proofs.MaskSteps.{halves, spelled, two_shifts}
use Rattle.uca_lanes.proofs.utf8.with_zeros.Goals as goal

pub returns-then-len-lt8 : goal.returns-then-len-lt8
returns-then-len-lt8 c =
    let bytes = c.args.bytes.now in
    let e : c.number_of_few.result + 0 ≡ number_l 256 bytes = omega (arith, c.number_of_few.ensures) in
    ap (digits_l 256 16) e ∙ spelled 16 bytes c.type_inv.bytes c.requires

pub returns : goal.returns
returns c =
    let bytes = c.args.bytes.now in
    let one = c.number_of_eight.result in
    let half = 4 * (16 - length bytes) in
    let after = one / 2 ^ half / 2 ^ half in
    let turned : c.number_of_eight-2.result + 18446744073709551616 * (after + 0) ≡ c.number_of_eight-2.result + after * 18446744073709551616 = omega arith in
    let e = turned
    ∙ ap (λ (n : ℕ). c.number_of_eight-2.result + n * 18446744073709551616) (two_shifts one (16 - length bytes))
    ∙ ap₂ (λ (m n : ℕ). m + n / 2 ^ (8 * (16 - length bytes)) * 18446744073709551616) c.number_of_eight-2.ensures c.number_of_eight.ensures
    ∙ halves 8 (16 - length bytes) bytes c.type_inv.bytes (omega (arith, c.if-len-lt8.false)) (omega (arith, c.requires)) in
    ap (digits_l 256 16) e ∙ spelled 16 bytes c.type_inv.bytes c.requires
