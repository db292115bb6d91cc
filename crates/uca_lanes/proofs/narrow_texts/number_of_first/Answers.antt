use Rattle.std.proofs.Common.{◌≡◌, ◌-◌, ◌++◌, ◌∙◌, ℕ, List, length, take, replicate, take_all, append-nil, ap, sym, arith}
use Rattle.std.specs.Simd.Lanes.{number_l}
use Rattle.uca_lanes.proofs.MaskSteps.{number_with_zeros}
use Rattle.uca_lanes.proofs.narrow_texts.number_of_first.Goals as goal

pub returns-then-bytes-lt8 : goal.returns-then-bytes-lt8
returns-then-bytes-lt8 c =
    let bytes = c.args.bytes.now in
    c.number_of_few.ensures
    ∙ sym (number_with_zeros bytes (8 - length bytes))
    ∙ ap (λ (l : List ℕ). number_l 256 (l ++ replicate (8 - length bytes) 0)) (sym (take_all 8 bytes (omega (arith, c.if-bytes-lt8.true))))

pub returns : goal.returns
returns c =
    let bytes = c.args.bytes.now in
    let none : 8 - length bytes ≡ 0 = omega (arith, c.if-bytes-lt8.false) in
    c.number_of_eight.ensures ∙ ap (number_l 256) (sym (append-nil (take 8 bytes)) ∙ ap (λ (n : ℕ). take 8 bytes ++ replicate n 0) (sym none))
