use Rattle.std.proofs.Common.{arith}
use Rattle.uca_lanes.proofs.MaskSteps.{two_eights}
use Rattle.uca_lanes.proofs.narrow_texts.ends_of.Goals as goal

pub returns : goal.returns
returns c =
    let bytes = c.args.bytes.now in
    let some = c.if-len-lt8.false in
    record {
      few = λ less. absurd (omega (arith, less, some));
      many = λ _. two_eights bytes c.number_of_eight.result c.number_of_eight-2.result c.type_inv.bytes (omega (arith, some)) c.number_of_eight.ensures c.number_of_eight-2.ensures;
    }
