use Rattle.std.proofs.Common.{◌≡◌, ◌*◌, length, take, arith, ap, ◌∙◌, refl, length-set}
use Rattle.uca_run_parts.proofs.PrintLemmas.{digits_of_one_more, digits_of_all}
use Rattle.uca_run_parts.proofs.print.digits_in.Goals as goal

pub loop-number-init : goal.loop-number-init
loop-number-init c = record { long = c.told-digits; written = refl }

pub loop-number-preserved : goal.loop-number-preserved
loop-number-preserved c =
    let i = c.loop-number.invariant in
    record {
      long = length-set c.loop-number.digits c.loop-number.number _ ∙ i.long;
      written = digits_of_one_more _ _ _ c.loop-number.number (omega arith) (omega arith) i.written c.digits_of.ensures;
    }

pub returns : goal.returns
returns c =
    let n : c.loop-number.number ≡ length c.args.part.now = omega arith in
    ap (take (2 * length c.args.part.now)) c.as_flattened.ensures.value
    ∙ digits_of_all c.loop-number.digits c.args.part.now c.loop-number.number (2 * length c.args.part.now) n refl c.loop-number.invariant.written
