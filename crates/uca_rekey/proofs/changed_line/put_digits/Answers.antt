-- Two more digits, and all of them.
use Rattle.std.proofs.Common.{◌+◌, ◌*◌, ◌∷◌, [], ℕ, List, get_or, length-set, ap, sym, ◌∙◌, arith}
use Rattle.uca_run_parts.specs.Print.{byte_digits}
use Rattle.uca_compact.proofs.TwoBytes.{pair_put, pairs_put}
use Rattle.uca_rekey.proofs.changed_line.put_digits.Goals as goal

pub loop-number-preserved : goal.loop-number-preserved
loop-number-preserved c =
    let i = c.loop-number.invariant in
    let pair = c.digits_of.result in
    record {
      long = length-set _ (2 * c.loop-number.number + 1) _ ∙ length-set c.loop-number.digits (2 * c.loop-number.number) _ ∙ i.long;
      written = pair_put byte_digits [] c.loop-number.digits c.args.key.now 0 (let h = i.long in omega (arith, h)) (2 * c.loop-number.number) (2 * (c.loop-number.number + 1)) c.loop-number.number (get_or pair 0 0) (get_or pair 1 0)
          (omega arith) (omega arith) (omega arith) i.written
          (sym (ap (λ (pair : List ℕ). get_or pair 0 0 ∷ get_or pair 1 0 ∷ []) c.digits_of.ensures));
    }

pub returns : goal.returns
returns c =
    let i = c.loop-number.invariant in
    pairs_put byte_digits [] c.loop-number.digits c.args.key.now 0 (let h = i.long in omega (arith, h)) (2 * c.loop-number.number) c.loop-number.number (omega arith) (omega arith) i.written
