-- No weight yet, one more, and all of them.
use Rattle.std.proofs.Common.{◌≡◌, ℕ, ◌+◌, ◌*◌, take, length-set, ap, sym, ◌∙◌, refl, append-nil, arith}
use Rattle.uca_order.specs.Levels.{weight_bytes}
use Rattle.uca_compact.proofs.TwoBytes.{pair_put, pairs_put}
use Rattle.uca_compact.proofs.stored_bytes.put_weights.Goals as goal

pub loop-number-init : goal.loop-number-init
loop-number-init c =
    let none : c.args.start + 2 * 0 ≡ c.args.start = omega arith in
    record { long = c.requires; written = ap (λ (n : ℕ). take n c.args.bytes.now) none ∙ sym (append-nil (take c.args.start c.args.bytes.now)) }

pub loop-number-preserved : goal.loop-number-preserved
loop-number-preserved c =
    let i = c.loop-number.invariant in
    let at = c.args.start + 2 * c.loop-number.number in
    record {
      long = length-set _ (at + 1) _ ∙ length-set c.loop-number.bytes at _ ∙ i.long;
      written = pair_put weight_bytes (take c.args.start c.args.bytes.now) c.loop-number.bytes c.args.weights.now c.args.start i.long
          at (c.args.start + 2 * (c.loop-number.number + 1)) c.loop-number.number _ _ (omega arith) refl refl i.written refl;
    }

pub returns : goal.returns
returns c =
    let i = c.loop-number.invariant in
    pairs_put weight_bytes (take c.args.start c.args.bytes.now) c.loop-number.bytes c.args.weights.now c.args.start i.long
    (c.args.start + 2 * c.loop-number.number) c.loop-number.number (omega arith) refl i.written
