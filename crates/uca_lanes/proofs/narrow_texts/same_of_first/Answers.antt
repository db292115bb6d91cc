use Rattle.std.proofs.Common.{ℕ, ◌/◌, bit_xor, ap₂, sym, subst}
use lib.Count.{count_trailing_zeros}
use Rattle.uca_lanes.specs.inside.Ends.{first_eight}
use Rattle.uca_lanes.specs.inside.Lanes.{IsSameRun}
use Rattle.uca_lanes.proofs.SameBytes.{first_are, first_long, same_by_bits}
use Rattle.uca_lanes.proofs.narrow_texts.same_of_first.Goals as goal

pub returns : goal.returns
returns c =
    let left = c.args.left.now in
    let right = c.args.right.now in
    subst (λ (n : ℕ). IsSameRun (first_eight left) (first_eight right) 0 0 8 (count_trailing_zeros 64 n / 8))
    (sym (ap₂ bit_xor c.number_of_first.ensures c.number_of_first-2.ensures))
    (same_by_bits 8 (first_eight left) (first_eight right) (first_are left c.type_inv.left) (first_are right c.type_inv.right) (first_long left) (first_long right))
