use Rattle.std.proofs.Common.{◌∙◌, min, ap, refl, arith}
use Rattle.uca_lanes.proofs.ShortTexts.{shared_of_fronts}
use Rattle.uca_lanes.proofs.short.shared_of_longer.Goals as goal

pub returns : goal.returns
returns c =
    let same = c.same_of_sixteen-same in (
      omega (arith, c.if-left-gt-AT_ONCE.false),
      omega (arith, c.if-right-gt-AT_ONCE.false),
      c.if-not-is_utf8_after.ensures.0 refl,
      c.if-not-is_utf8_after-2.ensures.0 refl,
      shared_of_fronts c.args.left.now c.args.right.now c.front_of-one.result c.front_of-other.result same.result c.min.result
          c.front_of-one.ensures c.front_of-other.ensures same.ensures (c.min.ensures ∙ ap (min same.result) c.min-shorter.ensures),
    )
