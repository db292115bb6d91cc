-- The zeros after the left text part it from the right one.
use Rattle.std.proofs.Common.{◌≡◌, ◌∙◌, false, true, min, ap, refl, arith}
use Rattle.uca_lanes.proofs.ShortTexts.{both_texts, shared_of_padded}
use Rattle.uca_lanes.proofs.short.shared_of_short.Goals as goal

pub returns-then-not-are_utf8 : goal.returns-then-not-are_utf8
returns-then-not-are_utf8 c = λ few few_too both.
    let judged = both_texts c.args.left.now c.args.right.now c.with_zeros-one.result c.with_zeros-other.result few c.with_zeros-one.ensures c.with_zeros-other.ensures in
    let wrong : false ≡ true = c.if-not-are_utf8.ensures.1 (judged.1 both) in absurd cc

pub returns : goal.returns
returns c =
    let left = c.args.left.now in
    let right = c.args.right.now in
    let few = c.if-left-gt-SHORT.false in
    let few_too = c.if-right-gt-SHORT.false in
    let judged = both_texts left right c.with_zeros-one.result c.with_zeros-other.result (omega (arith, few)) c.with_zeros-one.ensures c.with_zeros-other.ensures in
    let texts = judged.0 (c.if-not-are_utf8.ensures.0 refl) in (
      omega (arith, few),
      omega (arith, few_too),
      texts.0,
      texts.1,
      shared_of_padded left right c.with_zeros-one.result c.with_zeros-other.result c.same_of_sixteen-same.result c.min.result
          (omega (arith, few)) (omega (arith, few_too)) c.with_zeros-one.ensures c.with_zeros-other.ensures c.same_of_sixteen-same.ensures
          (c.min.ensures ∙ ap (min c.same_of_sixteen-same.result) c.min-most.ensures),
    )
