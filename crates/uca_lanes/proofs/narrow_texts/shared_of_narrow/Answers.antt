use Rattle.std.proofs.Common.{◌≡◌, false, true, refl, arith}
use Rattle.uca_lanes.proofs.ShortTexts.{none_early, shared_of_first}
use Rattle.uca_lanes.proofs.narrow_texts.shared_of_narrow.Goals as goal

pub returns-then-not-are_narrow_texts : goal.returns-then-not-are_narrow_texts
returns-then-not-are_narrow_texts c = λ at early.
    let wrong : false ≡ true = c.if-not-are_narrow_texts.ensures.1 ((early.utf8.0, early.narrow.0), (early.utf8.1, early.narrow.1)) in absurd cc

pub returns-then-at-min : goal.returns-then-at-min
returns-then-at-min c =
    none_early c.args.left.now c.args.right.now c.same_of_first-at.result c.same_of_first-at.ensures (omega (arith, c.if-at-min.true, c.min.ensures))

pub returns : goal.returns
returns c =
    let both = c.if-not-are_narrow_texts.ensures.0 refl in
    let below = c.if-at-min.false in
    record {
      few = (omega (arith, c.if-left-gt-AT_ONCE.false), omega (arith, c.if-right-gt-AT_ONCE.false));
      utf8 = (both.0.0, both.1.0);
      narrow = (both.0.1, both.1.1);
      shared = shared_of_first c.args.left.now c.args.right.now c.same_of_first-at.result c.same_of_first-at.result c.same_of_first-at.ensures
          (omega (arith, below, c.min.ensures));
      more = (omega (arith, below, c.min.ensures), omega (arith, below, c.min.ensures));
    }
