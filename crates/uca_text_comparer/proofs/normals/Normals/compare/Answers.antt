use Rattle.std.proofs.Common.{◌≡◌, ◌∙◌, ap, subst, rules}
use Rattle.std.specs.Str.{chars}
use Rattle.unicode_normalization.specs.Forms.{nfd}
use Rattle.uca_text.specs.Texts.{nfd_text}
use Rattle.uca_text.specs.Limits.{IsAccepted}
use Rattle.uca_elements.specs.Collations.{collation_of}
use Rattle.uca_order.specs.Depths.{read_text}
use Rattle.uca_comparison.proofs.Counts.{counted_from_none}
use Rattle.uca_comparison.proofs.ComparisonLemmas.{compares_at, same_decides, itself_and_same}
use Rattle.uca_text_comparer.proofs.normals.Normals.compare.Goals as goal

-- the texts are equal
pub returns-then-eq-clause-compared : goal.returns-then-eq-clause-compared
returns-then-eq-clause-compared g c =
    let by = collation_of g.L.Lookup.content c.args.collator.now in
    let weighting = c.args.weighting in
    let xs = chars c.args.left.now in
    let ys = chars c.args.right.now in
    let text = c.renew.new.self in
    let found = c.in_default.ensures.found in
    let keeps = c.renew.ensures.accepted in
    let walked = c.compare_itself-walked.result in
    let same : c.args.left.now ≡ c.args.right.now = search rules in
    let also = found ∙ ap (λ l. nfd_text by.properties (chars l)) same in
    let levels = itself_and_same by weighting text c.args.left.now c.args.right.now walked found same c.compare_itself-walked.ensures in
    let compared = compares_at c.args.depth weighting (read_text by (nfd_text by.properties xs)) (read_text by (nfd_text by.properties ys))
    c.args.left.now c.args.right.now walked levels (same_decides walked.order c.args.depth c.args.left.now c.args.right.now same)
    (λ e. ap (λ l. nfd (chars l)) e) in
    record {
      order_is = c.compared_of.ensures.order ∙ compared.0;
      level_is = c.compared_of.ensures.level ∙ compared.1;
      left_is = c.compared_of.ensures.fetched_left ∙ (levels.left_is ∙ counted_from_none _);
      right_is = c.compared_of.ensures.fetched_right ∙ (levels.right_is ∙ counted_from_none _);
      left_accepted = subst IsAccepted found keeps;
      right_accepted = subst IsAccepted also keeps;
    }
