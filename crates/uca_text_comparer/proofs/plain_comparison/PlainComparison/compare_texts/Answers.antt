use Rattle.std.proofs.Common.{◌∙◌, Option, ap, subst}
use Rattle.std.specs.Prelude.{IfSome}
use Rattle.std.specs.Str.{chars}
use Rattle.unicode_normalization.specs.Forms.{nfd}
use Rattle.uca_text.specs.Texts.{nfd_text}
use Rattle.uca_elements.specs.Collations.{collation_of}
use Rattle.uca_comparison.specs.declared.walk.Walked.{Walked}
use Rattle.uca_order.specs.Depths.{read_text}
use Rattle.uca_text_comparer.specs.inside.Shared.{ComparesAccepted}
use Rattle.uca_comparison.proofs.Counts.{counted_from_none}
use Rattle.uca_comparison.proofs.ComparisonLemmas.{compares_at}
use Rattle.uca_text_comparer.proofs.plain_comparison.PlainComparison.compare_texts.Goals as goal

pub returns : goal.returns
returns g c =
    let by = collation_of g.L.Lookup.content c.args.collator.now in
    let xs = chars c.args.left.now in
    let ys = chars c.args.right.now in
    let walked = c.in-Some.walked in
    let found = subst (λ (o : Option Walked). IfSome o (ComparesAccepted by c.args.weighting xs ys)) c.in-Some.is c.in_ok-found.ensures.compared in
    let compared = compares_at c.args.depth c.args.weighting (read_text by (nfd_text by.properties xs)) (read_text by (nfd_text by.properties ys))
    c.args.left.now c.args.right.now walked found.levels c.if-is_decided.ensures (λ same. ap (λ l. nfd (chars l)) same) in
    record {
      known = c.compare.ensures.entries;
      compared = (c.compared_of.ensures.order ∙ compared.0, c.compared_of.ensures.level ∙ compared.1);
      fetched = (
        c.compared_of.ensures.fetched_left ∙ (found.levels.left_is ∙ counted_from_none _),
        c.compared_of.ensures.fetched_right ∙ (found.levels.right_is ∙ counted_from_none _),
      );
      accepted = (found.left, found.right);
    }
