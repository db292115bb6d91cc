use Rattle.std.proofs.Common.{◌≡◌, rules}
use Rattle.uca_weights.specs.declared.Depth.TheVariants.{Weights, Identical}
use Rattle.uca_elements.specs.Collations.{collation_of}
use Rattle.uca_order.specs.Depths.{read_text}
use Rattle.uca_comparison.proofs.ComparisonLemmas.{points_decide, weights_decide, fetches_all}
use Rattle.uca_comparison.proofs.comparison.compare.Goals as goal

-- the code points decide
pub returns-in-Equal : goal.returns-in-Equal
returns-in-Equal g c =
    let by = collation_of g.L.Lookup.content c.args.collator.now in
    let identical : c.args.depth ≡ Identical = search rules in
    record {
      compared = points_decide c.args.depth c.args.weighting (read_text by c.args.left.now) (read_text by c.args.right.now) c.compare_levels-walked.result
          identical c.in-Equal.is c.compare_levels-walked.ensures _ _ c.compare_points.ensures;
      fetched = fetches_all c.args.weighting _ _ c.compare_levels-walked.result c.compare_levels-walked.ensures;
    }

-- there are no more levels
pub returns-in_default : goal.returns-in_default
returns-in_default g c =
    let by = collation_of g.L.Lookup.content c.args.collator.now in
    let weights : c.args.depth ≡ Weights = search rules in
    record {
      compared = weights_decide c.args.depth c.args.weighting (read_text by c.args.left.now) (read_text by c.args.right.now) c.compare_levels-walked.result
          weights c.compare_levels-walked.ensures;
      fetched = fetches_all c.args.weighting _ _ c.compare_levels-walked.result c.compare_levels-walked.ensures;
    }
