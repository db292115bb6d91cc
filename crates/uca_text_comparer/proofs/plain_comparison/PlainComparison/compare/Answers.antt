use Rattle.std.proofs.Common.{Some, arith}
use Rattle.uca_elements.specs.Collations.{collation_of}
use Rattle.uca_text_comparer.proofs.PlainComparisons.{accepted_found, accepted_compared}
use Rattle.uca_text_comparer.proofs.plain_comparison.PlainComparison.compare.Goals as goal

pub returns-in-Some : goal.returns-in-Some
returns-in-Some g c = record {
  entries = c.requires;
  compared = accepted_found (collation_of g.L.Lookup.content c.args.collator.now) c.args.weighting c.args.left.now c.args.right.now (Some c.in-Some.walked)
      c.utf8.left c.utf8.right (omega arith) (omega arith) (c.in-Some.ensures (collation_of g.L.Lookup.content c.args.collator.now) c.requires);
}

pub returns : goal.returns
returns g c = record {
  entries = c.compare_after_shared.ensures.entries;
  compared = accepted_compared (collation_of g.L.Lookup.content c.args.collator.now) c.args.weighting c.args.left.now c.args.right.now
      c.compare_after_shared.result c.utf8.left c.utf8.right (omega arith) (omega arith) c.compare_after_shared.ensures.compared;
}
