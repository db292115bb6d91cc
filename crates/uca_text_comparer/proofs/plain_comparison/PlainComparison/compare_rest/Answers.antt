use Rattle.std.proofs.Common.{subst, ◌∙◌}
use Rattle.std.specs.Bool.{OnTrue}
use Rattle.std.specs.Str.{chars}
use Rattle.uca_elements.specs.Collations.{collation_of}
use Rattle.uca_text_comparer.specs.inside.Shared.{HasElements}
use Rattle.uca_plain.proofs.Results.{no_result}
use Rattle.uca_text_comparer.proofs.PlainComparisons.{rest_compared}
use Rattle.uca_text_comparer.proofs.plain_comparison.PlainComparison.compare_rest.Goals as goal

pub returns-in_err-read_rest : goal.returns-in_err-read_rest
returns-in_err-read_rest g c = record {
  entries = c.read_rest.ensures.entries;
  compared = λ xs ys rest. no_result c.from_residual.result _ c.from_residual.ensures.0;
}

pub returns-clause-compared : goal.returns-clause-compared
returns-clause-compared g c = λ xs ys rest.
    let collation = collation_of g.L.Lookup.content c.args.collator.now in
    let left = chars c.args.rest.now.left.now in
    let right = chars c.args.rest.now.right.now in
    let read = subst (λ b. OnTrue b (HasElements collation left c.read_rest.new.self.left.items × HasElements collation right c.read_rest.new.self.right.items))
    c.if-not-branch.false c.in_ok-read_rest.ensures.read in
    rest_compared collation c.args.weighting xs ys left right c.args.rest.now.after_variable c.args.rest.now.passed
    c.deref.result.now c.deref-2.result.now c.compare_elements.result rest read.0.0 read.1.0 (c.deref.ensures.value ∙ read.0.1)
    (c.deref-2.ensures.value ∙ read.1.1) c.compare_elements.ensures
