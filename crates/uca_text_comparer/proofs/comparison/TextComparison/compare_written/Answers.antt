-- At the depth `Weights` the texts compare as those that were written.
use Rattle.std.proofs.Common.{◌≡◌, ap, ◌∙◌, rules}
use Rattle.std.specs.Prelude.{IfOk, IfErr}
use Rattle.std.specs.Str.{chars}
use Rattle.uca_weights.specs.declared.Depth.TheVariants.{Weights}
use Rattle.uca_text.specs.Texts.{nfd_text}
use Rattle.uca_elements.specs.Collations.{collation_of}
use Rattle.uca_numbers.specs.Texts.{by_value}
use Rattle.uca_text_comparer.specs.Causes.{IsPairCause}
use Rattle.uca_text_comparer.specs.inside.Pairs.{ComparesAs}
use Rattle.uca_text_comparer.proofs.PairSteps.{of_both, weights_of_read}
use Rattle.uca_text_comparer.proofs.comparison.TextComparison.compare_written.Goals as goal

pub returns : goal.returns
returns g c =
    let by = collation_of g.L.Lookup.content c.args.collator.now in
    let r = c.compare_as_text.result in
    let xs = chars c.args.left.now in
    let ys = chars c.args.right.now in
    let us = chars c.as_str.result.now in
    let vs = chars c.as_str-2.result.now in
    let left : us ≡ by_value xs = ap chars c.as_str.ensures ∙ c.in_ok-renew.ensures in
    let right : vs ≡ by_value ys = ap chars c.as_str-2.ensures ∙ c.in_ok-renew-2.ensures in
    record {
      known = c.compare_as_text.ensures.known;
      heads = search rules;
      compared = of_both (λ l m. IfOk r (ComparesAs by c.args.weighting Weights l m xs ys)) left right
          (weights_of_read by c.args.weighting us vs us vs xs ys r c.compare_as_text.ensures.compared);
      fault = of_both (λ l m. IfErr r (IsPairCause (nfd_text by.properties l) (nfd_text by.properties m))) left right c.compare_as_text.ensures.fault;
    }
