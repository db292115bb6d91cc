-- The texts are compared as they are, or by value, and then by their code points.
use Rattle.std.proofs.Common.{◌≡◌, true, ap, sym, rules}
use Rattle.std.specs.Prelude.{IfOk, IfErr}
use Rattle.std.specs.Str.{chars}
use Rattle.std.proofs.lemmas.Bool.{OnTrue_at}
use Rattle.uca_text.specs.Texts.{nfd_text}
use Rattle.uca_elements.specs.Collations.{collation_of}
use Rattle.uca_numbers.specs.Texts.{by_value}
use Rattle.uca_text_comparer.specs.Causes.{IsPairCause}
use Rattle.uca_text_comparer.specs.inside.Pairs.{ComparesAs}
use Rattle.uca_text_comparer.proofs.PairSteps.{of_both, pair_decided, pair_by_points}
use Rattle.uca_text_comparer.proofs.comparison.TextComparison.compare_by_value.Goals as goal

-- neither text has a digit
pub returns-then-has_no_digit-2 : goal.returns-then-has_no_digit-2
returns-then-has_no_digit-2 g c =
    let by = collation_of g.L.Lookup.content c.args.collator.now in
    let r = c.compare_as_text.result in
    let xs = chars c.args.left.now in
    let ys = chars c.args.right.now in
    let left_has_none : c.has_no_digit.result ≡ true = search rules in
    let right_has_none : c.has_no_digit-then-has_no_digit.result ≡ true = search rules in
    let left : xs ≡ by_value xs = sym (OnTrue_at left_has_none c.has_no_digit.ensures) in
    let right : ys ≡ by_value ys = sym (OnTrue_at right_has_none c.has_no_digit-then-has_no_digit.ensures) in
    record {
      known = c.compare_as_text.ensures.known;
      heads = search rules;
      compared = of_both (λ l m. IfOk r (ComparesAs by c.args.weighting c.args.depth l m xs ys)) left right c.compare_as_text.ensures.compared;
      fault = of_both (λ l m. IfErr r (IsPairCause (nfd_text by.properties l) (nfd_text by.properties m))) left right c.compare_as_text.ensures.fault;
    }

pub returns-then-is_decided-clause-compared : goal.returns-then-is_decided-clause-compared
returns-then-is_decided-clause-compared g c =
    let by = collation_of g.L.Lookup.content c.args.collator.now in
    let xs = chars c.args.left.now in
    let ys = chars c.args.right.now in
    pair_decided by c.args.weighting c.args.depth (by_value xs) (by_value ys) xs ys c.args.left.now c.args.right.now c.in_ok-compared.compared
    c.if-is_decided.ensures (λ e. ap chars e) c.in_ok-compared.ensures.compared

pub returns-clause-compared : goal.returns-clause-compared
returns-clause-compared g c =
    let by = collation_of g.L.Lookup.content c.args.collator.now in
    let xs = chars c.args.left.now in
    let ys = chars c.args.right.now in
    pair_by_points by c.args.weighting c.args.depth (by_value xs) (by_value ys) xs ys c.in_ok-compared.compared _ _
    c.if-is_decided.ensures.0 c.if-is_decided.ensures.1 c.in_ok-compared.ensures.compared c.in_ok-order.ensures
