-- The numbers are those of the settings.
use Rattle.std.proofs.Common.{refl}
use Rattle.std.specs.Str.{chars}
use Rattle.uca_weights.specs.declared.Numbers.TheVariants.{AsText, ByValue}
use Rattle.uca_elements.specs.Collations.{collation_of}
use Rattle.uca_text_comparer.proofs.PairSteps.{answer_with}
use Rattle.uca_text_comparer.proofs.comparison.TextComparison.compare.Goals as goal

pub returns-in-AsText : goal.returns-in-AsText
returns-in-AsText g c =
    let answer = answer_with (collation_of g.L.Lookup.content c.args.collator.now) c.args.settings AsText (chars c.args.left.now) (chars c.args.right.now)
    c.compare_as_text.result c.in-AsText.is c.compare_as_text.ensures.compared c.compare_as_text.ensures.fault in
    record {
      known = c.compare_as_text.ensures.known;
      heads = refl;
      compared = answer.compared;
      fetched = answer.fetched;
      accepted = answer.accepted;
      fault = answer.fault;
    }

pub returns-in-ByValue : goal.returns-in-ByValue
returns-in-ByValue g c =
    let answer = answer_with (collation_of g.L.Lookup.content c.args.collator.now) c.args.settings ByValue (chars c.args.left.now) (chars c.args.right.now)
    c.compare_by_value.result c.in-ByValue.is c.compare_by_value.ensures.compared c.compare_by_value.ensures.fault in
    record {
      known = c.compare_by_value.ensures.known;
      heads = c.compare_by_value.ensures.heads;
      compared = answer.compared;
      fetched = answer.fetched;
      accepted = answer.accepted;
      fault = answer.fault;
    }
