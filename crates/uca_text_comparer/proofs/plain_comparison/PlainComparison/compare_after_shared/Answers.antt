use Rattle.std.proofs.Common.{Option, subst}
use Rattle.std.specs.Prelude.{IfSome}
use Rattle.std.specs.Str.{chars}
use Rattle.uca_elements.specs.Collations.{collation_of}
use Rattle.uca_text_comparer.specs.declared.shared.Rest.{Rest}
use Rattle.uca_text_comparer.specs.inside.Shared.{IsRest}
use Rattle.uca_plain.proofs.Results.{no_result}
use Rattle.uca_text_comparer.proofs.plain_comparison.PlainComparison.compare_after_shared.Goals as goal

pub returns-in_err-rest : goal.returns-in_err-rest
returns-in_err-rest g c = record {
  entries = c.skip_shared.ensures.entries;
  compared = no_result c.from_residual.result _ c.from_residual.ensures.0;
}

pub returns-in_default : goal.returns-in_default
returns-in_default g c = record { entries = c.skip_shared.ensures.entries; compared = tt }

pub returns-in-Some-compare_primaries : goal.returns-in-Some-compare_primaries
returns-in-Some-compare_primaries g c =
    let collation = collation_of g.L.Lookup.content c.args.collator.now in
    let xs = chars c.args.left.now in
    let ys = chars c.args.right.now in
    let rest = subst (λ (o : Option Rest). IfSome o (λ (r : Rest). IsRest collation xs ys (chars r.left.now) (chars r.right.now) r.after_variable r.passed))
    c.in-Some.is c.in_ok-rest.ensures.rest in
    record {
      entries = c.skip_shared.ensures.entries;
      compared = c.in-Some-compare_primaries.ensures collation xs ys c.skip_shared.ensures.entries rest;
    }

pub returns-in-None : goal.returns-in-None
returns-in-None g c =
    let collation = collation_of g.L.Lookup.content c.args.collator.now in
    let xs = chars c.args.left.now in
    let ys = chars c.args.right.now in
    let rest = subst (λ (o : Option Rest). IfSome o (λ (r : Rest). IsRest collation xs ys (chars r.left.now) (chars r.right.now) r.after_variable r.passed))
    c.in-Some.is c.in_ok-rest.ensures.rest in
    record { entries = c.compare_rest.ensures.entries; compared = c.compare_rest.ensures.compared xs ys rest }
