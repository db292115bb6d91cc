use Rattle.std.proofs.Common.{subst}
use Rattle.std.specs.Bool.{OnTrue}
use Rattle.std.specs.Str.{chars}
use Rattle.uca_elements.specs.Collations.{collation_of}
use Rattle.uca_text_comparer.specs.inside.Shared.{HasElements}
use Rattle.uca_plain.proofs.Results.{no_result}
use Rattle.uca_text_comparer.proofs.PlainComparisons.{both_read}
use Rattle.uca_text_comparer.proofs.plain_comparison.PlainComparison.read_rest.Goals as goal

pub returns-in_err-read_plain : goal.returns-in_err-read_plain
returns-in_err-read_plain g c = record { entries = c.read_plain.ensures.entries; read = no_result c.from_residual.result _ c.from_residual.ensures.0 }

pub returns-then-not-branch : goal.returns-then-not-branch
returns-then-not-branch g c = record { entries = c.read_plain.ensures.entries; read = tt }

pub returns : goal.returns
returns g c =
    let collation = collation_of g.L.Lookup.content c.args.collator.now in
    let left = subst (λ b. OnTrue b (HasElements collation (chars c.args.rest.now.left.now) c.read_plain.new.elements.items)) c.if-not-branch.false
    c.in_ok-read_plain.ensures.read in
    record {
      entries = c.read_plain-2.ensures.entries;
      read = both_read _ _ c.read_plain-2.result left c.read_plain-2.ensures.read;
    }
