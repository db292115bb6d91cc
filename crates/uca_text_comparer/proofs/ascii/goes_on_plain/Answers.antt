use Rattle.std.proofs.Common.{ap, arith, subst, sym, ◌∙◌}
use Rattle.std.specs.Str.{chars}
use Rattle.std.proofs.lemmas.Str.{chars-nil}
use Rattle.std.proofs.lemmas.List.{drop_all}
use Rattle.uca_text_comparer.specs.inside.Shared.{BeginsPlain}
use Rattle.uca_text_comparer.proofs.ascii.goes_on_plain.Goals as goal

pub returns-then-at-text : goal.returns-then-at-text
returns-then-at-text c = λ collation weighting heads.
    let past = drop_all c.args.at c.args.text.now (omega (arith, c.if-at-text.true)) in
    subst (BeginsPlain collation) (sym (ap chars past ∙ chars-nil)) tt
