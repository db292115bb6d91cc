use Rattle.std.proofs.Common.{ap, arith, refl, ◌∙◌}
use Rattle.std.specs.Str.{chars}
use Rattle.std.proofs.lemmas.Str.{chars-nil}
use Rattle.std.proofs.lemmas.List.{drop_all}
use Rattle.uca_text_comparer.proofs.HeadSteps.{end_there}
use Rattle.uca_text_comparer.proofs.ascii.head_at.Goals as goal

pub returns-then-at-text-clause-next : goal.returns-then-at-text-clause-next
returns-then-at-text-clause-next c = λ collation weighting heads.
    let past = drop_all c.args.at c.args.text.now (omega (arith, c.if-at-text.true)) in
    end_there collation weighting _ _ _ refl (ap chars past ∙ chars-nil)
