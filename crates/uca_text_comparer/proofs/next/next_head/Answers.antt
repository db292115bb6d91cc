use Rattle.std.proofs.Common.{refl, subst}
use Rattle.uca_text_comparer.specs.Heads.{IsTrueHead}
use Rattle.uca_text_comparer.proofs.HeadSteps.{end_there, next_there}
use Rattle.uca_text_comparer.proofs.next.next_head.Goals as goal

pub returns-in_default-clause-next : goal.returns-in_default-clause-next
returns-in_default-clause-next g c = λ collation entries. end_there collation c.args.weighting _ _ _ refl c.in_default.ensures

pub returns-clause-next : goal.returns-clause-next
returns-clause-next g c = λ collation entries.
    next_there collation c.args.weighting _ _ c.in-Some.point c.of.result c.in-Some.ensures
    (subst (λ x. IsTrueHead collation c.args.weighting x c.of.result) c.in_ok-find.ensures.point
    (c.of.ensures collation (c.in_ok-find.ensures.entry collation entries)))
