use Rattle.std.proofs.Common.{ap, arith, get_or, length, refl, ◌∙◌}
use Rattle.std.specs.Str.{chars}
use Rattle.std.proofs.lemmas.Str.{chars-nil}
use Rattle.std.proofs.lemmas.List.{drop_all}
use Rattle.uca_text_comparer.specs.Heads.{IsTrueHead}
use Rattle.uca_text_comparer.proofs.HeadSteps.{end_there, head_there, next_there}
use Rattle.uca_text_comparer.proofs.heads.Heads.next_head.Goals as goal

pub returns-then-at-text-clause-next : goal.returns-then-at-text-clause-next
returns-then-at-text-clause-next c = λ collation heads.
    end_there collation c.args.self.now.weighting _ _ _ refl (ap chars (drop_all c.args.at c.args.text.now (omega (arith, c.if-at-text.true))) ∙ chars-nil)

pub returns-clause-next : goal.returns-clause-next
returns-clause-next c = λ collation heads.
    let found = c.in_ok-get.ensures.lookup.3 in
    let head = c.in_ok-get.field-0.now in
    let code = c.in_ok-code.code in
    let value = c.deref.ensures.value in
    next_there collation c.args.self.now.weighting _ _ code head c.in_ok-code.ensures.point
    (head_there (IsTrueHead collation c.args.self.now.weighting) c.args.self.now.items.items code head head heads.points (omega (arith, found.0, ap length value))
    (found.1 head ∙ ap (λ l. get_or l code head) value))
