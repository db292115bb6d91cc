use Rattle.std.proofs.Common.{ap, arith, get_or, length, sym, subst, ◌∙◌}
use Rattle.std.specs.Str.{chars}
use Rattle.std.proofs.lemmas.Bool.{OnTrue_from}
use Rattle.std.proofs.lemmas.Str.{chars-nil}
use Rattle.std.proofs.lemmas.List.{drop_all}
use Rattle.uca_text_comparer.specs.Heads.{IsTrueHead}
use Rattle.uca_text_comparer.specs.inside.Shared.{BeginsPlain}
use Rattle.uca_text_comparer.proofs.HeadSteps.{head_there}
use Rattle.uca_text_comparer.proofs.heads.Heads.goes_on_plain.Goals as goal

pub returns-then-at-text : goal.returns-then-at-text
returns-then-at-text c = λ collation heads.
    subst (BeginsPlain collation) (sym (ap chars (drop_all c.args.at c.args.text.now (omega (arith, c.if-at-text.true))) ∙ chars-nil)) tt

pub returns : goal.returns
returns c = λ collation heads.
    let found = c.in_ok-get.ensures.lookup.3 in
    let head = c.in_ok-get.field-0.now in
    let code = c.in_ok-code.code in
    let value = c.deref.ensures.value in
    let true_head = head_there (IsTrueHead collation c.args.self.now.weighting) c.args.self.now.items.items code head head heads.points (omega (arith, found.0, ap length value))
    (found.1 head ∙ ap (λ l. get_or l code head) value) in
    OnTrue_from _ _ (λ plain. subst (BeginsPlain collation) (sym c.in_ok-code.ensures.point) (true_head.plain plain))
