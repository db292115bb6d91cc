-- A byte below 128 is a code point, and its head is among the 128.
use Rattle.std.proofs.Common.{◌≡◌, ◌+◌, arith, get_or, refl, rules, subst, sym}
use Rattle.std.proofs.lemmas.Bool.{OnTrue_from}
use Rattle.uca_text_comparer.specs.Heads.{IsTrueHead}
use Rattle.uca_text_comparer.specs.inside.Shared.{BeginsPlain}
use Rattle.uca_text_comparer.proofs.HeadSteps.{ascii_there, head_there, next_there, PointAt}
use Rattle.uca_text_comparer.proofs.ascii.point_head.Goals as goal

there : (c : goal.After-result-1) → PointAt c.args.text.now c.args.at c.from-byte.result (c.args.at + 1)
there c =
    let text = c.args.text.now in
    let first : get_or text c.args.at 0 ≡ c.from-byte.result = search rules in
    ascii_there text c.args.at c.from-byte.result c.utf8.text c.requires first c.if-byte-ge-ASCII.false

pub returns-clause-next : goal.returns-clause-next
returns-clause-next c = λ collation weighting heads.
    let byte = c.from-byte.result in
    next_there collation weighting _ _ byte _ (there c).point
    (head_there (IsTrueHead collation weighting) c.args.heads.now byte _ _ heads (omega (arith, c.told-heads, c.if-byte-ge-ASCII.false)) refl)

pub returns-clause-plain : goal.returns-clause-plain
returns-clause-plain c = λ collation weighting heads.
    let byte = c.from-byte.result in
    let true_head = head_there (IsTrueHead collation weighting) c.args.heads.now byte _ _ heads (omega (arith, c.told-heads, c.if-byte-ge-ASCII.false)) refl in
    OnTrue_from _ _ (λ plain. subst (BeginsPlain collation) (sym (there c).point) (true_head.plain plain))

pub returns-clause-after : goal.returns-clause-after
returns-clause-after c = (there c).boundary
