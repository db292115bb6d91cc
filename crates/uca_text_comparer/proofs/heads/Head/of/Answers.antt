use Rattle.std.proofs.Common.{ap, not, refl}
use Rattle.uca_text_comparer.proofs.HeadSteps.{entry_head}
use Rattle.uca_text_comparer.proofs.heads.Head.of.Goals as goal

pub returns-then-not-plain : goal.returns-then-not-plain
returns-then-not-plain c = λ collation entry.
    entry_head collation c.args.weighting c.args.known.now c.is_bound-plain.result _ entry c.is_bound-plain.ensures refl (λ some. absurd (some refl)) (λ alone. absurd cc)

pub returns-then-weight-eq0 : goal.returns-then-weight-eq0
returns-then-weight-eq0 c = λ collation entry.
    entry_head collation c.args.weighting c.args.known.now c.is_bound-plain.result _ entry c.is_bound-plain.ensures refl
    (λ some. (ap not c.if-not-plain.false, c.if-known-eq0.false, c.primary_of-weight.ensures)) (λ alone. absurd cc)

pub returns : goal.returns
returns c = λ collation entry.
    entry_head collation c.args.weighting c.args.known.now c.is_bound-plain.result _ entry c.is_bound-plain.ensures refl
    (λ some. (ap not c.if-not-plain.false, c.if-known-eq0.false, c.primary_of-weight.ensures))
    (λ alone. (c.if-weight-eq0.false, c.if-second-ne0.false, c.if-third-ne0.false))
