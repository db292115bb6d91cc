use Rattle.std.proofs.Common.{◌∙◌, ap, sym, subst, take}
use Rattle.uca_text_comparer.specs.Heads.{IsTrueHead, AreHeadsFrom}
use Rattle.uca_text_comparer.proofs.HeadSteps.{first_heads}
use Rattle.uca_text_comparer.proofs.heads.Heads.ascii.Goals as goal

pub returns : goal.returns
returns c = λ collation heads.
    let weighting = c.args.self.now.weighting in
    subst (AreHeadsFrom collation weighting 0) (sym (c.in_ok-heads.ensures.cases.0 ∙ ap (take 128) c.deref.ensures.value))
    (first_heads (IsTrueHead collation weighting) 0 128 c.args.self.now.items.items heads.points)
