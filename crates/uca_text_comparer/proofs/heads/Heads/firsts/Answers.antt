use Rattle.std.proofs.Common.{◌∙◌, ap, sym, subst, take}
use Rattle.uca_text_comparer.specs.Heads.{IsTrueFirst, AreFirstsFrom}
use Rattle.uca_text_comparer.proofs.HeadSteps.{first_heads}
use Rattle.uca_text_comparer.proofs.heads.Heads.firsts.Goals as goal

pub returns : goal.returns
returns c = λ collation heads.
    let weighting = c.args.self.now.weighting in
    subst (AreFirstsFrom collation weighting 0) (sym (c.in_ok-firsts.ensures.cases.0 ∙ ap (take 256) c.deref.ensures.value))
    (first_heads (IsTrueFirst collation weighting) 0 256 c.args.self.now.firsts.items heads.firsts)
