use Rattle.std.proofs.Common.{subst, sym, ◌∙◌, [], set, true}
use Rattle.uca_tailor.specs.inside.Marks.{AreMarked}
use Rattle.uca_tailor.proofs.NumberLemmas.MarkLaws.{first_marked}
use Rattle.uca_tailor.proofs.numbers.lists.mark_fixed.Goals as goal

pub returns : goal.returns
returns c =
    subst (λ w. AreMarked c.args.level [] (set c.args.marks.now w true)) (sym (c.from.ensures ∙ c.fixed_weight.ensures))
    (first_marked c.args.level c.args.marks.now c.requires.count c.requires.none)
