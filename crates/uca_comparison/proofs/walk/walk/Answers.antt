use Rattle.std.proofs.Common.{◌∙◌, ap}
use Rattle.uca_elements.specs.Collations.{collation_of, elements_of}
use Rattle.uca_comparison.specs.Fronts.{begun}
use Rattle.uca_comparison.proofs.WalkSteps.{stands_begun}
use Rattle.uca_comparison.proofs.walk.walk.Goals as goal

pub returns : goal.returns
returns g c =
    let by = collation_of g.L.Lookup.content c.args.collator.now in
    let es = elements_of by c.args.left.now in
    let fs = elements_of by c.args.right.now in
    c.walk_fronts.ensures es fs
    (stands_begun c.args.weighting es fs c.args.first c.args.last c.new-left.result c.new-right.result
    (c.new-left.ensures ∙ ap begun c.elements.ensures) (c.new-right.ensures ∙ ap begun c.elements-2.ensures) c.requires.some c.requires.last)
