use Rattle.std.proofs.Common.{◌++◌, ap, ◌∙◌, subst}
use Rattle.std.specs.Prelude.{IfOk}
use Rattle.std.specs.Bool.{OnTrue}
use Rattle.uca_elements.specs.Collations.{collation_of}
use Rattle.uca_plain.specs.Leaves.{points_elements}
use Rattle.uca_key_writer.specs.inside.LevelBuffers.{HoldsLevels}
use Rattle.uca_plain.proofs.LeafReading.{text_of_points}
use Rattle.uca_key_writer.proofs.pieces.push_normal.Goals as goal

pub returns-then-branch-clause-levels : goal.returns-then-branch-clause-levels
returns-then-branch-clause-levels g c = λ es h.
    let collation = collation_of g.L.Lookup.content c.args.collator.now in
    subst (λ l. IfOk c.push_leaves.result (λ all. OnTrue all (HoldsLevels c.args.weighting (es ++ l) c.push_leaves.new.self)))
    (ap (points_elements collation) c.chars-chars.ensures.value ∙ text_of_points collation c.args.text.now c.requires.classes)
    (c.push_leaves.ensures collation es c.are_leaves.ensures h)
