use Rattle.std.proofs.Common.{List, ◌++◌}
use Rattle.uca_weights.specs.declared.Element.{Element}
use Rattle.uca_key_writer.specs.inside.LevelBuffers.{HoldsLevels}
use Rattle.uca_key_writer.proofs.pieces.push_elements.Given as goal

abbrev pub invariant-loop-element : goal.invariant-loop-element
invariant-loop-element g l = (es : List Element) → HoldsLevels l.weighting es l.initial.levels → HoldsLevels l.weighting (es ++ l.yielded) l.levels
