-- None of the texts so far occurs.
use Rattle.std.specs.List.{AllWithin}
use Rattle.uca_text.specs.Occurring.{OccursInOrder}
use Rattle.uca_editions.proofs.searches.one_occurs.Given as goal

abbrev pub invariant-loop-text : goal.invariant-loop-text
invariant-loop-text g l = AllWithin (λ text. ¬ (OccursInOrder text l.points)) l.text-items 0 l.text-index
