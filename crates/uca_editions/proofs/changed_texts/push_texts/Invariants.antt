-- If all texts may be listed, those so far are.
use Rattle.std.proofs.Common.{map}
use Rattle.uca_editions.specs.inside.Everything.{MayListAll}
use Rattle.uca_editions.proofs.ListedKeys.{ListsFirst}
use Rattle.uca_editions.proofs.changed_texts.push_texts.Given as goal

abbrev pub invariant-loop-text : goal.invariant-loop-text
invariant-loop-text g l = MayListAll l.initial.list (map (λ t. t.now) l.text-items) → ListsFirst l.text-index (map (λ t. t.now) l.text-items) l.list
