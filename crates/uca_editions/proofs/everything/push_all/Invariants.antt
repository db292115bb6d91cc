-- The keys of the rows so far are added.
use Rattle.std.proofs.Common.{◌≡◌, ◌++◌, map, take}
use Rattle.uca_values.specs.Content.{keys_of}
use Rattle.uca_editions.proofs.everything.push_all.Given as goal

abbrev pub invariant-loop-row : goal.invariant-loop-row
invariant-loop-row g l = map (λ k. k.now) l.keys.items ≡ map (λ k. k.now) l.initial.keys.items ++ keys_of (take l.row-index l.rows)
