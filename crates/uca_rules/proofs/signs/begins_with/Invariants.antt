use Rattle.std.proofs.Common.{◌≡◌, take}
use Rattle.uca_rules.specs.Characters.{codes_of}
use Rattle.uca_rules.proofs.signs.begins_with.Given as goal

abbrev pub invariant-loop-at : goal.invariant-loop-at
invariant-loop-at l = codes_of (take l.at l.characters) ≡ take l.at l.text-2
