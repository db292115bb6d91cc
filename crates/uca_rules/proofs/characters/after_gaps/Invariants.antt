use Rattle.std.proofs.Common.{◌≡◌, drop}
use Rattle.uca_rules.specs.Characters.{after_gaps, after_gaps_in}
use Rattle.uca_rules.proofs.characters.after_gaps.Given as goal

abbrev pub invariant-loop-at : goal.invariant-loop-at
invariant-loop-at l = after_gaps_in l.inside (drop l.at l.characters) ≡ after_gaps l.characters
