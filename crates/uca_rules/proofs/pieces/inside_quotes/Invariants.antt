use Rattle.std.proofs.Common.{◌-◌, length}
use Rattle.uca_rules.proofs.Quotes.{IsInside}
use Rattle.uca_rules.proofs.pieces.inside_quotes.Given as goal

abbrev pub invariant-loop-at : goal.invariant-loop-at
invariant-loop-at g l = IsInside l.fn.symbols.items l.symbols.items l.characters l.at

abbrev pub decreases-loop-at : goal.decreases-loop-at
decreases-loop-at g l = length l.characters - l.at
