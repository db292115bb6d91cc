use Rattle.std.proofs.Common.{◌≡◌, ◌+◌, drop}
use Rattle.uca_rules.specs.Statements.{count_less, after_less}
use Rattle.uca_rules.proofs.signs.count_less.Given as goal

abbrev pub invariant-loop-c : goal.invariant-loop-c
invariant-loop-c l = record {
  index : l.count ≡ l.c-index;
  count : l.count + count_less (drop l.count l.characters) ≡ count_less l.characters;
  after : after_less (drop l.count l.characters) ≡ after_less l.characters;
}
