use Rattle.std.proofs.Common.{◌≡◌, length, ◌-◌}
use Rattle.uca_elements.specs.Collations.{Collation}
use Rattle.uca_text_comparer.specs.Heads.{AreTrueHeads}
use Rattle.uca_text_comparer.proofs.heads.Heads.fill_firsts.Given as goal

-- all that is known so far is true, and the heads of the code points stay
abbrev pub invariant-loop-self : goal.invariant-loop-self
invariant-loop-self l = record {
  heads : (c : Collation) → AreTrueHeads c l.initial.self → AreTrueHeads c l.self;
  weighting : l.self.weighting ≡ l.initial.self.weighting;
  items : l.self.items.items ≡ l.initial.self.items.items;
}

abbrev pub decreases-loop-self : goal.decreases-loop-self
decreases-loop-self l = 256 - length l.self.firsts.items
