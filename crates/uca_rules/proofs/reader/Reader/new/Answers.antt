-- No relation, and nothing before the first statement.
use Rattle.std.proofs.Common.{false, refl}
use Rattle.uca_rules.specs.declared.signs.Preceding.TheVariants as lasts
use Rattle.uca_rules.proofs.reader.Reader.new.Goals as goal

pub returns-clause-state : goal.returns-clause-state
returns-clause-state g c = λ i. record {
  relations = c.new-2.ensures.none i;
  anchor = record { text = c.new-3.ensures i; before = false };
  last = lasts.Nothing;
}

pub returns-clause-ready : goal.returns-clause-ready
returns-clause-ready g c = record { growing = c.new-2.ensures.growing; anchored = λ some. absurd (some refl) }
