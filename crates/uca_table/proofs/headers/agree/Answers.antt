-- Ranges that are apart agree where their leads differ, and otherwise where they are near.
use Rattle.std.proofs.Common.{not, refl, ap, sym, ◌∙◌}
use Rattle.std.proofs.lemmas.Bool.{false≢true, ne_eqb}
use Rattle.uca_table.proofs.headers.agree.Goals as goal

pub returns-then-range-other : goal.returns-then-range-other
returns-then-range-other c = (
  (λ _. record { apart = c.if-are_apart.ensures.0 refl; near = λ same. absurd (c.if-range-other.true same) }),
  (λ _. ap not (ne_eqb c.args.range.lead c.args.other.lead c.if-range-other.true)),
)

pub returns-else-range-other : goal.returns-else-range-other
returns-else-range-other c = (
  (λ near. record { apart = c.if-are_apart.ensures.0 refl; near = λ same. c.are_near.ensures.0 near }),
  (λ agree. c.are_near.ensures.1 (agree.near c.if-range-other.false)),
)

pub returns-else-are_apart : goal.returns-else-are_apart
returns-else-are_apart c = (
  (λ apart. absurd (false≢true (sym c.if-are_apart.false ∙ apart))),
  (λ agree. c.are_apart.ensures.1 agree.apart),
)
