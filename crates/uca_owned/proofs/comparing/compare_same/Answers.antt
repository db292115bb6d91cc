-- The bytes of one text are equal to themselves, and accepted if they are few.
use Rattle.std.proofs.Common.{◌≡◌, List, ℕ, sym, ap, subst, arith}
use Rattle.std.proofs.lemmas.Slice.Eq.{bytes_eq-Decides}
use Rattle.std.specs.declared.cmp.Ordering.TheVariants.{Equal}
use Rattle.uca_order.specs.Keyings.{bytes_compared}
use Rattle.uca_owned.specs.Causes.{IsAcceptedBy}
use Rattle.uca_owned.proofs.OrderLemmas.{compared_itself, short_accepted}
use Rattle.uca_owned.proofs.comparing.compare_same.Goals as goal

pub returns-clause-compared : goal.returns-clause-compared
returns-clause-compared c k =
    let left = c.args.left.now in
    let same = (bytes_eq-Decides left c.args.right.now).0 (sym c.if-eq.ensures) in
    subst (λ (right : List ℕ). (Equal ≡ (bytes_compared k left right).order) × (0 ≡ (bytes_compared k left right).level)) same
    (sym (ap (λ it. it.order) (compared_itself k left)), sym (ap (λ it. it.level) (compared_itself k left)))

pub returns-clause-accepted : goal.returns-clause-accepted
returns-clause-accepted c k =
    let left = c.args.left.now in
    let same = (bytes_eq-Decides left c.args.right.now).0 (sym c.if-eq.ensures) in
    let accepted = short_accepted k left c.in-Some.ensures.1 (omega arith) in
    subst (λ (right : List ℕ). IsAcceptedBy k left × IsAcceptedBy k right) same (accepted, accepted)
