-- Texts that are compared are accepted. The collator is the same as before.
use Rattle.std.proofs.Common.{rules, subst}
use Rattle.uca_owned.proofs.OrderLemmas.{accepted_order}
use Rattle.uca_c.specs.OpenCollators.{keying_at}
use Rattle.uca_c.specs.Slots.{collator_in}
use Rattle.uca_c.specs.Results.{IsOrderNumber}
use Rattle.uca_c.proofs.exports.order_open.Goals as goal

pub returns-in-Some-clause-ok : goal.returns-in-Some-clause-ok
returns-in-Some-clause-ok c is_ok =
    let found = c.in-Some.ensures in
    record {
      found = c.in-Some.found;
      order = accepted_order (keying_at (collator_in c.args.collator.now)) c.args.left.now c.args.right.now c.in-Some.found found.accepted.0 found.accepted.1 found.compared.0;
      same = search rules;
    }

pub returns-in-None-clause-ok : goal.returns-in-None-clause-ok
returns-in-None-clause-ok c is_ok =
    subst (λ it. IsOrderNumber (keying_at it) c.args.left.now c.args.right.now c.order_any.new.order)
    c.in-None.ensures.same (c.order_any.ensures.ok is_ok)
