-- Short texts are accepted.
use Rattle.uca_owned.proofs.OrderLemmas.{shorts_accepted}
use Rattle.uca_owned.proofs.comparing.order_at_once.Goals as goal

pub returns-clause-accepted : goal.returns-clause-accepted
returns-clause-accepted c = λ k.
    shorts_accepted k c.args.left.now c.args.right.now c.in_ok-left_text.ensures.utf8 c.in_ok-left_text.ensures.short
