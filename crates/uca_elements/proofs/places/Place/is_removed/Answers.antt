use Rattle.std.proofs.Common.{sym, rules, arith}
use Rattle.uca_elements.proofs.PlaceLemmas.{gone_is, gone_far, gone_before_run}
use Rattle.uca_elements.proofs.places.Place.is_removed.Goals as goal
use Rattle.uca_elements.proofs.places.Place.is_removed.Goals.{then-i-self-via-then-i-self, then-i-self-via-else-i-self+then-i-self-ge64}

pub returns-then-i-self : goal.returns-then-i-self
returns-then-i-self c =
    elim c.then-i-self.branch [
      | then-i-self-via-then-i-self w ↦ sym (gone_before_run c.args.self c.args.i (omega arith))
      | then-i-self-via-else-i-self+then-i-self-ge64 w ↦ sym (gone_far c.args.self c.args.i (search rules) (omega arith))
    ]

pub returns : goal.returns
returns c = gone_is c.args.self c.args.i c.if-i-self.false
