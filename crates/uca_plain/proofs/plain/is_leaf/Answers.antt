use Rattle.std.proofs.Common.{[], ◌∷◌}
use Rattle.uca_plain.proofs.LeafReading.{on_not}
use Rattle.uca_plain.proofs.plain.is_leaf.Goals as goal

pub returns-in-Some : goal.returns-in-Some
returns-in-Some g c =
    on_not c.may_go_on.result (λ ends. record { ends = c.may_go_on.ensures (c.args.point ∷ []) (c.in-Some.ensures [] c.root.ensures).1 ends })

pub returns-in-None : goal.returns-in-None
returns-in-None g c = record { ends = λ y longer. c.in-None.ensures [] c.root.ensures (y ∷ longer.0, longer.1) }
