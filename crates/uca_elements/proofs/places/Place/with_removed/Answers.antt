use Rattle.uca_elements.proofs.PlaceLemmas.{gone_here, gone_elsewhere}
use Rattle.uca_elements.proofs.places.Place.with_removed.Goals as goal

pub returns-clause-here : goal.returns-clause-here
returns-clause-here c = gone_here c.args.self c.args.i c.requires.after c.requires.near

pub returns-clause-elsewhere : goal.returns-clause-elsewhere
returns-clause-elsewhere c = λ k other. gone_elsewhere c.args.self c.args.i k c.requires.after c.requires.near other
