-- What is known after some of the runs.
use Rattle.uca_weights.proofs.RunSteps.{Decides}
use Rattle.uca_weights.proofs.maps.first_fault.Given as goal

-- the runs from here on decide about all
abbrev pub invariant-loop-index : goal.invariant-loop-index
invariant-loop-index l = Decides l.level l.runs l.index l.previous
