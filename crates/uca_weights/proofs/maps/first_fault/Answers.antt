-- Each run is rejected, or is proper after the one before it.
use Rattle.std.proofs.Common.{inl}
use Rattle.uca_weights.specs.declared.maps.Run.{Run}
use Rattle.uca_weights.proofs.RunSteps.{decides_next, decides_fault}
use Rattle.uca_weights.proofs.maps.first_fault.Goals as goal

pub loop-index-preserved : goal.loop-index-preserved
loop-index-preserved c = decides_next _ _ _ _ _ c.loop-index-test.true c.loop-index.invariant c.in_default.ensures

pub returns-in-Some : goal.returns-in-Some
returns-in-Some c =
    let no : Run = record { from = 0; to = 0; count = 0 } in
    inl (decides_fault _ _ _ _ no _ c.loop-index-test.true c.loop-index.invariant c.in-Some.ensures)
