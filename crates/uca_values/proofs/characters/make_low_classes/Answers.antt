use Rattle.std.proofs.Common.{arith}
use Rattle.std.proofs.lemmas.Bool.Decides.{nat_tests}
use Rattle.uca_values.proofs.LowClasses.{starters_are_low}
use Rattle.uca_values.proofs.characters.make_low_classes.Goals as goal

pub returns-in_ok-extend_from_slice-clause-kept : goal.returns-in_ok-extend_from_slice-clause-kept
returns-in_ok-extend_from_slice-clause-kept g c ranges are =
    starters_are_low ranges c.args.low_classes.now.items _ 8192 (grind (arith, nat_tests)) c.in_ok-extend_from_slice.ensures.items (omega arith) are
