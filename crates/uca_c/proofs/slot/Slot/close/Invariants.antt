-- A closed slot has some value, which says nothing.
use Rattle.std.proofs.Common.{[]}
use Rattle.std.specs.Prelude.{None}
use Rattle.uca_weights.specs.declared.Weighting.TheVariants.{Shifted}
use Rattle.uca_weights.specs.declared.Depth.TheVariants.{Weights}
use Rattle.uca_weights.specs.declared.Numbers.TheVariants.{AsText}
use Rattle.uca_c.specs.OpenCollators.{OpenState}
use Rattle.uca_c.specs.declared.held.Held.TheVariants.{Collator}
use Rattle.uca_c.proofs.slot.Slot.close.Given as goal

abbrev pub nobody : OpenState
nobody = record {
  collator = record {
    lookup = record { keys = record { root = record { pages = []; numbers = [] }; nodes = [] }; rows = [] };
    ranges = [];
    data_file = record { classes = []; core = []; other = [] };
    settings = record { weighting = Shifted; depth = Weights; numbers = AsText };
    key = [];
    levels = [];
  };
  book = None;
}

abbrev pub ghost-closed : goal.ghost-closed
ghost-closed a = Collator nobody
