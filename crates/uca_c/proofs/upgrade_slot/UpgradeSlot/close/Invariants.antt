-- A closed slot has some value, which says nothing.
use Rattle.std.proofs.Common.{[]}
use Rattle.uca_weights.specs.declared.Weighting.TheVariants.{Shifted}
use Rattle.uca_weights.specs.declared.Depth.TheVariants.{Weights}
use Rattle.uca_weights.specs.declared.Numbers.TheVariants.{AsText}
use Rattle.uca_upgrade.specs.Upgrades.{UpgradeState}
use Rattle.uca_c.specs.declared.held.Held.TheVariants.{Upgrade}
use Rattle.uca_c.proofs.upgrade_slot.UpgradeSlot.close.Given as goal

abbrev pub nobody : UpgradeState
nobody = record {
  list = record { texts = []; ranges = [] };
  certificate = record { primary = []; secondary = []; tertiary = [] };
  settings = record { weighting = Shifted; depth = Weights; numbers = AsText };
  data_file = record { classes = []; core = []; other = [] };
  old_fingerprint = [];
  new_fingerprint = [];
}

abbrev pub ghost-closed : goal.ghost-closed
ghost-closed a = Upgrade nobody
