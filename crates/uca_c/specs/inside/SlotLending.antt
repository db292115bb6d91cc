-- A slot follows what it holds.
use mathlib.Core.Path.{refl}
use Rattle.std.specs.Borrow.{Lends, MutBor, Fml}
use Rattle.uca_upgrade.specs.Upgrades.{UpgradeState}
use Rattle.uca_c.specs.OpenCollators.{OpenState}
use Rattle.uca_c.specs.declared.held.Held.TheVariants.{Collator, Upgrade}
use Rattle.uca_c.specs.declared.slot.Slot.{Slot}
use Rattle.uca_c.specs.declared.upgrade_slot.UpgradeSlot.{UpgradeSlot}
use Rattle.uca_c.specs.inside.HandleLending.{with_held}
use Rattle.uca_c.specs.contracts.slot.Slot as slot
use Rattle.uca_c.specs.contracts.upgrade_slot.UpgradeSlot as upgrade_slot
use Rattle.uca_c.specs.contracts.open_collator.OpenCollator as collator
use Rattle.uca_c.specs.contracts.open_upgrade.OpenUpgrade as upgrade

abbrev pub with_collator : Slot → OpenState → Slot
with_collator s w = record { handle = with_held s.handle (Collator w); full = s.full; told = s.told; kept = (w, refl) }

abbrev pub LendsCollator : MutBor Slot → MutBor OpenState → Fml
LendsCollator s r = Lends slot.the_row collator.the_row s r (with_collator s.now)

abbrev pub with_upgrade : UpgradeSlot → UpgradeState → UpgradeSlot
with_upgrade s w = record { handle = with_held s.handle (Upgrade w); full = s.full; told = s.told; kept = (w, refl) }

abbrev pub LendsUpgrade : MutBor UpgradeSlot → MutBor UpgradeState → Fml
LendsUpgrade s r = Lends upgrade_slot.the_row upgrade.the_row s r (with_upgrade s.now)
