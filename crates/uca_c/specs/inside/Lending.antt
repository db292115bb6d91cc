-- What is held follows its collator or its upgrade.
use Rattle.std.specs.Borrow.{Lends, MutBor, Fml}
use Rattle.uca_upgrade.specs.Upgrades.{UpgradeState}
use Rattle.uca_c.specs.OpenCollators.{OpenState}
use Rattle.uca_c.specs.declared.held.Held.{Held}
use Rattle.uca_c.specs.declared.held.Held.TheVariants.{Collator, Upgrade}
use Rattle.uca_c.specs.contracts.held.Held as held
use Rattle.uca_c.specs.contracts.open_collator.OpenCollator as collator
use Rattle.uca_c.specs.contracts.open_upgrade.OpenUpgrade as upgrade

abbrev pub LendsCollator : MutBor Held → MutBor OpenState → Fml
LendsCollator s r = Lends held.the_row collator.the_row s r Collator

abbrev pub LendsUpgrade : MutBor Held → MutBor UpgradeState → Fml
LendsUpgrade s r = Lends held.the_row upgrade.the_row s r Upgrade
