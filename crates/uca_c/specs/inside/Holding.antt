-- Which of the two a handle holds.
use Rattle.std.specs.Prelude.{◌≡◌}
use Rattle.std.specs.Coded.{Coded-set}
use mathlib.Core.Path.{ap, sym, ◌∙◌}
use mathlib.Core.HLevel.{Σ_prop_path}
use Rattle.uca_upgrade.specs.Upgrades.{UpgradeState}
use Rattle.uca_c.specs.OpenCollators.{OpenState}
use Rattle.uca_c.specs.declared.held.Held.{Held}
use Rattle.uca_c.specs.declared.held.Held.TheVariants.{Collator, Upgrade}
use Rattle.uca_c.specs.contracts.held.Held.{the_row}

abbrev pub HoldsCollator : Held → Type 0
HoldsCollator h = (c : OpenState) × (h ≡ Collator c)

abbrev pub HoldsUpgrade : Held → Type 0
HoldsUpgrade h = (u : UpgradeState) × (h ≡ Upgrade u)

-- ---- It holds one at most

collator_or : OpenState → Held → OpenState
collator_or other (Collator c) = c
collator_or other (Upgrade u) = other

pub HoldsCollator-prop : (h : Held) → IsProp (HoldsCollator h)
unfolding collator_or
HoldsCollator-prop h x y = Σ_prop_path (λ (c : OpenState). Coded-set the_row.coded h (Collator c)) (ap (collator_or x.0) (sym x.1 ∙ y.1))

upgrade_or : UpgradeState → Held → UpgradeState
upgrade_or other (Collator c) = other
upgrade_or other (Upgrade u) = u

pub HoldsUpgrade-prop : (h : Held) → IsProp (HoldsUpgrade h)
unfolding upgrade_or
HoldsUpgrade-prop h x y = Σ_prop_path (λ (u : UpgradeState). Coded-set the_row.coded h (Upgrade u)) (ap (upgrade_or x.0) (sym x.1 ∙ y.1))
