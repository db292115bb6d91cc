-- What holds at each level holds at one of them.
use Rattle.uca_weights.specs.declared.Level.{Level}
use Rattle.uca_weights.specs.declared.Level.TheVariants.{One, Two, Three}
use Rattle.uca_weights.specs.PerLevel.{PerLevel, at_level, AtEachLevel}

-- what holds at each level holds at one of them
pub holds_at : {A : Type 0} (P : Level → A → Type 0) (level : Level) (all : PerLevel A) → AtEachLevel P all → P level (at_level level all)
holds_at P One all each = each.primary
holds_at P Two all each = each.secondary
holds_at P Three all each = each.tertiary
