-- What there is once for each level.
use Rattle.uca_weights.specs.declared.Level.{Level}
use Rattle.uca_weights.specs.declared.Level.TheVariants.{One, Two, Three}

pub record PerLevel (A : Type 0) : Type 0 where
  pub primary : A
  pub secondary : A
  pub tertiary : A

-- what there is for a level
abbrev pub at_level : {A : Type 0} → Level → PerLevel A → A
at_level One all = all.primary
at_level Two all = all.secondary
at_level Three all = all.tertiary

-- P holds, at each level, of what there is for it
pub record AtEachLevel {A : Type 0} (P : Level → A → Type 0) (all : PerLevel A) : Type 0 where
  pub primary : P One all.primary
  pub secondary : P Two all.secondary
  pub tertiary : P Three all.tertiary
