-- The elements that a relation gives its target.
use Rattle.std.specs.Prelude.{◌≡◌, ℕ, ◌<◌, List, ◌∷◌, ◌++◌, Bool, true, false, ⊤, nat_eq, if◌then◌else◌}
use Rattle.std.specs.List.{AllByRecursion}
use Rattle.uca_weights.specs.declared.Element.{Element}
use Rattle.uca_weights.specs.declared.Level.{Level}
use Rattle.uca_weights.specs.declared.Level.TheVariants.{One, Two, Three}
use Rattle.uca_weights.specs.Kinds.{IsContinuation}
use Rattle.uca_weights.specs.Levels.{weight}

-- no weight at the levels from 1 to this one
abbrev pub IsIgnorableTo : Level → Element → Type 0
IsIgnorableTo One e = e.primary ≡ 0
IsIgnorableTo Two e = (e.primary ≡ 0) × (e.secondary ≡ 0)
IsIgnorableTo Three e = (e.primary ≡ 0) × (e.secondary ≡ 0) × (e.tertiary ≡ 0)

-- new primaries are below the primaries of implicit weights
abbrev pub IsLow : Level → ℕ → Type 0
IsLow One w = w < 0x8000
IsLow Two w = ⊤
IsLow Three w = ⊤

-- the elements of an anchor: some, the last that is not ignorable, and ignorable ones. That last one is no continuation, and its primary, where that is to change, is low.
pub record IsAnchor (level : Level) (anchor before : List Element) (last : Element) (trailing : List Element) : Type 0 where
  pub whole : anchor ≡ before ++ last ∷ trailing
  pub ignorable : AllByRecursion (IsIgnorableTo level) trailing
  pub not_ignorable : ¬ (IsIgnorableTo level last)
  pub alone : ¬ (IsContinuation last)
  pub low : IsLow level (weight level last)

-- a weight other than 0 becomes this one
abbrev pub reset : ℕ → ℕ → ℕ
reset w default = if nat_eq w 0 then 0 else default

-- the element with a new weight at a level; its other weights at weaker levels become 0020 and 0002
abbrev pub reweighted : Level → ℕ → Element → Element
reweighted One w e = record e { primary = w; secondary = reset e.secondary 0x20; tertiary = reset e.tertiary 2 }
reweighted Two w e = record e { secondary = w; tertiary = reset e.tertiary 2 }
reweighted Three w e = record e { tertiary = w }

-- the elements of the target for a new weight
abbrev pub placed : Level → List Element → Element → List Element → ℕ → List Element
placed level before last expansion w = before ++ reweighted level w last ∷ expansion

-- the new weight is greater than the old one, for a before-relation less
abbrev pub IsOnSide : Bool → ℕ → ℕ → Type 0
IsOnSide false old new = old < new
IsOnSide true old new = new < old
