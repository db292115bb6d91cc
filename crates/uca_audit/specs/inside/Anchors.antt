-- What the passes over the elements of an anchor find.
use Rattle.std.specs.Prelude.{◌≡◌, ℕ, ◌+◌, ◌<◌, List, ◌∷◌, ◌++◌, length, take, drop}
use Rattle.std.specs.List.{AllByRecursion}
use Rattle.uca_weights.specs.declared.Element.{Element}
use Rattle.uca_weights.specs.declared.Level.{Level}
use Rattle.uca_tailorings.specs.Placing.{IsIgnorableTo, IsAnchor}

-- the element at the position is the last that is not ignorable
pub record EndsAt (level : Level) (es : List Element) (at : ℕ) : Type 0 where
  pub within : at < length es
  pub last : Element
  pub whole : es ≡ take at es ++ last ∷ drop (at + 1) es
  pub not_ignorable : ¬ (IsIgnorableTo level last)
  pub ignorable : AllByRecursion (IsIgnorableTo level) (drop (at + 1) es)

-- a new weight can be put on the element at the position
pub record IsAnchorAt (level : Level) (es : List Element) (at : ℕ) : Type 0 where
  pub within : at < length es
  pub last : Element
  pub anchor : IsAnchor level es (take at es) last (drop (at + 1) es)

-- a new weight can be put on no element of the anchor
abbrev pub HasNoAnchor : Level → List Element → Type 0
HasNoAnchor level es = (before : List Element) (last : Element) (trailing : List Element) → ¬ (IsAnchor level es before last trailing)
