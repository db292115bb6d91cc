-- Elements and their images under the maps of the three levels.
use Rattle.std.specs.Prelude.{◌≡◌, List, [], ◌∷◌, ⊤}
use Rattle.uca_weights.specs.declared.Element.{Element}
use Rattle.uca_weights.specs.PerLevel.{PerLevel, AtEachLevel}
use Rattle.uca_weights.specs.Maps.{WeightImages, Sends, IsRisingMap, KeepsWeights}

-- one map for each level
abbrev pub Maps : Type 0
Maps = PerLevel WeightImages

abbrev pub AreRisingMaps : Maps → Type 0
AreRisingMaps = AtEachLevel IsRisingMap

-- each map sends each weight that it maps to itself
abbrev pub KeepAllWeights : Maps → Type 0
KeepAllWeights = AtEachLevel (λ level. KeepsWeights)

-- each weight is put through the map of its level, and the element stays variable or not
pub record IsImage (maps : Maps) (e f : Element) : Type 0 where
  pub primary : Sends maps.primary e.primary f.primary
  pub secondary : Sends maps.secondary e.secondary f.secondary
  pub tertiary : Sends maps.tertiary e.tertiary f.tertiary
  pub mark : e.mark ≡ f.mark

-- the second list has the images of the first, in order
abbrev pub AreImages : Maps → List Element → List Element → Type 0
AreImages maps [] [] = ⊤
AreImages maps [] (f ∷ fs) = ⊥
AreImages maps (e ∷ es) [] = ⊥
AreImages maps (e ∷ es) (f ∷ fs) = IsImage maps e f × AreImages maps es fs
