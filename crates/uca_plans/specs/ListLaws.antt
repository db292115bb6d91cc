-- The laws of a level's list: which base weights it has, where new weights go, and that the numbers rise along it.
use Rattle.std.specs.Prelude.{◌≡◌, ◌⊎◌, ◌↔◌, ℕ, ◌+◌, ◌<◌, ◌≤◌, true, false, List, [], ◌∷◌, length, ⊤}
use Rattle.std.specs.List.{AllByRecursion}
use Rattle.uca_weights.specs.declared.Element.{Element}
use Rattle.uca_weights.specs.declared.Level.{Level}
use Rattle.uca_weights.specs.Levels.{weight}
use Rattle.uca_plans.specs.declared.drafts.DraftWeight.{DraftWeight}
use Rattle.uca_plans.specs.declared.drafts.DraftWeight.TheVariants.{Base}
use Rattle.uca_plans.specs.Lists.{fixed_weight, top_weight, base_weights, Insertion, inserted, before_weight, after_weight, level_has_room, level_numbers, number_in}

-- ---- Base weights

-- each is greater than those before it
abbrev pub IsRising : List ℕ → Type 0
IsRising [] = ⊤
IsRising (w ∷ ws) = AllByRecursion (λ v. w < v) ws × IsRising ws

-- it is one of them
abbrev pub IsAmong : {A : Type 0} → List A → A → Type 0
IsAmong [] x = ⊥
IsAmong (y ∷ ys) x = (y ≡ x) ⊎ IsAmong ys x

-- an element has the weight at the level
abbrev pub HasWeight : Level → ℕ → List Element → Type 0
HasWeight level w [] = ⊥
HasWeight level w (e ∷ es) = (weight level e ≡ w) ⊎ HasWeight level w es

-- and it is one of those that are numbered
abbrev pub IsWeightOf : Level → List Element → ℕ → Type 0
IsWeightOf level es w = (0 < w) × (w ≤ top_weight level) × HasWeight level w es

-- the base weights of a level are those of its elements that are numbered, and the one that stays, in rising order
pub record AreBaseWeights (level : Level) (es : List Element) : Type 0 where
  pub rising : IsRising (base_weights level es)
  pub each : (w : ℕ) → IsAmong (base_weights level es) w ↔ ((w ≡ fixed_weight level) ⊎ IsWeightOf level es w)

abbrev pub BaseWeightsOfElements : Type 0
BaseWeightsOfElements = (level : Level) (es : List Element) → AreBaseWeights level es

-- ---- New weights

-- the first comes before the second
abbrev pub StandsBefore : List DraftWeight → DraftWeight → DraftWeight → Type 0
StandsBefore [] v w = ⊥
StandsBefore (m ∷ members) v w = ((m ≡ v) × IsAmong members w) ⊎ StandsBefore members v w

-- none comes twice
abbrev pub AreApart : List DraftWeight → Type 0
AreApart [] = ⊤
AreApart (m ∷ members) = (IsAmong members m → ⊥) × AreApart members

-- the new weight is on the side of the anchor's that the insertion says
abbrev pub StandsBeside : Insertion → List DraftWeight → Type 0
StandsBeside i members = ((i.before ≡ true) × StandsBefore members i.new i.anchor) ⊎ ((i.before ≡ false) × StandsBefore members i.anchor i.new)

-- What an insertion makes of a list that has the anchor's weight and not the new one. The new weight is added on its
-- side of the anchor's. All others keep their order. The new weight has the same order to each of them as the anchor's,
-- so that none is between the two.
pub record IsInserted (i : Insertion) (members : List DraftWeight) : Type 0 where
  pub apart : AreApart (inserted i members)
  pub more : length (inserted i members) ≡ length members + 1
  pub each : (w : DraftWeight) → IsAmong (inserted i members) w ↔ ((w ≡ i.new) ⊎ IsAmong members w)
  pub beside : StandsBeside i (inserted i members)
  pub kept : (v w : DraftWeight) → StandsBefore members v w → StandsBefore (inserted i members) v w
  pub below : (v : DraftWeight) → StandsBefore members v i.anchor → StandsBefore (inserted i members) v i.new
  pub above : (w : DraftWeight) → StandsBefore members i.anchor w → StandsBefore (inserted i members) i.new w

abbrev pub NewWeightsStandNearest : Type 0
NewWeightsStandNearest = (i : Insertion) (members : List DraftWeight) → AreApart members → IsAmong members i.anchor → (IsAmong members i.new → ⊥) → IsInserted i members

-- ---- Numbers

-- the numbers of a level with room rise along its list, the fixed weight stays, and all are weights of the level
pub record AreLevelNumbers (level : Level) (members : List DraftWeight) : Type 0 where
  pub same : length (level_numbers level members) ≡ length members
  pub rising : (v w : DraftWeight) → StandsBefore members v w → number_in members (level_numbers level members) v < number_in members (level_numbers level members) w
  pub fixed : number_in members (level_numbers level members) (Base (fixed_weight level)) ≡ fixed_weight level
  pub within : (w : DraftWeight) → number_in members (level_numbers level members) w ≤ top_weight level

abbrev pub NumbersRiseAlongLists : Type 0
NumbersRiseAlongLists = (level : Level) (members : List DraftWeight) → AreApart members → IsAmong members (Base (fixed_weight level)) → level_has_room level members ≡ true → AreLevelNumbers level members

-- ---- Segments

-- the anchor's weight is below the fixed weight, or is the fixed weight and the new one goes before it
abbrev pub GoesLow : DraftWeight → Insertion → List DraftWeight → Type 0
GoesLow fixed i members = StandsBefore members i.anchor fixed ⊎ ((i.anchor ≡ fixed) × (i.before ≡ true))

abbrev pub GoesHigh : DraftWeight → Insertion → List DraftWeight → Type 0
GoesHigh fixed i members = StandsBefore members fixed i.anchor ⊎ ((i.anchor ≡ fixed) × (i.before ≡ false))

-- each new weight takes one position of one segment: of the low one if it goes low, else of the high one
abbrev pub TakesOnePlace : DraftWeight → Insertion → List DraftWeight → Type 0
TakesOnePlace fixed i members =
    (GoesLow fixed i members × (length (before_weight fixed (inserted i members)) ≡ length (before_weight fixed members) + 1) × (length (after_weight fixed (inserted i members)) ≡ length (after_weight fixed members)))
    ⊎ (GoesHigh fixed i members × (length (before_weight fixed (inserted i members)) ≡ length (before_weight fixed members)) × (length (after_weight fixed (inserted i members)) ≡ length (after_weight fixed members) + 1))

abbrev pub NewWeightsTakePlaces : Type 0
NewWeightsTakePlaces = (fixed : DraftWeight) (i : Insertion) (members : List DraftWeight) → IsAmong members fixed → IsAmong members i.anchor → (i.new ≡ fixed → ⊥) → TakesOnePlace fixed i members

-- no member of the list is between an anchor's weight and the new one; and the weights that were there keep their
-- order
pub record StandsNext (i : Insertion) (members : List DraftWeight) : Type 0 where
  pub none_after : (w : DraftWeight) → StandsBefore (inserted i members) i.anchor w → StandsBefore (inserted i members) w i.new → ⊥
  pub none_before : (w : DraftWeight) → StandsBefore (inserted i members) i.new w → StandsBefore (inserted i members) w i.anchor → ⊥
  pub same : (v w : DraftWeight) → IsAmong members v → IsAmong members w → StandsBefore (inserted i members) v w ↔ StandsBefore members v w

abbrev pub NothingStandsBetween : Type 0
NothingStandsBetween = (i : Insertion) (members : List DraftWeight) → AreApart members → IsAmong members i.anchor → (IsAmong members i.new → ⊥) → StandsNext i members
