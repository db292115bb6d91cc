-- Weights that are numbered, and the order of members.
use Rattle.std.proofs.Common.{◌≡◌, ◌⊎◌, inl, inr, ℕ, ◌<◌, ◌≤◌, List, [], ◌∷◌, nat_eq, nat_le, if◌then◌else◌, sym, ◌∙◌, arith}
use Rattle.std.proofs.lemmas.Bool.Decides.{nat_tests}
use Rattle.uca_weights.specs.declared.Level.{Level}
use Rattle.uca_weights.specs.declared.Level.TheVariants.{One, Two, Three}
use Rattle.uca_weights.specs.declared.maps.Run.{Run}
use Rattle.uca_weights.specs.Runs.{run_image, weight_image}
use Rattle.uca_plans.specs.declared.drafts.DraftWeight.{DraftWeight}
use Rattle.uca_plans.specs.declared.drafts.DraftWeight.TheVariants.{Base}
use Rattle.uca_plans.specs.Lists.{top_weight, number_in}
use Rattle.uca_plans.specs.ListLaws.{IsAmong, StandsBefore}
use Rattle.uca_plans.specs.Plans.{LevelPlan, numbered_weight}

-- a weight that is numbered has its member's number
pub low_number : (level : Level) (plan : LevelPlan) (w : ℕ) → 0 < w → w ≤ top_weight level
    → numbered_weight level plan (Base w) ≡ number_in plan.members plan.numbers (Base w)
low_number One plan w some within = go (number_in plan.members plan.numbers (Base w))
  where
    -- for any number
    go : (n : ℕ) → (if nat_eq w 0 then 0 else if nat_le 0x8000 w then w else n) ≡ n
    go n = grind (arith, nat_tests)
low_number Two plan w some within = go (number_in plan.members plan.numbers (Base w))
  where
    -- for any number
    go : (n : ℕ) → (if nat_eq w 0 then 0 else n) ≡ n
    go n = grind (arith, nat_tests)
low_number Three plan w some within = go (number_in plan.members plan.numbers (Base w))
  where
    -- for any number
    go : (n : ℕ) → (if nat_eq w 0 then 0 else n) ≡ n
    go n = grind (arith, nat_tests)

-- a weight that is numbered is sent where its run sends it
pub low_sent : (level : Level) (runs : List Run) (w : ℕ) → 0 < w → w ≤ top_weight level → weight_image level runs w ≡ run_image runs w
low_sent One runs w some within = grind (arith, nat_tests)
low_sent Two runs w some within = grind (arith, nat_tests)
low_sent Three runs w some within = grind (arith, nat_tests)

-- two members are the same, or one comes before the other
pub either_before : (ms : List DraftWeight) (v w : DraftWeight) → IsAmong ms v → IsAmong ms w
    → (v ≡ w) ⊎ (StandsBefore ms v w ⊎ StandsBefore ms w v)
either_before [] v w first second = absurd first
either_before (m ∷ ms) v w (inl here) (inl also) = inl (sym here ∙ also)
either_before (m ∷ ms) v w (inl here) (inr later) = inr (inl (inl (here, later)))
either_before (m ∷ ms) v w (inr later) (inl here) = inr (inr (inl (here, later)))
either_before (m ∷ ms) v w (inr first) (inr second) = elim (either_before ms v w first second) [
  | inl same ↦ inl same
  | inr stands ↦ elim stands [ inl before ↦ inr (inl (inr before)) | inr behind ↦ inr (inr (inr behind)) ]
]
