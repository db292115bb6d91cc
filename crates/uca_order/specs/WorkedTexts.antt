-- How some texts compare, how many elements that takes, and their keys with an identical level, worked out over the definitions.
use Rattle.std.specs.Prelude.{◌≡◌, ℕ, List, [], ◌∷◌, ◌++◌}
use Rattle.std.specs.declared.cmp.Ordering.{Ordering}
use Rattle.std.specs.declared.cmp.Ordering.TheVariants.{Less, Equal, Greater}
use Rattle.uca_weights.specs.declared.Depth.{Depth}
use Rattle.uca_weights.specs.declared.Depth.TheVariants.{Weights, Identical}
use Rattle.uca_weights.specs.declared.Weighting.{Weighting}
use Rattle.uca_weights.specs.declared.Weighting.TheVariants.{NonIgnorable, Shifted}
use Rattle.uca_elements.specs.WorkedTable.{small_rows, elements_under}
use Rattle.uca_order.specs.Levels.{level_bytes}
use Rattle.uca_order.specs.Depths.{ReadText, compared_at, key_at}
use Rattle.uca_order.specs.Fetched.{fetched_left, fetched_right}

-- a text that is its own Normalization Form D, under the small table
abbrev pub small_text : List ℕ → ReadText
small_text points = record { elements = elements_under small_rows points; points = points }

-- two such texts compare so
abbrev pub ComparesAs : Depth → Weighting → List ℕ → List ℕ → Ordering → ℕ → Type 0
ComparesAs depth weighting left right order level = compared_at depth weighting (small_text left) (small_text right) ≡ record { order = order; level = level }

-- and at level 1 this many of their elements are fetched
abbrev pub Fetches : Weighting → List ℕ → List ℕ → ℕ → ℕ → Type 0
Fetches weighting left right f g =
    (fetched_left weighting (elements_under small_rows left) (elements_under small_rows right) ≡ f)
    × (fetched_right weighting (elements_under small_rows left) (elements_under small_rows right) ≡ g)

pub record WorkedTexts : Type 0 where
  -- `Aa` and `ab`, `ba` and `ab`: the first letters decide, or the next ones
  pub second_letter : ComparesAs Weights NonIgnorable (0x41 ∷ 0x61 ∷ []) (0x61 ∷ 0x62 ∷ []) Less 1 × Fetches NonIgnorable (0x41 ∷ 0x61 ∷ []) (0x61 ∷ 0x62 ∷ []) 2 2
  pub first_letter : ComparesAs Weights NonIgnorable (0x62 ∷ 0x61 ∷ []) (0x61 ∷ 0x62 ∷ []) Greater 1 × Fetches NonIgnorable (0x62 ∷ 0x61 ∷ []) (0x61 ∷ 0x62 ∷ []) 1 1
  -- one text has no letter, or its letters are equal: all of its elements are fetched
  pub nothing : ComparesAs Weights NonIgnorable [] (0x61 ∷ []) Less 1 × Fetches NonIgnorable [] (0x61 ∷ []) 0 1
  pub accent : ComparesAs Weights NonIgnorable (0x61 ∷ 0x301 ∷ []) (0x61 ∷ []) Greater 2 × Fetches NonIgnorable (0x61 ∷ 0x301 ∷ []) (0x61 ∷ []) 2 1
  pub han : ComparesAs Weights NonIgnorable (0x4E00 ∷ []) (0x4E01 ∷ []) Less 1 × Fetches NonIgnorable (0x4E00 ∷ []) (0x4E01 ∷ []) 2 2
  -- elements without a weight at level 1 are counted
  pub accent_first : ComparesAs Weights NonIgnorable (0x301 ∷ 0x61 ∷ []) (0x62 ∷ []) Less 1 × Fetches NonIgnorable (0x301 ∷ 0x61 ∷ []) (0x62 ∷ []) 2 1
  pub space_first : ComparesAs Weights Shifted (0x20 ∷ 0x61 ∷ []) (0x62 ∷ []) Less 1 × Fetches Shifted (0x20 ∷ 0x61 ∷ []) (0x62 ∷ []) 2 1
  pub space : ComparesAs Weights Shifted (0x61 ∷ 0x20 ∷ 0x62 ∷ []) (0x61 ∷ 0x62 ∷ []) Less 4 × Fetches Shifted (0x61 ∷ 0x20 ∷ 0x62 ∷ []) (0x61 ∷ 0x62 ∷ []) 3 2
  -- with an identical level
  pub further : ComparesAs Identical Shifted (0x20 ∷ 0x301 ∷ []) (0x20 ∷ []) Greater 5
  pub not_needed : ComparesAs Identical NonIgnorable (0x61 ∷ []) (0x62 ∷ []) Less 1
  pub same : ComparesAs Identical NonIgnorable (0x61 ∷ []) (0x61 ∷ []) Equal 0
  pub letter : key_at Identical NonIgnorable (small_text (0x61 ∷ [])) ≡ level_bytes (0x1C47 ∷ 0 ∷ 0x20 ∷ 0 ∷ 2 ∷ 0 ∷ []) ++ (0 ∷ 0 ∷ 0x61 ∷ [])
  pub letter_with_accent : key_at Identical NonIgnorable (small_text (0x61 ∷ 0x301 ∷ []))
      ≡ level_bytes (0x1C47 ∷ 0 ∷ 0x20 ∷ 0x24 ∷ 0 ∷ 2 ∷ 2 ∷ 0 ∷ []) ++ (0 ∷ 0 ∷ 0x61 ∷ 0 ∷ 3 ∷ 1 ∷ [])
  pub empty : key_at Identical NonIgnorable (small_text []) ≡ level_bytes (0 ∷ 0 ∷ 0 ∷ [])
  pub empty_shifted : key_at Identical Shifted (small_text []) ≡ level_bytes (0 ∷ 0 ∷ 0 ∷ 0 ∷ [])
