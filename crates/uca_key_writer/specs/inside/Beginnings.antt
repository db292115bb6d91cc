-- The beginning of a key, for which a part of the text is read, and how the rest is judged.
use Rattle.std.specs.Prelude.{◌≡◌, ℕ, ◌+◌, ◌≤◌, ◌<◌, List, [], ◌∷◌, ◌++◌, ◌⊎◌, map, length, chars}
use Rattle.std.specs.List.{flat_map}
use Rattle.unicode_normalization.specs.Forms.{Nfd, nfd}
use Rattle.unicode_normalization.specs.Decompose.{decompose}
use Rattle.uca_weights.specs.declared.Element.{Element}
use Rattle.uca_weights.specs.declared.Weighting.{Weighting}
use Rattle.uca_text.specs.Texts.{nfd_text}
use Rattle.uca_text.specs.Limits.{HasNoLongRun}
use Rattle.uca_elements.specs.Collations.{Collation, elements_of}
use Rattle.uca_key_writer.specs.inside.LevelBuffers.{LevelState, HoldsLevels}
use Rattle.uca_key_writer.specs.inside.Pieces.{HasRead}
use Rattle.uca_plain.specs.PointCache.{BeginsWithStarter}

-- The levels have the first elements of a text. If there are fewer than sixteen bytes at level 1, they have all elements.
pub record HasBegun (c : Collation) (weighting : Weighting) (xs : List ℕ) (levels : LevelState) : Type 0 where
  pub elements : List Element
  pub more : List Element
  pub parts : elements_of c (nfd_text c.properties xs) ≡ elements ++ more
  pub held : HoldsLevels weighting elements levels
  pub whole : length levels.primary < 16 → HasRead c weighting xs levels

-- The text so far. What comes before its last part has no long run. The last part begins with a starter, or where the text
-- begins, and decomposes to at most so many code points.
pub record IsJudged (c : Collation) (xs : List ℕ) (count : ℕ) : Type 0 where
  pub before : List ℕ
  pub last : List ℕ
  pub split : xs ≡ before ++ last
  pub runs : HasNoLongRun (map c.properties.class (nfd before))
  pub begins : (before ≡ []) ⊎ ((y : ℕ) × (ys : List ℕ) × (last ≡ y ∷ ys) × BeginsWithStarter c y)
  pub counted : length (flat_map (decompose Nfd) last) ≤ count
  pub few : count ≤ 64

-- What is left of a text, where the code points before it are judged.
pub record IsJudgedTo (c : Collation) (all rest : List ℕ) (count : ℕ) : Type 0 where
  pub done : List ℕ
  pub split : all ≡ done ++ chars rest
  pub judged : IsJudged c done count

-- The text `rest` is left of a text where code points before it were passed over. With them the count is at least what they
-- decompose to.
pub record HasPassed (text rest : List ℕ) (count more : ℕ) : Type 0 where
  pub passed : List ℕ
  pub split : chars text ≡ passed ++ chars rest
  pub counted : count + length (flat_map (decompose Nfd) passed) ≤ more
