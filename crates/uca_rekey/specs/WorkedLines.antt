-- Lines and their compact keys, worked out by hand: two that become other lines, two after a header, and two that have
-- none.
use Rattle.std.specs.Prelude.{ℕ, List, [], ◌∷◌, ◌++◌, Some, None, codes}
use Rattle.uca_weights.specs.declared.Depth.TheVariants.{Weights}
use Rattle.uca_weights.specs.declared.Weighting.TheVariants.{NonIgnorable}
use Rattle.uca_compact.specs.WorkedKeys.{small_book}
use Rattle.uca_run_parts.specs.declared.faults.StoredKeyKind.TheVariants.{NoKey, OtherKey}
use Rattle.uca_rekey.specs.ChangedLines.{LineBecomes, LinesBecomeAfter, compacts, expands}
use Rattle.uca_rekey.specs.ChangeRun.{IsChangeCause}

-- the key of a line, a tab and `a b`
abbrev pub with_text : List ℕ → List ℕ
with_text key = key ++ 9 ∷ codes "a b"

pub record WorkedLines : Type 0 where
  -- 1C47 has a cell of its own, 08, and 02 says that all later levels are plain
  pub letter : LineBecomes (compacts Weights NonIgnorable small_book) (with_text (codes "1C47 0000 0020 0000 0002")) (with_text (codes "0802"))
  -- the key comes back without spaces
  pub expanded : LineBecomes (expands Weights NonIgnorable small_book) (with_text (codes "08 02")) (with_text (codes "1C470000002000000002"))
  -- after a header, in whose place another one stands
  pub headed : LinesBecomeAfter (compacts Weights NonIgnorable small_book) (Some (record { old = codes "#uca keys"; new = codes "#uca compact" }))
      (codes "#uca keys" ∷ codes "1C47 0000 0020 0000 0002" ∷ []) (codes "#uca compact" ∷ codes "0802" ∷ [])
  -- after another one
  pub other_header : ¬ (LinesBecomeAfter (compacts Weights NonIgnorable small_book) (Some (record { old = codes "#uca keys"; new = codes "#uca compact" }))
      (codes "#uca compact" ∷ codes "1C47 0000 0020 0000 0002" ∷ []) (codes "#uca compact" ∷ codes "0802" ∷ []))
  -- two levels, where the settings have three
  pub few_levels : IsChangeCause (compacts Weights NonIgnorable small_book) None [] (with_text (codes "1C47 0000 0020")) OtherKey
  -- three digits are no bytes
  pub odd : IsChangeCause (compacts Weights NonIgnorable small_book) None [] (with_text (codes "1C4")) NoKey
