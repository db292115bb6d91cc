-- What a program knows of the levels of a key while it puts the compact key.
use Rattle.std.specs.Prelude.{◌≡◌, ℕ, ◌+◌, ◌*◌, ◌/◌, ◌<◌, ◌≤◌, Bool, List, ◌++◌, length, drop}
use Rattle.uca_compact.specs.Forms.{Form}
use Rattle.uca_compact.specs.PlainLevels.{letters_after, letter_count}
use Rattle.uca_compact.specs.CompactKeys.{level_code}
use Rattle.uca_compact.specs.LevelBytes.{weights_in}

-- these are the weights of a level before a position
pub record AreBefore (level : List ℕ) (at : ℕ) (weights : List ℕ) : Type 0 where
  pub size : 2 * length weights ≡ at
  pub within : at ≤ length level
  pub upto : weights ++ weights_in (drop at level) ≡ weights_in level

-- the weights of level 1 before a position were counted, and put
pub record IsPutTo (f : Form) (level out : List ℕ) (at count : ℕ) (lead : Bool) : Type 0 where
  pub weights : List ℕ
  pub before : AreBefore level at weights
  pub few : count ≤ length weights
  pub counted : (more : List ℕ) → count + letters_after lead more ≡ letter_count (weights ++ more)
  pub code : (end : ℕ) (more : List ℕ) → out ++ level_code f end 0 more ≡ level_code f end 0 (weights ++ more)

-- these are the weights of a level before a position of its rest
pub record AreUpTo (level rest : List ℕ) (at : ℕ) (weights : List ℕ) : Type 0 where
  pub size : 2 * length weights + length rest ≡ length level + at
  pub within : at ≤ length rest
  pub even : 2 * (at / 2) ≡ at
  pub whole : 2 * (length rest / 2) ≡ length rest
  pub upto : weights ++ weights_in (drop at rest) ≡ weights_in level

-- the weights of a later level before a position of its rest were put after the bytes `front`, but for a run of common ones
pub record IsLaterTo (f : Form) (end : ℕ) (level rest front out : List ℕ) (at run : ℕ) : Type 0 where
  pub weights : List ℕ
  pub before : AreUpTo level rest at weights
  pub short : run < f.longest
  pub code : (more : List ℕ) → out ++ level_code f end run more ≡ front ++ level_code f end 0 (weights ++ more)
