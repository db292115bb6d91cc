-- The levels of a key in the making.
use Rattle.std.specs.Prelude.{◌≡◌, ℕ, ◌+◌, ◌≤◌, List, [], ◌∷◌, Bool, reverse, flat_map, length, take, ⊤}
use Rattle.uca_weights.specs.declared.Element.{Element}
use Rattle.uca_weights.specs.declared.Weighting.{Weighting}
use Rattle.uca_weights.specs.declared.Weighting.TheVariants.{NonIgnorable, Shifted}
use Rattle.uca_key_writer.specs.declared.slots.Counts.{Counts}
use Rattle.uca_order.specs.Levels.{follows_variable, weighted, level_list, level_bytes}
use Rattle.uca_order.specs.StreamedWeights.{is_after_variable}

-- the bytes of each level, and the key
pub record LevelState : Type 0 where
  pub after_variable : Bool
  pub primary : List ℕ
  pub secondary : List ℕ
  pub tertiary : List ℕ
  pub quaternary : List ℕ
  pub key : List ℕ

-- the bytes of the four levels
abbrev pub four_levels : LevelState → List (List ℕ)
four_levels l = l.primary ∷ l.secondary ∷ l.tertiary ∷ l.quaternary ∷ []

-- the bytes of some weights, each as a list of its two bytes
abbrev pub flattened : List (List ℕ) → List ℕ
flattened pairs = flat_map (λ pair. pair) pairs

-- the bytes of the weights in the first slots
abbrev pub held : List (List ℕ) → ℕ → List ℕ
held slots count = flattened (take count slots)

-- the levels that have so many weights in their slots
abbrev pub levels_of : Bool → Counts → List (List ℕ) → List (List ℕ) → List (List ℕ) → List (List ℕ) → List ℕ → LevelState
levels_of after_variable counts primary secondary tertiary quaternary key = record {
  after_variable = after_variable;
  primary = held primary counts.primary;
  secondary = held secondary counts.secondary;
  tertiary = held tertiary counts.tertiary;
  quaternary = held quaternary counts.quaternary;
  key = key;
}

-- each level has slots for so many weights more
pub record HasRoom (more : ℕ) (counts : Counts) (p s t q : List (List ℕ)) : Type 0 where
  pub primary : counts.primary + more ≤ length p
  pub secondary : counts.secondary + more ≤ length s
  pub tertiary : counts.tertiary + more ≤ length t
  pub quaternary : counts.quaternary + more ≤ length q

-- the flag after one more element, which `NonIgnorable` does not ask
abbrev pub IsNextFlag : Weighting → Bool → Element → Bool → Type 0
IsNextFlag NonIgnorable flag e next = ⊤
IsNextFlag Shifted flag e next = next ≡ is_after_variable flag e

-- the bytes of a level of the elements, from 1 on
abbrev pub bytes_of_level : Weighting → List Element → ℕ → List ℕ
bytes_of_level weighting es level = level_bytes (level_list level (weighted weighting es))

-- the flag says whether the next element follows a variable one; `NonIgnorable` does not ask
abbrev pub HoldsFlag : Weighting → List Element → Bool → Type 0
HoldsFlag NonIgnorable es flag = ⊤
HoldsFlag Shifted es flag = flag ≡ follows_variable (reverse es)

-- the buffers have the bytes of the level lists of the elements
pub record HoldsLevels (weighting : Weighting) (es : List Element) (buffers : LevelState) : Type 0 where
  pub after_variable : HoldsFlag weighting es buffers.after_variable
  pub primary : buffers.primary ≡ bytes_of_level weighting es 1
  pub secondary : buffers.secondary ≡ bytes_of_level weighting es 2
  pub tertiary : buffers.tertiary ≡ bytes_of_level weighting es 3
  pub quaternary : buffers.quaternary ≡ bytes_of_level weighting es 4
