-- Values that come in turn in a text.
use Rattle.std.specs.Prelude.{◌≡◌, ℕ, ◌≤◌, List, [], ◌∷◌, length, Some}
use Rattle.uca_lines.specs.Fields.{skip_blanks, word_of, after_word}
use Rattle.uca_lines.specs.Numbers.{code_point_of}

-- The text is these values, in turn, with or without blanks around each; rest is what
-- follows the blanks after the last one. (Begins text x more) says that the text is x and then more.
abbrev pub Leads : {X : Type 0} → (List ℕ → X → List ℕ → Type 0) → List ℕ → List X → List ℕ → Type 0
Leads Begins text [] rest = skip_blanks text ≡ rest
Leads Begins text (x ∷ xs) rest = (more : List ℕ) × Begins (skip_blanks text) x more × Leads Begins more xs rest

-- a word that is a code point
pub record BeginsCodePoint (text : List ℕ) (c : ℕ) (more : List ℕ) : Type 0 where
  pub word : code_point_of (word_of text) ≡ Some c
  pub rest : after_word text ≡ more

-- the word w
pub record BeginsWord (text w more : List ℕ) : Type 0 where
  pub some : 1 ≤ length w
  pub word : word_of text ≡ w
  pub rest : after_word text ≡ more
