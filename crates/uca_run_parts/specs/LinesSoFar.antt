-- The lines of an input that were read so far. Contracts of the parts of runs cite this, and no contract of a whole run:
-- no promise of a run rests on it.
use Rattle.std.specs.Prelude.{◌≡◌, ℕ, List, [], ◌∷◌, ◌++◌, Bool, MatchBool, Option, Some, None, length, ⊤}
use Rattle.std.specs.List.{flat_map}
use Rattle.uca_text.specs.Texts.{NfdText}
use Rattle.uca_lines.specs.Lines.{ended, lines_of}
use Rattle.uca_run_parts.specs.Input.{clean_from, clean_lines}

-- The bytes are these lines, none of them with an error, and what is left after them. Each line has its LF; if no LF
-- ended the last one, nothing is left.
pub record IsAfter (read_of : List ℕ → NfdText) (bytes left : List ℕ) (is_cut : Bool) (before : List (List ℕ)) : Type 0 where
  pub parts : MatchBool is_cut (left ≡ []) (bytes ≡ flat_map ended before ++ left)
  pub lines : lines_of bytes ≡ before ++ lines_of left
  pub clean : clean_lines read_of (lines_of bytes) ≡ before ++ clean_from read_of (length before) (lines_of left)

-- The bytes are these lines, one more line that was read and may have an error, and what is left after it.
pub record IsNext (read_of : List ℕ → NfdText) (bytes left : List ℕ) (is_cut : Bool) (before : List (List ℕ)) (line : List ℕ) : Type 0 where
  pub parts : MatchBool is_cut (left ≡ []) (bytes ≡ flat_map ended (before ++ line ∷ []) ++ left)
  pub lines : lines_of bytes ≡ before ++ line ∷ lines_of left
  pub clean : clean_lines read_of (lines_of bytes) ≡ before ++ clean_from read_of (length before) (line ∷ lines_of left)

-- what is true of known bytes, and of what is left of them
abbrev pub OnKnown : Option (List ℕ) → Option (List ℕ) → (List ℕ → List ℕ → Type 0) → Type 0
OnKnown None left P = ⊤
OnKnown (Some bytes) None P = ⊥
OnKnown (Some bytes) (Some left) P = P bytes left

-- all lines of the bytes are these, and none has an error
pub record AreAll (read_of : List ℕ → NfdText) (bytes : List ℕ) (all : List (List ℕ)) : Type 0 where
  pub lines : lines_of bytes ≡ all
  pub clean : clean_lines read_of (lines_of bytes) ≡ all
