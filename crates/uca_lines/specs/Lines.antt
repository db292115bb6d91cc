-- How a text is cut into lines at each LF.
use Rattle.std.specs.Prelude.{◌≡◌, ℕ, Bool, false, ◌==◌, List, [], ◌∷◌, ◌++◌, if◌then◌else◌}
use Rattle.std.specs.List.{AllByRecursion, onto_first}

-- whether a byte is LF
abbrev pub is_lf : ℕ → Bool
is_lf byte = byte == 10

-- no byte of the text passes the test
abbrev pub Lacks : (ℕ → Bool) → List ℕ → Type 0
Lacks p text = AllByRecursion (λ b. p b ≡ false) text

-- a line and the LF that ends it
abbrev pub ended : List ℕ → List ℕ
ended line = line ++ 10 ∷ []

-- the lines of a text, without LF: each ends in one, and bytes after the last LF are a line too
abbrev pub lines_of : List ℕ → List (List ℕ)
lines_of [] = []
lines_of (byte ∷ bytes) = if is_lf byte then [] ∷ lines_of bytes else onto_first byte (lines_of bytes)
