-- How an element is found at the front of a text.
use Rattle.std.specs.Prelude.{ℕ, Bool, true, false, List, [], ◌∷◌, ◌==◌, Option, Some, None, option_and_then, if◌then◌else◌, take, drop}
use Rattle.std.specs.Option.{option_map}
use Rattle.uca_weights.specs.declared.Element.{Element}
use Rattle.uca_lines.specs.Numbers.{weight_of}

infixl 10 ◌>>=◌
abbrev pub ◌>>=◌ : {A B : Type 0} → Option A → (A → Option B) → Option B
o >>= f = option_and_then f o

-- what follows the byte, where the text begins with it
unfoldable pub after_byte : ℕ → List ℕ → Option (List ℕ)
after_byte byte [] = None
after_byte byte (b ∷ bs) = if b == byte then Some bs else None

-- whether `*` or `.` is at the front, and what follows it
unfoldable pub mark_at : List ℕ → Option (Bool × List ℕ)
mark_at [] = None
mark_at (b ∷ bs) = if b == 46 then Some (false, bs) else (if b == 42 then Some (true, bs) else None)

-- the weight of the first four bytes, and what follows them
unfoldable pub weight_at : List ℕ → Option (ℕ × List ℕ)
weight_at text = option_map (λ w. (w, drop 4 text)) (weight_of (take 4 text))

-- the weight after a dot, and what follows it
unfoldable pub dotted_weight_at : List ℕ → Option (ℕ × List ℕ)
dotted_weight_at text = do
  weight ← after_byte 46 text
  weight_at weight

unfoldable pub element_at : List ℕ → Option (Element × List ℕ)
element_at text = do
  marked ← after_byte 91 text
  mark ← mark_at marked
  primary ← weight_at mark.1
  secondary ← dotted_weight_at primary.1
  tertiary ← dotted_weight_at secondary.1
  rest ← after_byte 93 tertiary.1
  Some (record { primary = primary.0; secondary = secondary.0; tertiary = tertiary.0; mark = mark.0 }, rest)
