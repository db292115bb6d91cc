-- How a text is cut: at blanks, at its first `#`, into words, and at its first `..`.
use Rattle.std.specs.Prelude.{ℕ, Bool, ◌||◌, ◌&&◌, ◌==◌, not, List, [], ◌∷◌, if◌then◌else◌, Option, Some, None}
use Rattle.std.specs.List.{list_all}
use Rattle.std.specs.Option.{option_map}

-- a space or a tab
abbrev pub is_blank : ℕ → Bool
is_blank b = b == 32 || b == 9

abbrev pub is_hash : ℕ → Bool
is_hash b = b == 35

abbrev pub is_semicolon : ℕ → Bool
is_semicolon b = b == 59

-- the text up to the first byte that passes, and from that byte on
abbrev pub up_to : (ℕ → Bool) → List ℕ → List ℕ
up_to p [] = []
up_to p (b ∷ bs) = if p b then [] else b ∷ up_to p bs

abbrev pub from_first : (ℕ → Bool) → List ℕ → List ℕ
from_first p [] = []
from_first p (b ∷ bs) = if p b then b ∷ bs else from_first p bs

-- the text without the blanks at its front, at its end, and at both
abbrev pub skip_blanks : List ℕ → List ℕ
skip_blanks text = from_first (λ b. not (is_blank b)) text

abbrev pub no_end_blanks : List ℕ → List ℕ
no_end_blanks [] = []
no_end_blanks (b ∷ bs) = if list_all is_blank (b ∷ bs) then [] else b ∷ no_end_blanks bs

abbrev pub trim : List ℕ → List ℕ
trim text = no_end_blanks (skip_blanks text)

-- what a line says: nothing from its first `#` on, and no blanks at both ends
abbrev pub text_of : List ℕ → List ℕ
text_of line = trim (up_to is_hash line)

-- the word at the front of a text, and what follows it
abbrev pub word_of : List ℕ → List ℕ
word_of text = up_to is_blank text

abbrev pub after_word : List ℕ → List ℕ
after_word text = from_first is_blank text

-- the text before and after its first `..`
abbrev pub halves : List ℕ → Option (List ℕ × List ℕ)
halves [] = None
halves (a ∷ []) = None
halves (a ∷ b ∷ bs) = if a == 46 && b == 46 then Some ([], bs) else option_map (λ h. (a ∷ h.0, h.1)) (halves (b ∷ bs))
