-- Positions at which a text may be cut, so that it is matched as its two pieces.
use Rattle.std.specs.Prelude.{◌≡◌, ℕ, List, [], ◌∷◌, ◌++◌, ⊤, IsTrue}
use Rattle.uca_weights.specs.declared.Element.{Element}
use Rattle.uca_text.specs.Texts.{Text, is_starter}
use Rattle.uca_elements.specs.Rows.{Rows, Keys, is_key}
use Rattle.uca_elements.specs.Reading.{parts, read}

-- no key has the code point after its first one
abbrev pub IsNoFollower : Keys → ℕ → Type 0
IsNoFollower keys c = (first : ℕ) (before after : List ℕ) → ¬ (IsTrue (keys (first ∷ (before ++ c ∷ after))))

-- the text is empty, or begins with a starter that no key has after its first code point
abbrev pub IsCut : Keys → Text → Type 0
IsCut keys [] = ⊤
IsCut keys (c ∷ t) = IsTrue (is_starter c) × IsNoFollower keys c.code

-- a text is matched as the piece before a cut, and then as the piece after it
abbrev pub PartsInPieces : Type 0
PartsInPieces = (keys : Keys) (s t : Text) → IsCut keys t → parts keys (s ++ t) ≡ parts keys s ++ parts keys t

-- and reads as these two
abbrev pub TextsReadInPieces : Type 0
TextsReadInPieces = (implicit : ℕ → List Element) (rows : Rows) (s t : Text) → IsCut (is_key rows) t →
    read implicit rows (s ++ t) ≡ read implicit rows s ++ read implicit rows t
