-- The code points of strings.
use Rattle.std.proofs.Common.{◌≡◌, ℕ, List, [], ◌∷◌, ◌++◌, sym, ap, ◌∙◌, append-nil, encode_utf8_all}
use Rattle.std.specs.Char.{encode_utf8}
use Rattle.std.specs.Str.{chars, IsUtf8}
use Rattle.std.proofs.lemmas.Str.{encodes-chars, encodes-append, chars_from_encodes}

-- a text with one more code point
pub chars_pushed : (old new : List ℕ) (x : ℕ) → IsUtf8 old → IsUtf8 new → new ≡ old ++ encode_utf8 x → chars new ≡ chars old ++ x ∷ []
chars_pushed old new x utf8 whole is =
    let bytes : encode_utf8_all (chars old ++ x ∷ []) ≡ new =
    encodes-append (chars old) (x ∷ []) ∙ ap (λ l. l ++ (encode_utf8 x ++ [])) (encodes-chars old utf8) ∙ ap (λ l. old ++ l) (append-nil (encode_utf8 x)) ∙ sym is in
    sym (chars_from_encodes (chars old ++ x ∷ []) new whole bytes)
