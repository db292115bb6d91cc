-- Texts in one run of bytes.
use Rattle.std.specs.Prelude.{◌==◌, ℕ, List}
use Rattle.std.specs.List.{slice_split}

-- the texts, with a NUL between two of them; no bytes are one empty text
abbrev pub texts_in : List ℕ → List (List ℕ)
texts_in bytes = slice_split (λ byte. byte == 0) bytes
