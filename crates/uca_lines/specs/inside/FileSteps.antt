-- What one step of the reader of a file does: it takes the next line.
use Rattle.std.specs.Prelude.{◌≡◌, ◌⊎◌, ◌<◌, ℕ, List, [], ◌∷◌, ◌++◌, length, Option, None, IfSome, IsSomeAnd}
use Rattle.std.specs.Io.KnownBytes.{Consumes}
use Rattle.uca_lines.specs.Lines.{ended}
use Rattle.uca_lines.specs.declared.files.FileForm.{FileForm}
use Rattle.uca_lines.specs.Files.{IsFileLine, BeginsFault, LosesPart}

-- Known bytes lose a line and its LF. Lines that say s say t with this line after them. Where the format has no limit
-- on lines, they are fewer.
pub record TakesNext {K S : Type 0} (form : FileForm K) (Says : List (List ℕ) → S → Type 0) (old new : Option (List ℕ)) (s t : S) : Type 0 where
  pub line : List ℕ
  pub gone : Consumes old new (ended line)
  pub fits : IsFileLine form line
  pub more : (lines : List (List ℕ)) → Says lines s → Says (lines ++ line ∷ []) t
  pub few : form.too_many ≡ None → (lines : List (List ℕ)) → Says lines t → length lines < 1000000

-- Why line `number`, with which known bytes begin, is not taken: the source failed, which leaves these bytes; an
-- allocation failed; or a cause of the kind is there.
abbrev pub RefusesNext : {K S : Type 0} → FileForm K → (S → List ℕ → K → Type 0) → Option (List ℕ) → Option (List ℕ) → ℕ → S → K → Type 0
RefusesNext form Cause known left number s kind = ((kind ≡ form.failed_read) × IfSome known (λ text. IsSomeAnd left (LosesPart form text)))
    ⊎ (kind ≡ form.no_memory)
    ⊎ IfSome known (λ text. BeginsFault form Cause s number text kind)
