-- What a line of help writes on standard error.
use Rattle.std.specs.Prelude.{◌≡◌, ◌⊎◌, ◌++◌, ◌∷◌, [], ℕ, false, List, Contains, codes}
use Rattle.uca_weights.specs.Streams.{SinkState}
use Rattle.uca_host.specs.Reports.{GoesOut}

-- the line of help of this text
abbrev pub help_line : List ℕ → List ℕ
help_line text = codes "help: " ++ text ++ 10 ∷ []

-- a line that begins with `help: ` and ends with its only LF
abbrev pub IsHelp : List ℕ → Type 0
IsHelp line = (text : List ℕ) × (¬ (Contains text 10)) × (line ≡ help_line text)

-- Nothing is written. Or one such line is, and the writer had not failed before.
abbrev pub Helps : SinkState → SinkState → Type 0
Helps err err_new = (err_new ≡ err) ⊎ ((line : List ℕ) × IsHelp line × (err.failed ≡ false) × GoesOut err err_new line)
