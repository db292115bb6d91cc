-- The least map of a level.
use Rattle.std.specs.Prelude.{ℕ, List, [], ◌∷◌, Option, Some, None}
use Rattle.uca_weights.specs.declared.Level.{Level}
use Rattle.uca_weights.specs.declared.Level.TheVariants.{One, Two, Three}
use Rattle.uca_weights.specs.declared.maps.Run.{Run}

-- the weight that the map of a level sends to itself, if there is one
abbrev pub fixed_weight : Level → Option ℕ
fixed_weight One = None
fixed_weight Two = Some 0x20
fixed_weight Three = Some 2

-- the run of this weight alone
abbrev pub run_of : Option ℕ → List Run
run_of None = []
run_of (Some w) = (record { from = w; to = w; count = 1 }) ∷ []

abbrev pub least_runs : Level → List Run
least_runs level = run_of (fixed_weight level)
