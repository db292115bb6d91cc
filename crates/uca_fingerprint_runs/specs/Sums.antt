-- Files of lines and the SHA-256 of their bytes.
use Rattle.std.specs.Prelude.{◌≡◌, ℕ, List}
use Rattle.std.specs.List.{flat_map}
use Rattle.sha2.specs.Hashers.{Holds256}
use Rattle.sha2.specs.Sha256.{sha256}
use Rattle.sha2.specs.declared.Sha256.{Sha256}
use Rattle.uca_lines.specs.Lines.{ended}

-- the hasher holds these lines, each ended by an LF
abbrev pub HoldsLines : Sha256 → List (List ℕ) → Type 0
HoldsLines hasher lines = Holds256 hasher (flat_map ended lines)

-- the bytes mean this, and have this sum
abbrev pub MeansSummed : {V : Type 0} → (List ℕ → V → Type 0) → List ℕ → V × List ℕ → Type 0
MeansSummed Means bytes read = Means bytes read.0 × (read.1 ≡ sha256 bytes)
