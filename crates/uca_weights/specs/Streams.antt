-- What a clause sees of a `Source` and of a `Sink`.
use Rattle.std.specs.Prelude.{ℕ, List, Bool, Option}

-- the bytes that are left, if the reader says which, and whether it has failed
pub record SourceState : Type 0 where
  pub remaining : Option (List ℕ)
  pub failed : Bool

-- the bytes that the writer has, if it says which, and whether it has failed
pub record SinkState : Type 0 where
  pub contents : Option (List ℕ)
  pub failed : Bool
