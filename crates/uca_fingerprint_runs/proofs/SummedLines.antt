-- What was read of a file with its sum, as it is known where no sum is made.
use Rattle.std.proofs.Common.{ℕ, List, Option, Some, None, inl, inr}
use Rattle.std.specs.Prelude.{IfSome, IsSomeAnd}
use Rattle.sha2.specs.declared.Sha256.{Sha256}
use Rattle.uca_lines.specs.declared.files.FileForm.{FileForm}
use Rattle.uca_lines.specs.Files.{FailsIn, Reaches, RefusesLine}
use Rattle.uca_fingerprint_runs.specs.Sums.{HoldsLines}

-- A parser p with a hasher h of each state s.
module _ {K S P : Type 0} (form : FileForm K) (parser : S → P) (hasher : S → Sha256) (Says : List (List ℕ) → P → Type 0)
    (Cause : P → List ℕ → K → Type 0) where
  -- the lines say this to the parser, and the hasher holds them
  abbrev SaysSummed : List (List ℕ) → S → Type 0
  SaysSummed lines s = Says lines (parser s) × HoldsLines (hasher s) lines

  abbrev CauseSummed : S → List ℕ → K → Type 0
  CauseSummed s line kind = Cause (parser s) line kind

  reaches : (bytes : List ℕ) (number : ℕ) (s : S) (rest : List ℕ) → Reaches form SaysSummed bytes number s rest → Reaches form Says bytes number (parser s) rest
  reaches bytes number s rest h = record { front = h.front; before = h.before; parts = h.parts; divides = h.divides; says = h.says.0; place = h.place }

  fails : (bytes left : List ℕ) (number : ℕ) → FailsIn form SaysSummed bytes left number → FailsIn form Says bytes left number
  fails bytes left number h = record { said = parser h.said; rest = h.rest; reaches = reaches _ _ _ _ h.reaches; loses = h.loses }

  fails_known : (bytes : List ℕ) (left : Option (List ℕ)) (number : ℕ) → IsSomeAnd left (λ rest. FailsIn form SaysSummed bytes rest number)
      → IsSomeAnd left (λ rest. FailsIn form Says bytes rest number)
  fails_known bytes None number h = h
  fails_known bytes (Some left) number h = fails bytes left number h

  refuses : (bytes : List ℕ) (left : Option (List ℕ)) (number : ℕ) (kind : K) → RefusesLine form SaysSummed CauseSummed bytes left number kind
      → RefusesLine form Says Cause bytes left number kind
  refuses bytes left number kind h = elim h [
    | inl failed ↦ inl (failed.0, fails_known bytes left number failed.1)
    | inr other ↦ elim other [
      | inl stopped ↦ inr (inl (stopped.0, record { said = parser stopped.1.said; rest = stopped.1.rest; reaches = reaches _ _ _ _ stopped.1.reaches }))
      | inr fault ↦ inr (inr (record {
        said = parser fault.said;
        rest = fault.rest;
        reaches = reaches _ _ _ _ fault.reaches;
        begins = record {
          line = fault.begins.line;
          more = fault.begins.more;
          parts = fault.begins.parts;
          lacks = fault.begins.lacks;
          ends = fault.begins.ends;
          stands = fault.begins.stands;
          cause = fault.begins.cause;
        };
      }))
    ]
  ]

  -- as `refuses`, for bytes that may be unknown
  pub refuses_known : (known left : Option (List ℕ)) (number : ℕ) (kind : K) → IfSome known (λ bytes. RefusesLine form SaysSummed CauseSummed bytes left number kind)
      → IfSome known (λ bytes. RefusesLine form Says Cause bytes left number kind)
  refuses_known None left number kind h = tt
  refuses_known (Some bytes) left number kind h = refuses bytes left number kind h
