-- What an error writes on standard output and standard error.
use Rattle.std.specs.Prelude.{◌≡◌, ◌⊎◌, ℕ, ◌<◌, List, [], ◌∷◌, ◌++◌, Bool, true, MatchBool, Option, None, IfSome, length}
use Rattle.std.specs.Io.KnownBytes.{Appends}
use Rattle.clap.specs.declared.error.kind.ErrorKind.{ErrorKind}
use Rattle.clap.specs.Values.{kind_of}
use Rattle.uca_weights.specs.Streams.{SinkState}
use Rattle.uca_weights.specs.Writes.{WentOut}
use Rattle.uca_words.specs.declared.WordFault.{WordFault}
use Rattle.uca_words.specs.declared.WordFault.TheVariants.{Refused}
use Rattle.uca_run_parts.specs.declared.faults.RunFault.{RunFault}
use Rattle.uca_run_parts.specs.declared.faults.RunFault.TheVariants.{Memory, Words}
use Rattle.uca_run_parts.specs.FaultText.{fault_text}
use Rattle.uca_host.specs.Statuses.{is_asked_for, refusal_status}

-- the text went out whole; or the writer failed, and the first bytes of it went out
abbrev pub GoesOut : SinkState → SinkState → List ℕ → Type 0
GoesOut sink sink_new text = (Appends sink.contents sink_new.contents text × (sink_new.failed ≡ sink.failed))
    ⊎ ((written : ℕ) × WentOut sink.contents sink_new.contents text written × (written < length text) × (sink_new.failed ≡ true))

-- the line of the error went to standard error, and nothing to standard output
abbrev pub WritesLine : RunFault → SinkState → SinkState → SinkState → SinkState → Type 0
WritesLine fault out out_new err err_new = (out_new ≡ out) × GoesOut err err_new (fault_text fault ++ 10 ∷ [])

-- one text went to standard output if it was asked for, else to standard error, and nothing to the other; it is what
-- the error shows, where that is known
abbrev pub WritesText : Bool → Option (List ℕ) → SinkState → SinkState → SinkState → SinkState → Type 0
WritesText asked shown out out_new err err_new = (text : List ℕ) × IfSome shown (λ known. text ≡ known)
    × MatchBool asked (GoesOut out out_new text × (err_new ≡ err)) ((out_new ≡ out) × GoesOut err err_new text)

-- what an error of `clap` of this kind that shows this text writes, with which status: its text, or the line `memory`
abbrev pub ReportsRefusal : ErrorKind → Option (List ℕ) → ℕ → SinkState → SinkState → SinkState → SinkState → Type 0
ReportsRefusal kind shown status out out_new err err_new = ((status ≡ refusal_status kind) × WritesText (is_asked_for kind) shown out out_new err err_new)
    ⊎ ((status ≡ 4) × WritesLine Memory out out_new err err_new)

-- what an error of `clap` shows is not known
abbrev pub ReportsWords : WordFault → ℕ → SinkState → SinkState → SinkState → SinkState → Type 0
ReportsWords (Refused error) status out out_new err err_new = ReportsRefusal (kind_of error) None status out out_new err err_new
ReportsWords fault status out out_new err err_new = WritesLine (Words fault) out out_new err err_new

-- what an error writes, with which status
abbrev pub Reports : RunFault → ℕ → SinkState → SinkState → SinkState → SinkState → Type 0
Reports (Words fault) status out out_new err err_new = ReportsWords fault status out out_new err err_new
Reports fault status out out_new err err_new = WritesLine fault out out_new err err_new
