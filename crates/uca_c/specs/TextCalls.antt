-- Calls with one text: whether it is accepted, the beginning of its key, and how many bytes keys have at most.
use Rattle.std.specs.Prelude.{◌≡◌, ◌⊎◌, ◌++◌, ℕ, ◌+◌, ◌-◌, ◌*◌, ◌^◌, List, Option, Some, None, length, min, take, drop}
use Rattle.std.specs.Str.{IsValidUpTo}
use Rattle.uca_text.specs.declared.normalize.TextFault.TheVariants.{TooLong, LongRun, Memory}
use Rattle.uca_order.specs.Keyings.{Keying}
use Rattle.uca_books.specs.Books.{BookContent}
use Rattle.uca_owned.specs.Bounds.{key_bound}
use Rattle.uca_owned.specs.Causes.{IsAcceptedBy, IsKeyCause}
use Rattle.uca_owned.specs.declared.faults.KeyFault.{KeyFault}
use Rattle.uca_owned.specs.declared.faults.KeyFault.TheVariants.{Utf8, Text}
use Rattle.uca_c.specs.declared.statuses.TheConstants.{OK}
use Rattle.uca_c.specs.Statuses.{IsErrorStatus, key_status}

-- where a text is rejected: at its first byte that is not UTF-8, or at the first non-starter of the long run
abbrev pub IsAt : List ℕ → ℕ → KeyFault → Type 0
IsAt bytes position Utf8 = IsValidUpTo bytes position
IsAt bytes position (Text TooLong) = position ≡ 0
IsAt bytes position (Text (LongRun first)) = position ≡ first
IsAt bytes position (Text Memory) = position ≡ 0

-- the text has this cause at this position
abbrev pub IsCauseAt : Keying → List ℕ → ℕ → KeyFault → Type 0
IsCauseAt k bytes position fault = IsKeyCause k.settings.numbers k.collation.properties bytes fault × IsAt bytes position fault

-- the text is accepted, or it is rejected at this position
abbrev pub IsJudged : Keying → List ℕ → (status position : ℕ) → Type 0
IsJudged k bytes status position = (IsAcceptedBy k bytes × (status ≡ OK) × (position ≡ 0))
    ⊎ IsErrorStatus (IsCauseAt k bytes position) key_status status

-- the text is accepted, or it is rejected
abbrev pub IsBeginningStatus : Keying → List ℕ → ℕ → Type 0
IsBeginningStatus k bytes status = (IsAcceptedBy k bytes × (status ≡ OK))
    ⊎ IsErrorStatus (IsKeyCause k.settings.numbers k.collation.properties bytes) key_status status

-- as many bytes of the key as there is room for are at the beginning of the caller's memory, and the rest is as before
pub record WritesBeginning (key before after : List ℕ) (count : ℕ) : Type 0 where
  pub needed : count ≡ length key
  pub written : after ≡ take (length before) key ++ drop (length key) before

-- How many bytes a key of a text of so many bytes has at most. A compact key has at most one byte more than twice its whole key.
abbrev pub bound_by : Option BookContent → ℕ → ℕ
bound_by None count = key_bound count
bound_by (Some b) count = min (2 * key_bound count + 1) (2 ^ 64 - 1)
