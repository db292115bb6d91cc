-- What the status of a call says of its texts.
use Rattle.std.specs.Prelude.{◌≡◌, ◌⊎◌, ℕ, List}
use Rattle.uca_text.specs.declared.normalize.TextFault.TheVariants.{TooLong, LongRun, Memory}
use Rattle.uca_order.specs.Keyings.{Keying}
use Rattle.uca_owned.specs.Causes.{IsAcceptedBy, IsKeyCause, IsCompareCause}
use Rattle.uca_owned.specs.declared.faults.KeyFault.{KeyFault}
use Rattle.uca_owned.specs.declared.faults.KeyFault.TheVariants.{Utf8, Text}
use Rattle.uca_owned.specs.declared.faults.CompareFault.{CompareFault}
use Rattle.uca_owned.specs.declared.faults.CompareFault.TheVariants.{Left, Right}
use Rattle.uca_c.specs.declared.statuses.TheConstants.{OK, MEMORY, UTF8, TOO_LONG, LONG_RUN, SMALL}

abbrev pub key_status : KeyFault → ℕ
key_status Utf8 = UTF8
key_status (Text TooLong) = TOO_LONG
key_status (Text (LongRun place)) = LONG_RUN
key_status (Text Memory) = MEMORY

abbrev pub compare_status : CompareFault → ℕ
compare_status (Left fault) = key_status fault
compare_status (Right fault) = key_status fault

-- the status is that of an error which has a cause
pub record IsErrorStatus {F : Type 0} (IsCause : F → Type 0) (status_of : F → ℕ) (status : ℕ) : Type 0 where
  pub fault : F
  pub cause : IsCause fault
  pub same : status ≡ status_of fault

-- the text is accepted, and its key is written or has no room; or it is rejected
abbrev pub IsKeyStatus : Keying → List ℕ → ℕ → Type 0
IsKeyStatus k text status = (IsAcceptedBy k text × ((status ≡ OK) ⊎ (status ≡ SMALL)))
    ⊎ IsErrorStatus (IsKeyCause k.settings.numbers k.collation.properties text) key_status status

-- both texts are accepted, or one is rejected
abbrev pub IsCompareStatus : Keying → List ℕ → List ℕ → ℕ → Type 0
IsCompareStatus k left right status = (IsAcceptedBy k left × IsAcceptedBy k right × (status ≡ OK))
    ⊎ IsErrorStatus (IsCompareCause k.settings.numbers k.collation.properties left right) compare_status status
