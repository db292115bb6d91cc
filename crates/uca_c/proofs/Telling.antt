-- What a caller is told of an error of opening.
use Rattle.std.proofs.Common.{◌≡◌, ◌∙◌, ℕ, List, Some, ap, inl, inr, subst, sym}
use Rattle.uca_weights.specs.declared.Asked.{Asked}
use Rattle.uca_weights.specs.declared.Numbers.TheVariants.{AsText, ByValue}
use Rattle.uca_values.specs.Content.{TableContent, Properties}
use Rattle.uca_number_keys.specs.Tables.{RefusesTable}
use Rattle.uca_owned.specs.declared.faults.OpenFault.{OpenFault}
use Rattle.uca_owned.specs.declared.faults.OpenFault.TheVariants as faults
use Rattle.uca_owned.specs.Opening.{IsOpenCause, IsOpenStop}
use Rattle.uca_order.specs.Keyings.{Keying}
use Rattle.uca_c.specs.Numbers.{asked_of, kind_number}
use Rattle.uca_c.specs.Opened.{AreRead, IsOpenStatus, IsOpenStopStatus, IsReadStatus, IsStopStatus, OpensBy, TellsFault}

not_by_value : AsText ≡ ByValue → ⊥
not_by_value same = cc

-- it is the status of a stop, if the error is in no file
pub told_read_stop : (table : TableContent) (properties : Properties) (fault : OpenFault) (line kind status : ℕ)
    → IsOpenStop AsText table properties fault → TellsFault fault line kind status → IsStopStatus status kind
told_read_stop table properties (faults.Table fault) line kind status stop told = inr (inl told.2, told.1 ∙ ap kind_number stop)
told_read_stop table properties (faults.Data fault) line kind status stop told = inr (inr told.2, told.1 ∙ ap kind_number stop)
told_read_stop table properties (faults.Digits row) line kind status stop told = absurd (not_by_value stop.asked)
told_read_stop table properties faults.Memory line kind status stop told = inl told.2

-- so it is of a table that is none for what is asked for
pub told_stop : (asked : Asked) (table : TableContent) (properties : Properties) (fault : OpenFault) (line kind status : ℕ)
    → IsOpenStop asked.numbers table properties fault → TellsFault fault line kind status → IsOpenStopStatus asked table properties line kind status
told_stop asked table properties (faults.Table fault) line kind status stop told = inl (inr (inl told.2, told.1 ∙ ap kind_number stop))
told_stop asked table properties (faults.Data fault) line kind status stop told = inl (inr (inr told.2, told.1 ∙ ap kind_number stop))
told_stop asked table properties (faults.Digits row) line kind status stop told =
    inr (told.2, subst (RefusesTable asked.numbers table properties) (sym told.0) stop, told.1)
told_stop asked table properties faults.Memory line kind status stop told = inl (inl told.2)

module _ (weighting depth : ℕ) (asked : Asked) (table_bytes data_bytes : List ℕ) (is_asked : asked_of weighting depth ≡ Some asked) where
  -- it is the status of an error that has a cause in a file, where the numbers ask for settings
  pub told_read : (fault : OpenFault) (line kind status : ℕ) → IsOpenCause AsText table_bytes data_bytes fault → TellsFault fault line kind status
      → IsReadStatus weighting depth table_bytes data_bytes line kind status
  told_read (faults.Table fault) line kind status cause told = inr (inl (told.2, record { fault = fault; cause = cause; line = told.0; kind = told.1 }))
  told_read (faults.Data fault) line kind status cause told = inr (inr (inl (told.2, record { fault = fault; cause = cause; line = told.0; kind = told.1 })))
  told_read (faults.Digits row) line kind status cause told = absurd (not_by_value cause.3.asked)
  told_read faults.Memory line kind status cause told =
      inr (inr (inr (told.2, (asked, cause.0, cause.1, record { is_asked = is_asked; mean = cause.2 }), (told.0, told.1))))

  -- or in both
  pub told_cause : (fault : OpenFault) (line kind status : ℕ) → IsOpenCause asked.numbers table_bytes data_bytes fault → TellsFault fault line kind status
      → IsOpenStatus weighting depth table_bytes data_bytes line kind status
  told_cause (faults.Table fault) line kind status cause told = inl (told_read (faults.Table fault) line kind status cause told)
  told_cause (faults.Data fault) line kind status cause told = inl (told_read (faults.Data fault) line kind status cause told)
  told_cause (faults.Digits row) line kind status cause told =
      inr (
        asked,
        cause.0,
        cause.1,
        record { is_asked = is_asked; mean = cause.2 },
        (told.2, subst (RefusesTable asked.numbers cause.0 cause.1) (sym told.0) cause.3, told.1),
      )
  told_cause faults.Memory line kind status cause told = inl (told_read faults.Memory line kind status cause told)

-- what was opened was read
pub read_of : (weighting depth : ℕ) (table_bytes data_bytes : List ℕ) (k : Keying) → OpensBy weighting depth table_bytes data_bytes k
    → AreRead weighting depth table_bytes data_bytes
read_of weighting depth table_bytes data_bytes k opens =
    (opens.asked, opens.opens.table, opens.opens.properties, record { is_asked = opens.is_asked; mean = opens.opens.mean })
