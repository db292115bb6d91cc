-- What the errors of the loop that reads files are called, for the contracts of that loop and of parsers of lines.
use Rattle.std.specs.Prelude.{◌≡◌, Bool, true, false, IfSome, Result, Ok, Err}
use Rattle.std.specs.Option.{unwrap_or}
use Rattle.uca_lines.specs.declared.files.FileForm.{FileForm}
use Rattle.uca_lines.specs.declared.files.LineFileFault.{LineFileFault}
use Rattle.uca_lines.specs.declared.lines.LineFault.{LineFault}
use Rattle.uca_lines.specs.declared.lines.LineFault.TheVariants.{TooLong, Limit, Read, Memory}

-- among the kinds of a format, the test picks only that of a reader that failed
pub record CallsReadsAlone {K : Type 0} (form : FileForm K) (is_read : K → Bool) : Type 0 where
  pub failed_read : is_read form.failed_read ≡ true
  pub too_long : is_read form.too_long ≡ false
  pub too_many : IfSome form.too_many (λ kind. is_read kind ≡ false)
  pub no_lf : is_read form.no_lf ≡ false
  pub no_memory : is_read form.no_memory ≡ false

-- whether the loop ended as a read failed
abbrev pub is_read_fault : {X K : Type 0} → (K → Bool) → Result X (LineFileFault K) → Bool
is_read_fault is_read (Ok x) = false
is_read_fault is_read (Err fault) = is_read fault.kind

-- whether a step of it did
abbrev pub is_read_step : {X K : Type 0} → (K → Bool) → Result X K → Bool
is_read_step is_read (Ok x) = false
is_read_step is_read (Err kind) = is_read kind

-- what the format calls an error of a line reader
abbrev pub kind_of_fault : {K : Type 0} → FileForm K → LineFault → K
kind_of_fault form TooLong = form.too_long
kind_of_fault form Limit = unwrap_or form.too_many form.too_long
kind_of_fault form Read = form.failed_read
kind_of_fault form Memory = form.no_memory
