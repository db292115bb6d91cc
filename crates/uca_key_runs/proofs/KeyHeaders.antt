-- The header of a run that is made of the sums of its files, and the line of output of a form.
use Rattle.std.proofs.Common.{◌≡◌, ◌∙◌, Bool, true, false, List, ℕ, [], Option, Some, None, IfSome, if◌then◌else◌, refl, ap}
use Rattle.std.specs.Prelude.{is_some, option_map}
use Rattle.uca_weights.specs.declared.Asked.{Asked}
use Rattle.uca_weights.specs.declared.Settings.{Settings}
use Rattle.uca_weights.specs.AskedSettings.{settings_by}
use Rattle.uca_books.specs.Books.{BookContent}
use Rattle.uca_lines.specs.Lines.{ended}
use Rattle.uca_fingerprint_runs.specs.SummedFiles.{SummedContent}
use Rattle.uca_key_runs.specs.declared.key_files.FileSums.{FileSums}
use Rattle.uca_key_runs.specs.declared.runs.KeyOutput.{KeyOutput}
use Rattle.uca_key_runs.specs.inside.KeyForms.{line_as}
use Rattle.uca_key_runs.specs.inside.KeyParts.{AreSums, form_as, header_text, header_with}
use Rattle.uca_key_runs.specs.KeysRun.{KeyContent, header_by, header_of, output_line}

text_is : (asked : Asked) (settings : Settings) (sums : FileSums) (files : SummedContent) (book : Option (BookContent × List ℕ))
    → settings ≡ settings_by asked files.table.header.setting → sums.table ≡ files.table_sum → sums.properties ≡ files.data_sum
    → ended (header_text settings sums (option_map (λ b. b.1) book)) ≡ header_by asked files book
text_is asked settings sums files None chosen table properties = rw (chosen, table, properties) refl
text_is asked settings sums files (Some book) chosen table properties = rw (chosen, table, properties) refl

pub header_is : (asked : Asked) (output : KeyOutput) (settings : Settings) (sums : Option FileSums) (content : KeyContent)
    → settings ≡ settings_by asked content.files.table.header.setting → is_some sums ≡ output.header → IfSome sums (AreSums content)
    → header_with settings sums ≡ header_of output asked content
header_is asked output settings None content chosen same are = ap (λ b. if b then header_by asked content.files content.book else []) same
header_is asked output settings (Some sums) content chosen same are =
    ap (λ book. ended (header_text settings sums book)) are.book
    ∙ text_is asked settings sums content.files content.book chosen are.table are.properties
    ∙ ap (λ b. if b then header_by asked content.files content.book else []) same

-- a line of output is that of its form
pub output_is : (lines : Bool) (book : Option BookContent) → line_as (form_as lines book) book ≡ output_line lines book
output_is false None = refl
output_is false (Some book) = refl
output_is true None = refl
output_is true (Some book) = refl
