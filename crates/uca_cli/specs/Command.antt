-- What the whole command does: it reads its arguments, opens the files that they name in their order, runs over them,
-- and ends with a status.
use Rattle.std.specs.Prelude.{◌≡◌, ◌⊎◌, ◌<◌, ℕ, List, [], ◌∷◌, ◌||◌, Bool, true, false, Option, Some, None, Result, Ok, Err, IfErr, is_err, is_some, length, option_map, unwrap_or}
use Rattle.std.specs.Borrow.{Bor}
use Rattle.std.specs.Global.{Global}
use Rattle.uca_weights.specs.declared.Asked.{Asked}
use Rattle.uca_weights.specs.declared.Depth.{Depth}
use Rattle.uca_weights.specs.declared.streams.sink.WriteFault.{WriteFault}
use Rattle.uca_weights.specs.declared.Numbers.{Numbers}
use Rattle.uca_weights.specs.declared.Weighting.{Weighting}
use Rattle.uca_weights.specs.declared.Weighting.TheVariants.{Shifted}
use Rattle.uca_weights.specs.Streams.{SourceState, SinkState}
use Rattle.uca_weights.specs.Writes.{Writes}
use Rattle.uca_values.specs.Content.{TableContent}
use Rattle.uca_table.specs.Canonical.{canonical}
use Rattle.uca_certificates.specs.Certificates.{CertificateContent}
use Rattle.uca_change_files.specs.ChangeTexts.{changes_text}
use Rattle.uca_editions.specs.declared.listed.ListedChanges.{ListedChanges}
use Rattle.uca_words.specs.declared.Words.{Words as WordsType}
use Rattle.uca_words.specs.declared.Words.TheVariants.{Check, Keys, Sort, Compare, Tailor, Audit, Affected, Changes, AuditChanges, Rekey, Compact, Expand, Book, Fingerprint}
use Rattle.uca_words.specs.declared.CheckWords.{CheckWords}
use Rattle.uca_words.specs.declared.KeysWords.{KeysWords}
use Rattle.uca_words.specs.declared.SortWords.{SortWords}
use Rattle.uca_words.specs.declared.CompareWords.{CompareWords}
use Rattle.uca_words.specs.declared.TailorWords.{TailorWords}
use Rattle.uca_words.specs.declared.AuditWords.{AuditWords}
use Rattle.uca_words.specs.declared.AffectedWords.{AffectedWords}
use Rattle.uca_words.specs.declared.ChangesWords.{ChangesWords}
use Rattle.uca_words.specs.declared.AuditChangesWords.{AuditChangesWords}
use Rattle.uca_words.specs.declared.RekeyWords.{RekeyWords}
use Rattle.uca_words.specs.declared.BookWords.{BookWords}
use Rattle.uca_words.specs.declared.BookImageWords.{BookImageWords}
use Rattle.uca_words.specs.declared.Fingerprints.{Fingerprints}
use Rattle.uca_words.specs.declared.FingerprintWords.{FingerprintWords}
use Rattle.uca_words.specs.Words.{AreRead, IsFaultOf}
use Rattle.uca_words.specs.declared.WordFault.{WordFault}
use Rattle.uca_run_parts.specs.declared.faults.Role.{Role}
use Rattle.uca_run_parts.specs.declared.faults.Role.TheVariants as roles
use Rattle.uca_run_parts.specs.declared.faults.RunFault.{RunFault}
use Rattle.uca_run_parts.specs.declared.key_sizes.KeySizes.{KeySizes}
use Rattle.uca_run_parts.specs.declared.faults.RunFault.TheVariants.{Open, SameAs, Words, Write}
use Rattle.uca_run_parts.specs.CheckRun.{Checks}
use Rattle.uca_key_runs.specs.CompareRun.{Compares, comparing}
use Rattle.uca_key_runs.specs.KeysRun.{PrintsKeysAs}
use Rattle.uca_key_runs.specs.declared.runs.KeyOutput.{KeyOutput}
use Rattle.uca_run_parts.specs.AffectedRun.{Affecting, PrintsAffected, by_rules}
use Rattle.uca_key_runs.specs.SortRun.{SortsLines}
use Rattle.uca_change_runs.specs.ChangesRun.{FindsChanges}
use Rattle.uca_change_runs.specs.AuditRun.{AuditsChanges}
use Rattle.uca_change_runs.specs.AffectedRun.{by_changes}
use Rattle.uca_rekey.specs.ChangeRun.{CompactsLines, ExpandsLines, RekeysLines}
use Rattle.uca_fingerprint_runs.specs.FingerprintRun.{PrintsFingerprint}
use Rattle.uca_change_runs.specs.BookRun.{PrintsBookImage}
use Rattle.uca_host.specs.NamedFiles.{FileSystem, NamedFile, file_for, table_and_data, tailor_files, affected_files, audit_files, edition_files, change_files, AreOpened, DoesNotOpen, AreOthers, IsFirstSame, KeepsCertificate}
use Rattle.uca_tailor_runs.specs.AuditRun.{Audits}
use Rattle.uca_tailor_runs.specs.TailorRun.{TailorsFiles}
use Rattle.uca_host.specs.Help.{Helps}
use Rattle.uca_host.specs.Reports.{Reports}
use Rattle.uca_host.specs.Statuses.{IsStatus}

-- ---- What a command works with

-- the input and the output
pub record Streams : Type 0 where
  pub input : SourceState
  pub out : SinkState

-- the input and the output, from their states
abbrev pub streams : SourceState → SinkState → Streams
streams input out = record { input = input; out = out }

-- The files were opened and run over: P of their sources before and after the run, in their order.
pub record RunsOpened {O F M : Type 0} (files : FileSystem O F M) (old new : O) (named : List NamedFile)
    (P : List SourceState → List SourceState → Type 0) : Type 0 where
  pub before : List SourceState
  pub after : List SourceState
  pub opened : AreOpened files old new named before
  pub runs : P before after

-- one of the files does not open, and then this stays as it was; or all are run over
abbrev pub OpensAndRuns : {O F M : Type 0} → FileSystem O F M → O → O → List NamedFile → Type 0
    → (List SourceState → List SourceState → Type 0) → Result ℕ RunFault → Type 0
OpensAndRuns files old new named Stays P result =
    ((role : Role) × (result ≡ Err (Open role)) × DoesNotOpen files old new named role × Stays)
    ⊎ RunsOpened files old new named P

-- ---- The subcommands over two files

-- the status of a run that was done, or its error
abbrev pub done_result : {A : Type 0} → Result A RunFault → Result ℕ RunFault
done_result (Ok x) = Ok 0
done_result (Err fault) = Err fault

-- the status of a verdict, or the error
abbrev pub check_result : Result Bool RunFault → Result ℕ RunFault
check_result (Ok true) = Ok 0
check_result (Ok false) = Ok 1
check_result (Err fault) = Err fault

-- what a run returned, and the result of the command after it: this is true of the run, and the result is made of it
pub record Ran {A : Type 0} (result_of : Result A RunFault → Result ℕ RunFault) (P : Result A RunFault → Type 0)
    (result : Result ℕ RunFault) : Type 0 where
  pub run : Result A RunFault
  pub runs : P run
  pub status : result ≡ result_of run

-- what `check` does with the names of its files
abbrev pub DoesCheck : {O F M : Type 0} → FileSystem O F M → O → O → CheckWords → SinkState → SinkState
    → Result ℕ RunFault → Type 0
DoesCheck files old new words out out_new result =
    OpensAndRuns files old new (table_and_data words.table.now words.properties.now) (out_new ≡ out)
    (λ olds news. Ran check_result (Checks olds news out out_new) result) result

-- the settings that are asked for
abbrev pub asked_for : Option Weighting → Depth → Numbers → Asked
asked_for weighting depth numbers = record { weighting = weighting; depth = depth; numbers = numbers }

-- a table, a data file and a book
abbrev pub booked_files : List ℕ → List ℕ → List ℕ → List NamedFile
booked_files table properties book = file_for roles.Table table ∷ file_for roles.Data properties ∷ file_for roles.Book book ∷ []

-- a table and a data file, and perhaps a book
abbrev pub files_with_book : Option (Bor (List ℕ)) → List ℕ → List ℕ → List NamedFile
files_with_book None table properties = table_and_data table properties
files_with_book (Some book) table properties = booked_files table properties book.now

-- what the output of `keys` has beside keys
abbrev pub output_of : KeysWords → KeyOutput
output_of words = record { lines = words.lines; header = words.header }

-- what `keys` does: with a book it makes compact keys
abbrev pub DoesKeys : {O F M : Type 0} → FileSystem O F M → O → O → KeysWords → Streams → Streams
    → Result ℕ RunFault → Type 0
DoesKeys files old new words start end result =
    OpensAndRuns files old new (files_with_book words.compact words.table.now words.properties.now) (end ≡ start)
    (λ olds news. Ran (done_result {A = Unit {0}})
    (PrintsKeysAs (output_of words) (is_some words.compact) (asked_for words.weighting words.depth words.numbers) olds news start.input end.input start.out end.out) result) result

-- what `sort` does
abbrev pub DoesSort : {O F M : Type 0} → FileSystem O F M → O → O → SortWords → Streams → Streams
    → Result ℕ RunFault → Type 0
DoesSort files old new words start end result =
    OpensAndRuns files old new (table_and_data words.table.now words.properties.now) (end ≡ start)
    (λ olds news. Ran (done_result {A = Unit {0}})
    (SortsLines (asked_for words.weighting words.depth words.numbers) olds news start.input end.input start.out end.out) result) result

-- what `compare` does
abbrev pub DoesCompare : {O F M : Type 0} → FileSystem O F M → O → O → CompareWords → SinkState → SinkState
    → Result ℕ RunFault → Type 0
DoesCompare files old new words out out_new result =
    OpensAndRuns files old new (table_and_data words.table.now words.properties.now) (out_new ≡ out)
    (λ olds news. Ran (done_result {A = Unit {0}})
    (Compares (comparing (asked_for words.weighting words.depth words.numbers) words.left.now words.right.now) olds news out out_new) result) result

-- what `fingerprint` does
abbrev pub DoesFingerprint : {O F M : Type 0} → FileSystem O F M → O → O → FingerprintWords → SinkState → SinkState
    → Result ℕ RunFault → Type 0
DoesFingerprint files old new words out out_new result =
    OpensAndRuns files old new (files_with_book words.book words.table.now words.properties.now) (out_new ≡ out)
    (λ olds news. Ran (done_result {A = Unit {0}})
    (PrintsFingerprint (is_some words.book) (asked_for words.weighting words.depth words.numbers) olds news out out_new) result) result

-- ---- Tailor and changes

-- the status of a text that was written, or the error
abbrev pub printed_result : Result (Unit {0}) WriteFault → Result ℕ RunFault
printed_result (Ok done) = Ok 0
printed_result (Err fault) = Err (Write fault.written)

-- the text was written, or as much of it as a writer that fails leaves
pub record PrintsText (text : List ℕ) (out out_new : SinkState) (result : Result ℕ RunFault) : Type 0 where
  pub written : Result (Unit {0}) WriteFault
  pub writes : Writes out.contents out_new.contents text written
  pub not_all : IfErr written (λ fault. fault.written < length text)
  pub failed : out_new.failed ≡ (out.failed || is_err written)
  pub status : result ≡ printed_result written

-- the text is written where the certificate was kept, and nothing where it was not
abbrev pub PrintsAfter : List ℕ → Result (Unit {0}) RunFault → SinkState → SinkState → Result ℕ RunFault → Type 0
PrintsAfter text (Ok done) out out_new result = PrintsText text out out_new result
PrintsAfter text (Err fault) out out_new result = (result ≡ Err fault) × (out_new ≡ out)

-- What such a run makes: the text that goes to the output, and the certificate that goes to its file.
pub record Made : Type 0 where
  pub text : List ℕ
  pub certificate : CertificateContent

-- what `tailor` makes: the canonical text of the table, and the certificate
abbrev pub made_table : TableContent × CertificateContent → Made
made_table answer = record { text = canonical answer.0; certificate = answer.1 }

-- what `changes` makes: the text of the changes, and the certificate
abbrev pub made_changes : {T : Type 0} → ListedChanges T → Made
made_changes found = record { text = changes_text found.list; certificate = found.certificate }

-- the certificate is kept, and then the text is written
pub record KeepsAndPrints {O F M : Type 0} (files : FileSystem O F M) (old new : O) (name : List ℕ) (made : Made)
    (out out_new : SinkState) (result : Result ℕ RunFault) : Type 0 where
  pub kept : Result (Unit {0}) RunFault
  pub keeps : KeepsCertificate files old new name made.certificate kept
  pub prints : PrintsAfter made.text kept out out_new result

-- What is done with the result of such a run. Its error is that of the command, and no file is made. Or the certificate
-- is kept, where it can be, and the text is written.
abbrev pub KeepsMade : {O F M A : Type 0} → FileSystem O F M → O → O → List ℕ → SinkState → SinkState → (A → Made)
    → Result A RunFault → Result ℕ RunFault → Type 0
KeepsMade files old new name out out_new made_of (Err fault) result =
    (result ≡ Err fault) × (new ≡ old) × (out_new ≡ out)
KeepsMade files old new name out out_new made_of (Ok answer) result =
    KeepsAndPrints files old new name (made_of answer) out out_new result

-- such a run, and what is done with its result
pub record Makes {O F M A : Type 0} (files : FileSystem O F M) (between end : O) (certificate : List ℕ)
    (Runs : List SourceState → List SourceState → Result A RunFault → Type 0) (made_of : A → Made)
    (out out_new : SinkState) (result : Result ℕ RunFault) (olds news : List SourceState) : Type 0 where
  pub run : Result A RunFault
  pub runs : Runs olds news run
  pub keeps : KeepsMade files between end certificate out out_new made_of run result

-- the files are opened and run over, and the certificate is none of them
abbrev pub MakesOpened : {O F M A : Type 0} → FileSystem O F M → O → O → List NamedFile → List ℕ
    → (List SourceState → List SourceState → Result A RunFault → Type 0) → (A → Made)
    → SinkState → SinkState → Result ℕ RunFault → Type 0
MakesOpened {O = O} files old new named certificate Runs made_of out out_new result = (between : O)
    × OpensAndRuns files old between named ((new ≡ between) × (out_new ≡ out))
    (Makes files between new certificate Runs made_of out out_new result) result

-- the certificate would be written over the file of this role: nothing was opened, and nothing was written
abbrev pub RejectsCertificate : {O F M : Type 0} → FileSystem O F M → O → O → List NamedFile → List ℕ
    → SinkState → SinkState → Result ℕ RunFault → Type 0
RejectsCertificate files old new named certificate out out_new result = (role : Role)
    × IsFirstSame files old new named certificate role × (result ≡ Err (SameAs role)) × (out_new ≡ out)

-- what such a subcommand does with these files: the certificate is first looked for among them
abbrev pub MakesNamed : {O F M A : Type 0} → FileSystem O F M → O → O → List NamedFile → List ℕ
    → (List SourceState → List SourceState → Result A RunFault → Type 0) → (A → Made)
    → SinkState → SinkState → Result ℕ RunFault → Type 0
MakesNamed {O = O} files old new named certificate Runs made_of out out_new result =
    RejectsCertificate files old new named certificate out out_new result
    ⊎ ((looked : O) × AreOthers files old looked named certificate
    × MakesOpened files looked new named certificate Runs made_of out out_new result)

-- the files that `tailor` reads
abbrev pub files_of_tailor : TailorWords → List NamedFile
files_of_tailor words = tailor_files words.table.now words.properties.now words.rules.now

-- what `tailor` does
abbrev pub DoesTailor : {O F M : Type 0} → FileSystem O F M → O → O → TailorWords → SinkState → SinkState
    → Result ℕ RunFault → Type 0
DoesTailor files old new words out out_new result =
    MakesNamed files old new (files_of_tailor words) words.certificate.now TailorsFiles made_table out out_new result

-- a run of changes, with what it finds in the memory of the command
abbrev pub Finds : List SourceState → List SourceState → Result (ListedChanges Global) RunFault → Type 0
Finds olds news run = FindsChanges olds news run

-- what `changes` does
abbrev pub DoesChanges : {O F M : Type 0} → FileSystem O F M → O → O → ChangesWords → SinkState → SinkState
    → Result ℕ RunFault → Type 0
DoesChanges files old new words out out_new result =
    MakesNamed files old new (edition_files words.editions) words.certificate.now Finds made_changes out out_new result

-- ---- Audits

-- what `audit` does
abbrev pub DoesAudit : {O F M : Type 0} → FileSystem O F M → O → O → AuditWords → SinkState → SinkState
    → Result ℕ RunFault → Type 0
DoesAudit files old new words out out_new result =
    OpensAndRuns files old new
    (audit_files words.base.now words.properties.now words.rules.now words.tailored.now words.certificate.now) (out_new ≡ out)
    (λ olds news. Ran check_result (Audits olds news out out_new) result) result

-- what `audit-changes` does
abbrev pub DoesAuditChanges : {O F M : Type 0} → FileSystem O F M → O → O → AuditChangesWords → SinkState → SinkState
    → Result ℕ RunFault → Type 0
DoesAuditChanges files old new words out out_new result =
    OpensAndRuns files old new (change_files words.editions words.changes.now words.certificate.now) (out_new ≡ out)
    (λ olds news. Ran check_result (AuditsChanges olds news out out_new) result) result

-- ---- Affected

-- what `affected` goes by: with `--changes` a file of changes, else rules
abbrev pub affected_by : Bool → Affecting
affected_by true = by_changes
affected_by false = by_rules

-- what `affected` does
abbrev pub DoesAffected : {O F M : Type 0} → FileSystem O F M → O → O → AffectedWords → Streams → Streams
    → Result ℕ RunFault → Type 0
DoesAffected files old new words start end result =
    OpensAndRuns files old new (affected_files words.changes words.properties.now words.rules.now) (end ≡ start)
    (λ olds news. Ran (done_result {A = Unit {0}})
    (PrintsAffected (affected_by words.changes) words.numbers olds news start.input end.input start.out end.out) result) result

-- ---- Stored keys

-- the fingerprints of the old header and of the new one
abbrev pub sums_of : Fingerprints → List ℕ × List ℕ
sums_of given = (given.from, given.to)

-- what `rekey` does: the weighting is the one that is asked for, or else shifted
abbrev pub DoesRekey : {O F M : Type 0} → FileSystem O F M → O → O → RekeyWords → Streams → Streams
    → Result ℕ RunFault → Type 0
DoesRekey files old new words start end result =
    OpensAndRuns files old new (file_for roles.Certificate words.certificate.now ∷ []) (end ≡ start)
    (λ olds news. Ran (done_result {A = KeySizes})
    (RekeysLines (unwrap_or words.weighting Shifted) words.depth (option_map sums_of words.fingerprints) olds news start.input end.input start.out end.out) result) result

-- what `compact` does: the weighting is the one that is asked for, or else shifted
abbrev pub DoesCompact : {O F M : Type 0} → FileSystem O F M → O → O → BookWords → Streams → Streams
    → Result ℕ RunFault → Type 0
DoesCompact files old new words start end result =
    OpensAndRuns files old new (file_for roles.Book words.book.now ∷ []) (end ≡ start)
    (λ olds news. Ran (done_result {A = KeySizes})
    (CompactsLines (unwrap_or words.weighting Shifted) words.depth words.keys olds news start.input end.input start.out end.out) result) result

-- what `expand` does: the weighting is the one that is asked for, or else shifted
abbrev pub DoesExpand : {O F M : Type 0} → FileSystem O F M → O → O → BookWords → Streams → Streams
    → Result ℕ RunFault → Type 0
DoesExpand files old new words start end result =
    OpensAndRuns files old new (file_for roles.Book words.book.now ∷ []) (end ≡ start)
    (λ olds news. Ran (done_result {A = KeySizes})
    (ExpandsLines (unwrap_or words.weighting Shifted) words.depth words.keys olds news start.input end.input start.out end.out) result) result

-- what `book` does
abbrev pub DoesBook : {O F M : Type 0} → FileSystem O F M → O → O → BookImageWords → SinkState → SinkState
    → Result ℕ RunFault → Type 0
DoesBook files old new words out out_new result =
    OpensAndRuns files old new (file_for roles.Certificate words.certificate.now ∷ file_for roles.Book words.book.now ∷ []) (out_new ≡ out)
    (λ olds news. Ran (done_result {A = Unit {0}}) (PrintsBookImage olds news out out_new) result) result

-- ---- The command

-- what a subcommand does with its arguments, given what it reads and writes before and after
abbrev pub DoesWords : {O F M : Type 0} → FileSystem O F M → O → O → WordsType → Streams → Streams
    → Result ℕ RunFault → Type 0
DoesWords files old new (Check words) start end result =
    (end.input ≡ start.input) × DoesCheck files old new words start.out end.out result
DoesWords files old new (Keys words) start end result = DoesKeys files old new words start end result
DoesWords files old new (Sort words) start end result = DoesSort files old new words start end result
DoesWords files old new (Compare words) start end result =
    (end.input ≡ start.input) × DoesCompare files old new words start.out end.out result
DoesWords files old new (Tailor words) start end result =
    (end.input ≡ start.input) × DoesTailor files old new words start.out end.out result
DoesWords files old new (Audit words) start end result =
    (end.input ≡ start.input) × DoesAudit files old new words start.out end.out result
DoesWords files old new (Affected words) start end result = DoesAffected files old new words start end result
DoesWords files old new (Changes words) start end result =
    (end.input ≡ start.input) × DoesChanges files old new words start.out end.out result
DoesWords files old new (AuditChanges words) start end result =
    (end.input ≡ start.input) × DoesAuditChanges files old new words start.out end.out result
DoesWords files old new (Rekey words) start end result = DoesRekey files old new words start end result
DoesWords files old new (Compact words) start end result = DoesCompact files old new words start end result
DoesWords files old new (Expand words) start end result = DoesExpand files old new words start end result
DoesWords files old new (Book words) start end result =
    (end.input ≡ start.input) × DoesBook files old new words start.out end.out result
DoesWords files old new (Fingerprint words) start end result =
    (end.input ≡ start.input) × DoesFingerprint files old new words start.out end.out result

-- whether a line of help may follow a run that was done: compact keys may say that their book does not fit
abbrev pub may_advise : WordsType → Bool
may_advise (Keys words) = is_some words.compact
may_advise (Compact words) = true
may_advise _ = false

-- how the command ends after a run: with its status, or with what its error reports; and perhaps a line of help after it
abbrev pub EndsWith : Result ℕ RunFault → (advises : Bool) → ℕ → SinkState → SinkState → SinkState → SinkState → Type 0
EndsWith (Ok done) false status out out_new err err_new = (status ≡ done) × (out_new ≡ out) × (err_new ≡ err)
EndsWith (Ok done) true status out out_new err err_new = (status ≡ done) × (out_new ≡ out) × Helps err err_new
EndsWith (Err fault) advises status out out_new err err_new = (told : SinkState)
    × IsStatus fault status × Reports fault status out out_new err told × Helps told err_new

-- The arguments are rejected, and nothing is opened or read; or what they say is done. `err` is standard error.
abbrev pub DoesCommand : {O F M : Type 0} → FileSystem O F M → O → O → List (List ℕ) → Streams → Streams
    → SinkState → SinkState → ℕ → Type 0
DoesCommand files old new words start end err err_new status =
    ((fault : WordFault) × IsFaultOf words fault × (new ≡ old) × (end.input ≡ start.input)
    × EndsWith (Err (Words fault)) false status start.out end.out err err_new)
    ⊎ ((said : WordsType) × (run : Result ℕ RunFault) × (out_between : SinkState) × AreRead words said
    × DoesWords files old new said start (streams end.input out_between) run
    × EndsWith run (may_advise said) status out_between end.out err err_new)
