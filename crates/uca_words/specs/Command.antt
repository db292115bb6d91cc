-- The command `uca`, as far as a parse reads it: its subcommands and their arguments.
use Rattle.std.specs.Prelude.{◌≡◌, List, [], ◌∷◌, Some, true, false, codes, fold}
use Rattle.clap.specs.declared.builder.action.ArgAction.TheVariants.{SetTrue}
use Rattle.clap.specs.declared.builder.command.Command.{Command}
use Rattle.clap.specs.declared.builder.command.Command.TheViews.{out-Command}
use Rattle.clap.specs.Words.{App, Rule, Text, app_of, new_app, new_rule, with_rule, with_subcommand}
use Rattle.clap.specs.Simple.{on_top}

-- an argument that has to be there
abbrev pub word_rule : Text → Rule
word_rule id = record (new_rule id) { required = true; value_names = 1 }

-- an option with a value, such as `--weighting W`
abbrev pub value_rule : Text → Rule
value_rule id = record (new_rule id) { long = Some id; value_names = 1 }

-- an option without a value, such as `--identical`
abbrev pub flag_rule : Text → Rule
flag_rule id = record (new_rule id) { long = Some id; action = Some SetTrue }

-- `TABLE DATA` come next
abbrev pub with_files : App → App
with_files app = with_rule (with_rule app (word_rule (codes "table"))) (word_rule (codes "data"))

-- `[--weighting W] [--identical]` come next
abbrev pub with_settings : App → App
with_settings app = with_rule (with_rule app (value_rule (codes "weighting"))) (flag_rule (codes "identical"))

-- `[--weighting W] [--identical] [--numeric] TABLE DATA` come next
abbrev pub with_options : App → App
with_options app = with_files (with_rule (with_settings app) (flag_rule (codes "numeric")))

abbrev pub check_app : App
check_app = with_files (new_app (codes "check"))

-- `keys [--weighting W] [--identical] [--numeric] [--lines] [--header] [--compact BOOK] TABLE DATA`
abbrev pub keys_app : App
keys_app =
    with_rule (with_rule (with_rule (with_options (new_app (codes "keys"))) (flag_rule (codes "lines"))) (flag_rule (codes "header")))
    (value_rule (codes "compact"))

abbrev pub sort_app : App
sort_app = with_options (new_app (codes "sort"))

-- `compare [--weighting W] [--identical] [--numeric] TABLE DATA LEFT RIGHT`
abbrev pub compare_app : App
compare_app = with_rule (with_rule (with_options (new_app (codes "compare"))) (word_rule (codes "left"))) (word_rule (codes "right"))

-- `tailor TABLE DATA RULES CERTIFICATE`
abbrev pub tailor_app : App
tailor_app = with_rule (with_rule (with_files (new_app (codes "tailor"))) (word_rule (codes "rules"))) (word_rule (codes "certificate"))

-- `BASE DATA RULES TAILORED CERTIFICATE` come next
abbrev pub with_audit_files : App → App
with_audit_files app = with_rule (with_rule (with_rule (with_rule (with_rule app (word_rule (codes "base"))) (word_rule (codes "data"))) (word_rule (codes "rules"))) (word_rule (codes "tailored"))) (word_rule (codes "certificate"))

abbrev pub audit_app : App
audit_app = with_audit_files (new_app (codes "audit"))

-- `affected [--changes] [--numeric] DATA RULES`
abbrev pub affected_app : App
affected_app =
    with_rule (with_rule (with_rule (with_rule (new_app (codes "affected")) (flag_rule (codes "changes"))) (flag_rule (codes "numeric"))) (word_rule (codes "data")))
    (word_rule (codes "rules"))

-- `OLD OLD-DATA NEW NEW-DATA` come next
abbrev pub with_editions : App → App
with_editions app = with_rule (with_rule (with_rule (with_rule app (word_rule (codes "old"))) (word_rule (codes "old-data"))) (word_rule (codes "new"))) (word_rule (codes "new-data"))

-- `changes OLD OLD-DATA NEW NEW-DATA CERTIFICATE`
abbrev pub changes_app : App
changes_app = with_rule (with_editions (new_app (codes "changes"))) (word_rule (codes "certificate"))

-- `audit-changes OLD OLD-DATA NEW NEW-DATA CHANGES CERTIFICATE`
abbrev pub audit_changes_app : App
audit_changes_app = with_rule (with_rule (with_editions (new_app (codes "audit-changes"))) (word_rule (codes "changes"))) (word_rule (codes "certificate"))

-- `rekey [--weighting W] [--identical] [--from FINGERPRINT] [--to FINGERPRINT] CERTIFICATE`
abbrev pub rekey_app : App
rekey_app =
    with_rule (with_rule (with_rule (with_settings (new_app (codes "rekey"))) (value_rule (codes "from"))) (value_rule (codes "to")))
    (word_rule (codes "certificate"))

-- `[--weighting W] [--identical] [--ID FINGERPRINT] BOOK` come next
abbrev pub with_book : Text → App → App
with_book id app = with_rule (with_rule (with_settings app) (value_rule id)) (word_rule (codes "book"))

-- `compact [--weighting W] [--identical] [--from FINGERPRINT] BOOK`
abbrev pub compact_app : App
compact_app = with_book (codes "from") (new_app (codes "compact"))

-- `expand [--weighting W] [--identical] [--to FINGERPRINT] BOOK`
abbrev pub expand_app : App
expand_app = with_book (codes "to") (new_app (codes "expand"))

-- `book CERTIFICATE BOOK`
abbrev pub book_app : App
book_app = with_rule (with_rule (new_app (codes "book")) (word_rule (codes "certificate"))) (word_rule (codes "book"))

-- `fingerprint [--weighting W] [--identical] [--numeric] [--compact BOOK] TABLE DATA`
abbrev pub fingerprint_app : App
fingerprint_app = with_rule (with_options (new_app (codes "fingerprint"))) (value_rule (codes "compact"))

-- The command before its subcommands: one of them has to be named. It has a version, so `clap` adds `--version`, and it
-- adds the subcommand `help`, which is always an error.
abbrev pub bare_app : App
bare_app = on_top (λ s. record s { subcommand_required = true; has_version = true }) (new_app (codes "uca"))

-- the subcommands, in the order of the help
abbrev pub subcommands : List App
subcommands = check_app ∷ keys_app ∷ sort_app ∷ compare_app ∷ tailor_app ∷ audit_app ∷ affected_app ∷ changes_app ∷ audit_changes_app ∷ rekey_app ∷ compact_app ∷ expand_app ∷ book_app ∷ fingerprint_app ∷ []

abbrev pub uca_app : App
uca_app = fold (λ app sub. with_subcommand app sub.top) bare_app subcommands

-- the command with its first four subcommands: only private contracts cite this
abbrev pub line_app : App
line_app = with_subcommand (with_subcommand (with_subcommand (with_subcommand bare_app check_app.top) keys_app.top) sort_app.top) compare_app.top

-- and with those of tailorings after them: only private contracts cite this
abbrev pub rules_app : App
rules_app = with_subcommand (with_subcommand (with_subcommand line_app tailor_app.top) audit_app.top) affected_app.top

-- and with those of changes after them: only private contracts cite this
abbrev pub changing_app : App
changing_app = with_subcommand (with_subcommand (with_subcommand rules_app changes_app.top) audit_changes_app.top) rekey_app.top

-- a parse reads the command so, and no argument of it is global: only private contracts cite this
pub record StandsFor (app : App) (command : Command) : Type 0 where
  pub shape : app_of command ≡ app
  pub local : (out-Command command).has_globals ≡ false
