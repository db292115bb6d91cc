-- What the arguments of a subcommand say.
use Rattle.std.specs.Prelude.{◌≡◌, ◌≢◌, ◌⊎◌, ⊤, ℕ, true, false, List, [], Option, Some, None, IsSomeAnd, codes, length, option_map}
use Rattle.hex.specs.Hex.{IsBytes, encode_lower}
use Rattle.std.specs.Borrow.{Bor}
use Rattle.clap.specs.declared.error.Error.{Error}
use Rattle.clap.specs.declared.error.kind.ErrorKind.{ErrorKind}
use Rattle.clap.specs.declared.error.kind.ErrorKind.TheVariants.{OutOfMemory}
use Rattle.clap.specs.Takes.{is_given}
use Rattle.clap.specs.Words.{IsAmong, Row, Text, fault_of, first_of, kind_of, subcommand_of, takes}
use Rattle.uca_weights.specs.declared.Depth.{Depth}
use Rattle.uca_weights.specs.declared.Depth.TheVariants.{Weights, Identical}
use Rattle.uca_weights.specs.declared.Numbers.{Numbers}
use Rattle.uca_weights.specs.declared.Numbers.TheVariants.{AsText, ByValue}
use Rattle.uca_weights.specs.declared.Weighting.{Weighting as WeightingType}
use Rattle.uca_weights.specs.WeightingText.{weighting_text, IsNoWeighting}
use Rattle.uca_words.specs.declared.WordFault.{WordFault}
use Rattle.uca_words.specs.declared.WordFault.TheVariants.{Refused, Weighting, Fingerprint, Memory}
use Rattle.uca_words.specs.Command.{uca_app}
use Rattle.uca_words.specs.declared.BookWords.{BookWords}
use Rattle.uca_words.specs.declared.EditionNames.{EditionNames}
use Rattle.uca_words.specs.declared.Fingerprints.{Fingerprints}
use Rattle.uca_words.specs.declared.Words.{Words}
use Rattle.uca_words.specs.declared.Words.TheVariants as words

-- `--weighting` is given this value, or is not given
abbrev pub HasWeighting : List Row → Option WeightingType → Type 0
HasWeighting rows weighting = first_of (codes "weighting") rows ≡ option_map weighting_text weighting

-- `--identical` is given where the depth is `Identical`, and only there
abbrev pub HasDepth : List Row → Depth → Type 0
HasDepth rows Identical = is_given (codes "identical") rows ≡ true
HasDepth rows Weights = is_given (codes "identical") rows ≡ false

-- `--numeric` is given where numbers compare by value, and only there
abbrev pub HasNumbers : List Row → Numbers → Type 0
HasNumbers rows ByValue = is_given (codes "numeric") rows ≡ true
HasNumbers rows AsText = is_given (codes "numeric") rows ≡ false

-- `--from` and `--to` are given the digits of these fingerprints, or neither is given
abbrev pub HasFingerprints : List Row → Option Fingerprints → Type 0
HasFingerprints rows None = (first_of (codes "from") rows ≡ None) × (first_of (codes "to") rows ≡ None)
HasFingerprints rows (Some given) =
    (first_of (codes "from") rows ≡ Some (encode_lower given.from)) × (first_of (codes "to") rows ≡ Some (encode_lower given.to))

-- the option of this name is given the digits of this fingerprint, or is not given
abbrev pub HasFingerprint : List Row → Text → Option (List ℕ) → Type 0
HasFingerprint rows id fingerprint = first_of id rows ≡ option_map encode_lower fingerprint

-- the argument of this name is this one
abbrev pub HasWord : List Row → Text → Bor Text → Type 0
HasWord rows id word = first_of id rows ≡ Some word.now

-- the option of this name is given this value, or is not given
abbrev pub HasOption : List Row → Text → Option (Bor Text) → Type 0
HasOption rows id value = option_map (λ word. word.now) value ≡ first_of id rows

abbrev pub HasFiles : List Row → Bor Text → Bor Text → Type 0
HasFiles rows table properties = HasWord rows (codes "table") table × HasWord rows (codes "data") properties

-- the old table, its data file, the new table and its data file
abbrev pub HasEditions : List Row → EditionNames → Type 0
HasEditions rows names =
    HasWord rows (codes "old") names.old × HasWord rows (codes "old-data") names.old_data
    × HasWord rows (codes "new") names.new × HasWord rows (codes "new-data") names.new_data

-- the weighting and the depth that are given, the fingerprint of keys that the option of this name is given, and a book
abbrev pub HasBook : List Row → Text → BookWords → Type 0
HasBook rows id words =
    HasWeighting rows words.weighting × HasDepth rows words.depth × HasFingerprint rows id words.keys × HasWord rows (codes "book") words.book

-- the subcommand of this name, with these rows of its arguments, says these `Words`
abbrev pub Says : Text → List Row → Words → Type 0
Says name rows (words.Check words) = (name ≡ codes "check") × HasFiles rows words.table words.properties
Says name rows (words.Keys words) =
    (name ≡ codes "keys") × HasWeighting rows words.weighting × HasDepth rows words.depth × HasNumbers rows words.numbers
    × (is_given (codes "lines") rows ≡ words.lines) × (is_given (codes "header") rows ≡ words.header) × HasOption rows (codes "compact") words.compact × HasFiles rows words.table words.properties
Says name rows (words.Sort words) =
    (name ≡ codes "sort") × HasWeighting rows words.weighting × HasDepth rows words.depth × HasNumbers rows words.numbers
    × HasFiles rows words.table words.properties
Says name rows (words.Compare words) =
    (name ≡ codes "compare") × HasWeighting rows words.weighting × HasDepth rows words.depth × HasNumbers rows words.numbers
    × HasFiles rows words.table words.properties × HasWord rows (codes "left") words.left × HasWord rows (codes "right") words.right
Says name rows (words.Tailor words) =
    (name ≡ codes "tailor") × HasFiles rows words.table words.properties × HasWord rows (codes "rules") words.rules
    × HasWord rows (codes "certificate") words.certificate
Says name rows (words.Audit words) =
    (name ≡ codes "audit") × HasWord rows (codes "base") words.base × HasWord rows (codes "data") words.properties × HasWord rows (codes "rules") words.rules
    × HasWord rows (codes "tailored") words.tailored × HasWord rows (codes "certificate") words.certificate
Says name rows (words.Affected words) =
    (name ≡ codes "affected") × (is_given (codes "changes") rows ≡ words.changes) × HasNumbers rows words.numbers
    × HasWord rows (codes "data") words.properties × HasWord rows (codes "rules") words.rules
Says name rows (words.Changes words) =
    (name ≡ codes "changes") × HasEditions rows words.editions × HasWord rows (codes "certificate") words.certificate
Says name rows (words.AuditChanges words) =
    (name ≡ codes "audit-changes") × HasEditions rows words.editions
    × HasWord rows (codes "changes") words.changes × HasWord rows (codes "certificate") words.certificate
Says name rows (words.Rekey words) =
    (name ≡ codes "rekey") × HasWeighting rows words.weighting × HasDepth rows words.depth × HasFingerprints rows words.fingerprints
    × HasWord rows (codes "certificate") words.certificate
Says name rows (words.Compact words) = (name ≡ codes "compact") × HasBook rows (codes "from") words
Says name rows (words.Expand words) = (name ≡ codes "expand") × HasBook rows (codes "to") words
Says name rows (words.Book words) =
    (name ≡ codes "book") × HasWord rows (codes "certificate") words.certificate × HasWord rows (codes "book") words.book
Says name rows (words.Fingerprint words) =
    (name ≡ codes "fingerprint") × HasWeighting rows words.weighting × HasDepth rows words.depth × HasNumbers rows words.numbers
    × HasOption rows (codes "compact") words.book × HasFiles rows words.table words.properties

-- the subcommand that was met, with the rows of its arguments, says these `Words`
abbrev pub SayWords : Option (Text × List Row) → Words → Type 0
SayWords None words = ⊥
SayWords (Some met) words = Says met.0 met.1 words

-- `--weighting` is given a value, and it is the name of no weighting
abbrev pub IsOtherWeighting : Option Text → Type 0
IsOtherWeighting None = ⊥
IsOtherWeighting (Some text) = IsNoWeighting text

abbrev pub HasOtherWeighting : List Row → Type 0
HasOtherWeighting rows = IsOtherWeighting (first_of (codes "weighting") rows)

-- the text has the digits of no fingerprint
abbrev pub IsNoFingerprint : Text → Type 0
IsNoFingerprint text = (sum : List ℕ) → length sum ≡ 32 → IsBytes sum → encode_lower sum ≢ text

-- one of two values is there and not the other, or one of them is no fingerprint
abbrev pub AreOtherFingerprints : Option Text → Option Text → Type 0
AreOtherFingerprints None None = ⊥
AreOtherFingerprints None (Some to) = ⊤
AreOtherFingerprints (Some from) None = ⊤
AreOtherFingerprints (Some from) (Some to) = IsNoFingerprint from ⊎ IsNoFingerprint to

-- the option of this name is given a value, and it is no fingerprint
abbrev pub HasOtherFingerprint : List Row → Text → Type 0
HasOtherFingerprint rows id = IsSomeAnd (first_of id rows) IsNoFingerprint

-- Such values are given to `rekey` by `--from` and `--to`, to `compact` by `--from`, or to `expand` by `--to`.
abbrev pub HasOtherFingerprints : Text → List Row → Type 0
HasOtherFingerprints name rows =
    ((name ≡ codes "rekey") × AreOtherFingerprints (first_of (codes "from") rows) (first_of (codes "to") rows))
    ⊎ (((name ≡ codes "compact") × HasOtherFingerprint rows (codes "from")) ⊎ ((name ≡ codes "expand") × HasOtherFingerprint rows (codes "to")))

-- so it is of the subcommand that was met
abbrev pub AskForOtherFingerprints : Option (Text × List Row) → Type 0
AskForOtherFingerprints None = ⊥
AskForOtherFingerprints (Some met) = HasOtherFingerprints met.0 met.1

abbrev pub AskForOtherWeighting : Option (Text × List Row) → Type 0
AskForOtherWeighting None = ⊥
AskForOtherWeighting (Some met) = HasOtherWeighting met.1

-- the command has no error at the arguments, and they name a subcommand that says this
abbrev pub AreRead : List Text → Words → Type 0
AreRead words said = (fault_of uca_app words ≡ []) × SayWords (subcommand_of uca_app words) said

-- What an error says of the arguments. The command has this kind of error at them, and does not take
-- them. Or it has none, and they give a weighting with no known name, or what is no fingerprint. Or an allocation failed.
abbrev pub IsFaultOf : List Text → WordFault → Type 0
IsFaultOf words (Refused error) = IsAmong (kind_of error) (fault_of uca_app words) × (takes uca_app words ≢ true)
IsFaultOf words Weighting = (fault_of uca_app words ≡ []) × AskForOtherWeighting (subcommand_of uca_app words)
IsFaultOf words Fingerprint = (fault_of uca_app words ≡ []) × AskForOtherFingerprints (subcommand_of uca_app words)
IsFaultOf words Memory = ⊤

-- how an error of `clap` is returned
abbrev pub refused_by_kind : ErrorKind → Error → WordFault
refused_by_kind OutOfMemory error = Memory
refused_by_kind _ error = Refused error

abbrev pub refused : Error → WordFault
refused error = refused_by_kind (kind_of error) error
