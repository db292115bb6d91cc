-- What is known of a subcommand that a parse without error met, and what is asked of its rows.
use Rattle.std.specs.Prelude.{◌≡◌, ◌⊎◌, ◌&&◌, ◌||◌, Bool, not, is_some, List}
use Rattle.std.specs.List.{list_all, list_any}
use Rattle.std.specs.Str.{bytes_eq}
use Rattle.clap.specs.Words.{App, Row, Text, first_of}
use Rattle.uca_words.specs.declared.WordFault.{WordFault}
use Rattle.uca_words.specs.declared.WordFault.TheVariants.{Weighting, Fingerprint}
use Rattle.uca_words.specs.Command.{subcommands}
use Rattle.uca_words.specs.Words.{HasOtherFingerprints, HasOtherWeighting}

-- each argument that the subcommand requires has a value
abbrev pub has_words : App → List Row → Bool
has_words app rows = list_all (λ rule. not rule.required || is_some (first_of rule.id rows)) app.top.rules

-- a subcommand has this name, and each argument that it requires has a value
abbrev pub is_met : Text → List Row → Bool
is_met name rows = list_any (λ app. bytes_eq app.top.name name && has_words app rows) subcommands

-- the error is that the weighting that is given is neither of the two
abbrev pub IsWeightingFault : List Row → WordFault → Type 0
IsWeightingFault rows fault = (fault ≡ Weighting) × HasOtherWeighting rows

-- the error is that of fingerprints, which is why
abbrev pub IsFingerprintFault : Type 0 → WordFault → Type 0
IsFingerprintFault HasOther fault = (fault ≡ Fingerprint) × HasOther

-- either of them, for the subcommand of this name
abbrev pub IsValueFault : Text → List Row → WordFault → Type 0
IsValueFault name rows fault = IsWeightingFault rows fault ⊎ IsFingerprintFault (HasOtherFingerprints name rows) fault
