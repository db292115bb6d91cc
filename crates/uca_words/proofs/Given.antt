-- Whether an argument is given, by the source of its values.
use Rattle.std.proofs.Common.{◌≡◌, ◌∙◌, Option, Some, None, Bool, true, false, is_some, refl, ap}
use Rattle.std.specs.Prelude.{option_and_then}
use Rattle.std.specs.Option.{option_map_or}
use Rattle.clap.specs.Facts.{explicit_source}
use Rattle.clap.specs.Matches.{matched_of}
use Rattle.clap.specs.Takes.{is_given}
use Rattle.clap.specs.Walk.{Text, rows_of}
use Rattle.clap.specs.declared.parser.matches.Found.{Found}
use Rattle.clap.specs.declared.parser.matches.MatchedArg.{MatchedArg}
use Rattle.clap.specs.declared.parser.matches.ValueSource.{ValueSource}
use Rattle.clap.proofs.TakesLemmas.{present_row}

-- by its source or, if it has none, by whether there are matches
abbrev is_from_words : Option ValueSource → Bool → Bool
is_from_words source matched = option_map_or (λ s. explicit_source (Some s)) source matched

by_source : (o : Option MatchedArg) → is_from_words (option_and_then (λ a. a.source) o) (is_some o) ≡ option_map_or (λ a. explicit_source a.source) o false
by_source None = refl
by_source (Some a) = go a.source
  where
    go : (source : Option ValueSource) → is_from_words source true ≡ explicit_source source
    go None = refl
    go (Some s) = refl

pub given_by_source : (f : Found) (id : Text) (source : Option ValueSource) → source ≡ option_and_then (λ a. a.source) (matched_of f id)
    → is_from_words source (is_some (matched_of f id)) ≡ is_given id (rows_of f)
given_by_source f id source is = ap (λ s. is_from_words s (is_some (matched_of f id))) is ∙ by_source (matched_of f id) ∙ present_row f id
