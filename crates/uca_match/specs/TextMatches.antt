-- What a text is matched as by keys that have positions.
use Rattle.std.specs.Prelude.{ℕ, List, map, unwrap_or}
use Rattle.uca_elements.specs.Parts.{Part, Row, Implicit}
use Rattle.uca_elements.specs.Positions.{Positions}
use Rattle.uca_elements.specs.declared.matches.Match.{Match}
use Rattle.uca_elements.specs.declared.matches.Match.TheVariants.{Key, Unlisted}

-- the position of a key, or a code point; the parts of a text are no keys but those that have a position
abbrev pub match_of : Positions → Part → Match ℕ
match_of positions (Row key) = Key (unwrap_or (positions key) 0)
match_of positions (Implicit c) = Unlisted c

-- what the parts of a text are matched as
abbrev pub matches_of : Positions → List Part → List (Match ℕ)
matches_of positions parts = map (match_of positions) parts
