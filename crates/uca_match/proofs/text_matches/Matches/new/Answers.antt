use Rattle.std.proofs.Common.{ap, ◌∙◌}
use Rattle.uca_text.specs.Texts.{Text}
use Rattle.uca_elements.specs.Places.{left_of}
use Rattle.uca_elements.specs.Positions.{is_placed}
use Rattle.uca_match.specs.Tries.{positions}
use Rattle.uca_elements.specs.Reading.{parts}
use Rattle.uca_match.specs.TextMatches.{matches_of}
use Rattle.uca_elements.proofs.PlaceLemmas.{left_of_start}
use Rattle.uca_match.proofs.text_matches.Matches.new.Goals as goal

pub returns : goal.returns
returns g c =
    let s = c.args.text.now in
    let places = positions c.args.keys.now in
    ap (λ (t : Text). matches_of places (parts (is_placed places) t)) (ap (left_of s) c.start.ensures ∙ left_of_start s)
