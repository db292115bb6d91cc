-- The elements of the matches so far come after those that were there.
use Rattle.std.proofs.Common.{◌≡◌, ◌++◌}
use Rattle.std.specs.List.{flat_map}
use Rattle.uca_values.specs.Content.{properties_of}
use Rattle.uca_tailor.specs.inside.MatchDrafts.{match_drafts}
use Rattle.uca_tailor.proofs.drafts.readings.DraftBasis.read.Given as goal

abbrev pub invariant-loop-part : goal.invariant-loop-part
invariant-loop-part g l = l.elements.items ≡ l.initial.elements.items
    ++ flat_map (match_drafts l.self.base.now.header.ranges (properties_of l.self.properties.now) l.rows) l.yielded
