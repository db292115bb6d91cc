-- The elements of all matches are those of the text.
use Rattle.std.proofs.Common.{◌++◌, ap, sym, ◌∙◌, append-nil}
use Rattle.std.specs.List.{flat_map}
use Rattle.uca_values.specs.Content.{properties_of}
use Rattle.uca_match.specs.Tries.{positions}
use Rattle.uca_tailor.specs.inside.MatchDrafts.{match_drafts}
use Rattle.uca_tailor.proofs.DraftLemmas.MatchReadings.{one_match_more, all_shown, text_stands}
use Rattle.uca_tailor.proofs.drafts.readings.DraftBasis.read.Goals as goal

pub loop-part-init : goal.loop-part-init
loop-part-init g c = sym (append-nil c.args.elements.now.items)

pub loop-part-preserved : goal.loop-part-preserved
loop-part-preserved g c =
    one_match_more (match_drafts c.args.self.now.base.now.header.ranges (properties_of c.args.self.now.properties.now) c.args.rows.now) c.args.elements.now.items
    c.loop-part.elements.items c.append_match.new.elements.items c.loop-part.yielded c.in-Some.part c.loop-part.invariant c.in_ok-append_match.ensures

pub returns : goal.returns
returns g c =
    let before = c.args.elements.now.items in
    let ranges = c.args.self.now.base.now.header.ranges in
    let properties = properties_of c.args.self.now.properties.now in
    let all = all_shown _ c.loop-part.yielded _ _ c.loop-part.yielded_by c.in-None.ensures.steps
    ∙ c.into_iter-part-iterator.ensures.into_iter_gives ∙ c.new-part-items.ensures in
    c.loop-part.invariant
    ∙ ap (λ parts. before ++ flat_map (match_drafts ranges properties c.args.rows.now) parts) all
    ∙ ap (λ es. before ++ es)
    (text_stands (positions c.args.self.now.key_rows.now) c.args.rows.now c.requires.0 c.requires.1 ranges properties c.args.text.now)
