-- What a match gives is that of the row at its position, or of its code point.
use Rattle.std.proofs.Common.{◌≡◌, ◌++◌, [], OnOk, ap, sym, subst, ◌∙◌, append-nil}
use Rattle.uca_values.specs.Content.{properties_of}
use Rattle.uca_elements.specs.declared.matches.Match.TheVariants.{Unlisted}
use Rattle.uca_tailor.specs.inside.MatchDrafts.{match_drafts}
use Rattle.uca_tailor.proofs.DraftLemmas.RowLookups.{elements_there, elements_past}
use Rattle.uca_tailor.proofs.drafts.readings.DraftBasis.append_match.Goals as goal

pub returns-in-Some : goal.returns-in-Some
returns-in-Some g c =
    let ranges = c.args.self.now.base.now.header.ranges in
    let properties = properties_of c.args.self.now.properties.now in
    let rows = c.args.rows.now in
    let stands : match_drafts ranges properties rows c.args.part ≡ c.in-Some.row.now.elements = ap (match_drafts ranges properties rows) c.in-Key.is
    ∙ elements_there rows c.in-Key.at c.in-Some.row.now c.in-Some.ensures.lookup.3.0 c.in-Some.ensures.lookup.1 in
    subst (λ es. OnOk c.append_to.result (c.append_to.new.elements.items ≡ c.args.elements.now.items ++ es)) (sym stands) c.append_to.ensures

pub returns-in-None : goal.returns-in-None
returns-in-None g c =
    let ranges = c.args.self.now.base.now.header.ranges in
    let properties = properties_of c.args.self.now.properties.now in
    let rows = c.args.rows.now in
    let stands : match_drafts ranges properties rows c.args.part ≡ [] = ap (match_drafts ranges properties rows) c.in-Key.is
    ∙ elements_past rows c.in-Key.at c.in-None.ensures.lookup.3 in
    sym (append-nil c.args.elements.now.items) ∙ ap (λ es. c.args.elements.now.items ++ es) (sym stands)

pub returns-in-Unlisted : goal.returns-in-Unlisted
returns-in-Unlisted g c =
    let ranges = c.args.self.now.base.now.header.ranges in
    let properties = properties_of c.args.self.now.properties.now in
    let rows = c.args.rows.now in
    let stands : match_drafts ranges properties rows c.args.part ≡ match_drafts ranges properties rows (Unlisted c.in-Unlisted.point) =
    ap (match_drafts ranges properties rows) c.in-Unlisted.is in
    subst (λ es. OnOk c.append_implicit.result (c.append_implicit.new.elements.items ≡ c.args.elements.now.items ++ es)) (sym stands) c.append_implicit.ensures
