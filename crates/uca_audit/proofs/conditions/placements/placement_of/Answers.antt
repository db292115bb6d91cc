use Rattle.std.proofs.Common.{◌≡◌, Some, None, sym, ◌∙◌}
use Rattle.uca_weights.specs.Levels.{level_of}
use Rattle.uca_tailorings.specs.Tailorings.{tailored_reading, anchor_elements, expansion_elements}
use Rattle.uca_audit.proofs.RelationSteps.{read_alike}
use Rattle.uca_audit.proofs.TargetRows.{expansion_alike, target_row, found_by_weight, found_by_elements}
use Rattle.uca_audit.proofs.conditions.placements.placement_of.Goals as goal

pub returns-in-Some-level_of : goal.returns-in-Some-level_of
returns-in-Some-level_of g c t reads =
    let r = c.args.relation.now in
    let strength : level_of r.strength ≡ Some c.in-Some-level_of.level = sym c.in-Some-level_of.ensures in
    let anchors : c.deref-anchor.result.now ≡ anchor_elements t r =
    c.deref-anchor.ensures.value ∙ c.in_ok-read.ensures.anchor ∙ read_alike _ (tailored_reading t) reads r.anchor in
    let expansions : c.deref-expansion.result.now ≡ expansion_elements t r =
    c.deref-expansion.ensures.value ∙ c.in_ok-read.ensures.expansion ∙ expansion_alike _ (tailored_reading t) reads r.expansion in
    found_by_weight t r c.in-Some-level_of.level c.deref-anchor.result.now c.deref-expansion.result.now c.in-Some.row.now c.weighted.result strength anchors
    expansions (target_row _ t r c.chars.result.now (Some c.in-Some.row.now) reads c.chars.ensures.value c.in-Some.ensures) c.weighted.ensures

pub returns-in-None : goal.returns-in-None
returns-in-None g c t reads =
    let r = c.args.relation.now in
    let strength : level_of r.strength ≡ None = sym c.in-None.ensures in
    let anchors : c.deref-anchor.result.now ≡ anchor_elements t r =
    c.deref-anchor.ensures.value ∙ c.in_ok-read.ensures.anchor ∙ read_alike _ (tailored_reading t) reads r.anchor in
    let expansions : c.deref-expansion.result.now ≡ expansion_elements t r =
    c.deref-expansion.ensures.value ∙ c.in_ok-read.ensures.expansion ∙ expansion_alike _ (tailored_reading t) reads r.expansion in
    found_by_elements t r c.deref-anchor.result.now c.deref-expansion.result.now c.in-Some.row.now c.identical.result strength anchors expansions
    (target_row _ t r c.chars.result.now (Some c.in-Some.row.now) reads c.chars.ensures.value c.in-Some.ensures) c.identical.ensures
