-- The two elements are put after the others.
use Rattle.std.specs.Prelude.{is_ok}
use Rattle.std.proofs.Common.{◌≡◌, ◌∷◌, ◌++◌, [], List, Result, Ok, Err, OnOk, if◌then◌else◌, ap, ap₂, subst, ◌∙◌}
use Rattle.uca_values.specs.Content.{TableContent, properties_of}
use Rattle.uca_values.specs.Implicit.{implicit}
use Rattle.uca_tailor.proofs.DraftLemmas.MatchReadings.{pair_stands}
use Rattle.uca_tailor.proofs.drafts.readings.DraftBasis.append_implicit.Goals as goal

-- where there was room a list has both
extended : {A E X : Type 0} (result : Result A E) (new both old : List X) → new ≡ (if is_ok result then both else old) → OnOk result (new ≡ both)
extended (Ok x) new both old is = is
extended (Err e) new both old is = tt

pub returns : goal.returns
returns g c =
    let before = c.args.elements.now.items in
    let two = c.as_draft.result ∷ c.as_draft-2.result ∷ [] in
    let ranges = c.args.self.now.base.now.header.ranges in
    let properties = properties_of c.args.self.now.properties.now in
    let pair = c.implicit.ensures ∙ ap (λ (t : TableContent). implicit t.header.ranges properties c.args.point) c.base.view_is in
    subst (λ es. OnOk c.extend_from_slice.result (c.extend_from_slice.new.self.items ≡ before ++ es))
    (ap₂ (λ a b. a ∷ b ∷ []) c.as_draft.ensures c.as_draft-2.ensures ∙ pair_stands ranges properties c.args.point c.implicit.result _ pair)
    (extended c.extend_from_slice.result c.extend_from_slice.new.self.items (before ++ two) before c.extend_from_slice.ensures.items)
