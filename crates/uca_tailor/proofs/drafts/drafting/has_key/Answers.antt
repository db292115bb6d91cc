use Rattle.std.proofs.Common.{List, ℕ, ltb, sym, ap, ◌∙◌}
use Rattle.std.proofs.lemmas.List.{length-map}
use Rattle.uca_plans.specs.Drafts.{DraftRow}
use Rattle.uca_plans.specs.Keys.{keys_in}
use Rattle.uca_plans.proofs.KeyPlaces.{has_key_is}
use Rattle.uca_tailor.proofs.DraftLemmas.KeyLookups.{front_is, not_in_front}
use Rattle.uca_tailor.proofs.drafts.drafting.has_key.Goals as goal

pub returns-in-Some : goal.returns-in-Some
returns-in-Some g c =
    let rows : List DraftRow = c.args.rows.now in
    let more : List (List ℕ) = c.requires.0 in
    ap (ltb c.in-Some.at) (sym (length-map rows (λ (r : DraftRow). r.key)))
    ∙ front_is (keys_in rows) more c.args.key.now c.in-Some.at (c.in-Some.ensures _ c.requires.1)
    ∙ sym (has_key_is rows c.args.key.now)

pub returns-in-None : goal.returns-in-None
returns-in-None g c =
    let rows : List DraftRow = c.args.rows.now in
    let more : List (List ℕ) = c.requires.0 in
    sym (has_key_is rows c.args.key.now ∙ not_in_front (keys_in rows) more c.args.key.now (c.in-None.ensures _ c.requires.1))
