use Rattle.std.proofs.Common.{List, subst, sym}
use Rattle.uca_values.specs.Content.{keys_of}
use Rattle.uca_relations.specs.declared.Relation.{Relation}
use Rattle.uca_elements.specs.Positions.{AreDistinctKeys}
use Rattle.uca_match.specs.NumberedKeys.{points_of}
use Rattle.uca_match.specs.Tries.{positions}
use Rattle.uca_tailor.specs.inside.KeyRows.{AreListed}
use Rattle.uca_tailor.proofs.DraftLemmas.KeyLookups.{listed_positions}
use Rattle.uca_tailor.proofs.drafts.key_rows.rows_of_keys.Goals as goal

pub new-requires : goal.new-requires
new-requires g c = subst (λ keys. AreDistinctKeys (points_of keys)) (sym c.deref.ensures.value) c.in-Ok.ensures.distinct

pub returns-in-Ok : goal.returns-in-Ok
returns-in-Ok g c =
    listed_positions positions c.new.result (keys_of c.args.base.now.rows) c.args.rules.now (points_of c.deref.result.now) c.new.ensures
    (subst (λ (relations : List Relation). AreListed (keys_of c.args.base.now.rows) relations (points_of c.deref.result.now)) c.relations.ensures.value
    (subst (λ keys. AreListed (keys_of c.args.base.now.rows) c.relations.result.now (points_of keys)) (sym c.deref.ensures.value)
    c.in-Ok.ensures.listed))
