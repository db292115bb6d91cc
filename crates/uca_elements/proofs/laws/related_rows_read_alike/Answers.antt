-- Portion after portion, the two readings go the same way.
use Rattle.uca_elements.proofs.RelatedReading.{read_related}
use Rattle.uca_elements.proofs.laws.related_rows_read_alike.Goals as goal

pub returns : goal.returns
returns g c old new rows others t at_keys at_points =
    let relation = g.R.RelatesElements in
    read_related relation.related relation.empty relation.kept old new rows others t (record { at_keys = at_keys; at_points = at_points })
