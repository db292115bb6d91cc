use Rattle.std.proofs.Common.{◌≡◌, ap, subst, sym, ◌∙◌}
use Rattle.uca_values.specs.Content.{TableContent, AreRows, keys_of}
use Rattle.uca_elements.specs.Positions.{AreDistinctKeys}
use Rattle.uca_match.specs.NumberedKeys.{points_of}
use Rattle.uca_match.proofs.PlacedKeys.{distinct_keys}
use Rattle.test_failures.proofs.libraries.map_of.Goals as goal

pub new-requires : goal.new-requires
new-requires c =
    let rows = c.deref.ensures.value ∙ ap (λ (t : TableContent). t.rows) c.table.view_is in
    let are : AreRows c.args.table.now.rows = subst (λ (t : TableContent). AreRows t.rows) c.table.view_is c.table.invariant in
    let keys : points_of c.deref-2.result.now ≡ keys_of c.args.table.now.rows =
    ap points_of c.deref-2.ensures.value ∙ c.in_ok-keys.ensures ∙ ap keys_of rows in
    subst AreDistinctKeys (sym keys) (distinct_keys c.args.table.now.rows are.distinct)
