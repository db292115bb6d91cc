-- The rows are those of the table, at each key.
use Rattle.std.proofs.Common.{◌≡◌, subst}
use Rattle.std.specs.Prelude.{IfOk}
use Rattle.std.proofs.Math.Path.{fun_ext}
use Rattle.uca_values.specs.Content.{TableContent, AreRows, properties_of}
use Rattle.uca_match.specs.NumberedKeys.{rows_at}
use Rattle.uca_order.specs.Keyings.{Keying, keying_over}
use Rattle.uca_owned.specs.Owned.{keying_in}
use Rattle.uca_owned.proofs.opening.packed_collator.Goals as goal

pub collator_of-requires : goal.collator_of-requires
collator_of-requires c = record {
  short = c.rows_are_short.ensures c.args.table.rows (rows_at c.in_ok-header.rows)
      (subst (λ (t : TableContent). AreRows t.rows) c.table.view_is c.table.invariant) c.in_ok-header.ensures.rows;
}

pub returns-clause-keying : goal.returns-clause-keying
returns-clause-keying c =
    subst (λ (k : Keying). IfOk c.collator_of.result (λ made. keying_in made ≡ k))
    (λ i. keying_over (fun_ext c.in_ok-header.ensures.rows i) (c.in_ok-header.ensures.header i) c.args.asked (properties_of c.args.properties))
    c.collator_of.ensures.keying
