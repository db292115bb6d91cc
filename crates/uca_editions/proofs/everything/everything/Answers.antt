use Rattle.std.proofs.Common.{◌≡◌, List, true, sym, subst}
use Rattle.uca_values.specs.declared.CodePointRange.{CodePointRange}
use Rattle.uca_values.specs.Ranges.{is_within}
use Rattle.uca_editions.proofs.EveryKey.{each_row_listed, has_every_point}
use Rattle.uca_editions.proofs.everything.everything.Goals as goal

pub returns-in-Ok : goal.returns-in-Ok
returns-in-Ok g c = record {
  old_keys = each_row_listed _ _ c.in-Ok.ensures.old;
  new_keys = each_row_listed _ _ c.in-Ok.ensures.new;
  points = λ point scalar.
      subst (λ (ranges : List CodePointRange). is_within ranges point ≡ true) (sym c.in-Ok.ensures.ranges) (has_every_point point scalar);
}
