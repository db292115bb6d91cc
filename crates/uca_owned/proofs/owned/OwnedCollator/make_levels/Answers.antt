-- The levels are those of the key by what the collator keys texts by.
use Rattle.std.proofs.Common.{chars, subst}
use Rattle.std.specs.Arc.{arc_value}
use Rattle.std.specs.Prelude.{IfOk}
use Rattle.std.specs.Bool.{OnTrue}
use Rattle.uca_weights.specs.declared.Settings.{Settings}
use Rattle.uca_match.specs.OwnedCollations.{owned_collation}
use Rattle.uca_order.specs.Depths.{read_points}
use Rattle.uca_order.specs.Keyings.{Keying, keying_by}
use Rattle.uca_key_writer.specs.KeyLevels.{AreLevelsOf}
use Rattle.uca_owned.specs.Owned.{OwnedState, keying_in}
use Rattle.uca_owned.proofs.owned.OwnedCollator.make_levels.Goals as goal

pub returns-clause-levels : goal.returns-clause-levels
returns-clause-levels c =
    let text = chars c.args.text.now in
    let levels = c.write_levels.new.keys.buffer.levels in
    let read = owned_collation (arc_value c.self.inside.collation) in
    let Made : Keying → Type 0 = λ k. IfOk c.write_levels.result (λ made. OnTrue made
    (AreLevelsOf k.settings.weighting (read_points k.collation k.settings.numbers text).elements levels)) in
    subst (λ (s : OwnedState). Made (keying_in s)) c.self.view_is
    (subst (λ (settings : Settings). Made (keying_by read settings)) c.self.invariant.under
    (rw c.deref.ensures at c.write_levels.ensures.levels))
