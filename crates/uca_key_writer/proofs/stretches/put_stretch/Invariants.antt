use Rattle.std.proofs.Common.{ℕ, ◌≤◌, ◌*◌, ◌-◌, List}
use denote.Text.{Utf8}
use denote.Shadow.{shadow}
use Rattle.uca_elements.specs.Collations.{Collation}
use Rattle.uca_key_writer.specs.inside.LevelBuffers.{HasRoom, levels_of}
use Rattle.uca_plain.specs.PointCache.{AreTrueEntries}
use Rattle.uca_key_writer.specs.inside.Stretches.{ReadsUpTo, ReadsSome}
use Rattle.uca_key_writer.proofs.stretches.put_stretch.Given as goal

-- the last code point waits
abbrev pub invariant-loop-turn : goal.invariant-loop-turn
invariant-loop-turn g l = record {
  utf8 : shadow (Utf8 l.rest);
  few : l.last.count ≤ 3;
  room : HasRoom (3 * (65 - l._turn)) l.counts l.primary l.secondary l.tertiary l.quaternary;
  reads : (c : Collation) (key xs : List ℕ) → AreTrueEntries c l.points.entries.items →
      ReadsUpTo c l.weighting xs (levels_of l.initial.after_variable l.fn.counts l.initial.primary l.initial.secondary l.initial.tertiary l.initial.quaternary key) l.first →
      ReadsSome c l.weighting xs l.text l.rest (levels_of l.after_variable l.counts l.primary l.secondary l.tertiary l.quaternary key) l.last;
}
