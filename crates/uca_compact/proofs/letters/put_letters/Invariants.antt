-- The weights so far were put, and there is room for the others.
use Rattle.std.proofs.Common.{◌≡◌, ◌≤◌, ◌*◌, ◌-◌, ◌/◌, length, take}
use Rattle.uca_compact.specs.Programs.{form_of}
use Rattle.uca_compact.specs.inside.Places.{AreTrueEntries}
use Rattle.uca_compact.specs.inside.LevelsPut.{IsPutTo}
use Rattle.uca_compact.proofs.letters.put_letters.Given as goal

abbrev pub invariant-loop-at : goal.invariant-loop-at
invariant-loop-at l = record {
  put : IsPutTo (form_of l.form) l.level (take l.size l.codes) l.at l.count l.after_lead;
  size : l.size ≤ 3 * (l.at / 2);
  codes : length l.codes ≡ length l.fn.codes;
  entries : length l.entries ≡ 2048;
  true_entries : AreTrueEntries (form_of l.form) l.entries;
  hints : length l.hints ≡ 4096;
}

abbrev pub decreases-loop-at : goal.decreases-loop-at
decreases-loop-at l = length l.level - l.at
