-- What a collator keeps from call to call.
use Rattle.std.specs.Prelude.{◌≡◌}
use Rattle.uca_weights.specs.declared.Settings.{Settings}
use Rattle.uca_elements.specs.Collations.{Collation}
use Rattle.uca_order.specs.Lengths.{HasShortRows}
use Rattle.uca_plain.specs.PointCache.{AreTrueEntries}
use Rattle.uca_key_writer.specs.declared.key_memory.KeyMemory.{KeyMemory}
use Rattle.uca_key_writer.specs.Memories.{settings_in}
use Rattle.uca_text_comparer.specs.Heads.{Knows}
use Rattle.uca_text_comparer.specs.declared.comparison.TextComparison.{TextComparison}

-- its keys are of its settings, what is known of code points is true of what it reads texts by, and its rows are short
pub record IsKept {A B : Type 0} (c : Collation) (settings : Settings) (keys : KeyMemory A) (comparison : TextComparison B) : Type 0 where
  pub under : settings_in keys ≡ settings
  pub of_keys : AreTrueEntries c keys.points.entries.items
  pub of_texts : Knows c comparison
  pub short : HasShortRows c.rows
