-- The settings that keys go by, from those that are asked for.
use Rattle.std.specs.Prelude.{Option, unwrap_or}
use Rattle.uca_weights.specs.declared.Asked.{Asked}
use Rattle.uca_weights.specs.declared.Depth.{Depth}
use Rattle.uca_weights.specs.declared.Numbers.TheVariants.{AsText}
use Rattle.uca_weights.specs.declared.Settings.{Settings}
use Rattle.uca_weights.specs.declared.Weighting.{Weighting}
use Rattle.uca_weights.specs.declared.Weighting.TheVariants.{Shifted}

-- the weighting that is asked for, or else the table's, or else shifted (UTS #10, section 4)
abbrev pub weighting_by : Option Weighting → Option Weighting → Weighting
weighting_by asked of_table = unwrap_or asked (unwrap_or of_table Shifted)

-- the settings of what is asked for, with that weighting
abbrev pub settings_by : Asked → Option Weighting → Settings
settings_by asked of_table = record { weighting = weighting_by asked.weighting of_table; depth = asked.depth; numbers = asked.numbers }

-- what is asked for where numbers compare as any other text
abbrev pub as_text : Option Weighting → Depth → Asked
as_text weighting depth = record { weighting = weighting; depth = depth; numbers = AsText }
