-- The text of an error of the runs of a map.
use Rattle.std.specs.Prelude.{ℕ, List, codes}
use Rattle.uca_weights.specs.declared.maps.MapFaultKind.{MapFaultKind}
use Rattle.uca_weights.specs.declared.maps.MapFaultKind.TheVariants as kinds

abbrev pub map_kind_text : MapFaultKind → List ℕ
map_kind_text kinds.Empty = codes "Empty"
map_kind_text kinds.NotRising = codes "NotRising"
map_kind_text kinds.OutOfRange = codes "OutOfRange"
map_kind_text kinds.Fixed = codes "Fixed"
