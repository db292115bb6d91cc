use Rattle.std.proofs.Common.{◌≡◌, map, take}
use Rattle.std.specs.List.{AllByRecursion}
use Rattle.std.specs.Char.{IsScalar}
use Rattle.uca_values.specs.Ranges.{class_in}
use Rattle.uca_text.proofs.Runs.{IsCounted}
use Rattle.uca_text.proofs.normalize.classify.Given as goal

abbrev pub invariant-loop-place : goal.invariant-loop-place
invariant-loop-place g l = record {
  items : l.classes.items ≡ map (class_in l.properties.classes) (take l.place l.points);
  counted : IsCounted (map (class_in l.properties.classes) l.points) l.place l.run;
  scalars : AllByRecursion IsScalar (take l.place l.points);
}
