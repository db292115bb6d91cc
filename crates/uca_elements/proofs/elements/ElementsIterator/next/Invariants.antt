use Rattle.std.proofs.Common.{◌≡◌, ◌-◌, None, length}
use Rattle.uca_elements.specs.Collations.{collation_of}
use Rattle.uca_elements.specs.Places.{IsPlace, left_of}
use Rattle.uca_elements.specs.inside.Rest.{rest_of}
use Rattle.uca_elements.proofs.elements.ElementsIterator.next.Given as goal

abbrev pub invariant-loop-first : goal.invariant-loop-first
invariant-loop-first g l =
    let now = l.self-inside in
    let before = l.initial.self-inside in
    record {
      no_second : now.second ≡ None;
      is_place : IsPlace now.text.now now.place;
      same_rest : rest_of (collation_of g.L.Lookup.content now.collator) None now.row.now (left_of now.text.now now.place)
          ≡ rest_of (collation_of g.L.Lookup.content before.collator) None before.row.now (left_of before.text.now before.place);
    }

abbrev pub decreases-loop-first : goal.decreases-loop-first
decreases-loop-first g l = length l.self-inside.text.now.points - l.self-inside.place.at
