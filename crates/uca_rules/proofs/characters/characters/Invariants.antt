use Rattle.std.proofs.Common.{◌≡◌, ◌+◌, ◌++◌, length}
use Rattle.std.specs.Str.{IsUtf8, chars}
use Rattle.std.specs.Str.Iter.{char_indices_offset, char_indices_rest}
use Rattle.uca_rules.specs.Characters.{placed_from, characters}
use Rattle.uca_rules.proofs.characters.characters.Given as goal

abbrev pub invariant-loop-place : goal.invariant-loop-place
invariant-loop-place g l = record {
  items : l.characters.items ++ placed_from (char_indices_offset l.place-iterator) (chars (char_indices_rest l.place-iterator)) ≡ characters l.text;
  place : char_indices_offset l.place-iterator + length (char_indices_rest l.place-iterator) ≡ length l.text;
  utf8 : IsUtf8 (char_indices_rest l.place-iterator);
}
