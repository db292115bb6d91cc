use Rattle.std.proofs.Common.{refl}
use Rattle.uca_compact.proofs.laws.worked_keys.Goals as goal

pub returns : goal.returns
unfolding lib.Utf8.encode
returns c =
    record {
      letter = refl;
      letter_shifted = refl;
      accent = refl;
      capital = refl;
      empty = refl;
      empty_shifted = refl;
      long_run = refl;
      longest_run = refl;
      space = refl;
      greater = refl;
      lesser = refl;
      lesser_shifted = refl;
      wide_accents = refl;
      wide_cases = refl;
      han = refl;
      identical = refl;
    }
