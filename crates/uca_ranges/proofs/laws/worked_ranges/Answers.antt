use Rattle.std.proofs.Common.{◌≡◌, refl}
use Rattle.std.specs.declared.cmp.Ordering.TheVariants.{Less, Greater}
use Rattle.uca_ranges.proofs.laws.worked_ranges.Goals as goal

pub returns : goal.returns
returns c =
    record {
      letters = refl;
      accents = refl;
      none = refl;
      inside = ((λ h. let same : Greater ≡ Less = h in cc), refl);
      outside = λ h. (let same : Greater ≡ Less = h.1 in cc);
      begins = refl;
      letters_compact = refl;
      letters_shifted = refl;
      none_compact = refl;
      accents_compact = refl;
      accents_shifted = refl;
      written = refl;
      all = refl;
      begins_compact = refl;
      offset = refl;
    }
