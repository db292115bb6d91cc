-- Implicit weights are their own images.
use Rattle.std.proofs.Common.{ℕ, ◌+◌, ◌<◌, ◌≤◌, List, false, refl, arith}
use Rattle.uca_weights.specs.declared.Element.{Element}
use Rattle.uca_values.specs.declared.ImplicitRange.{ImplicitRange}
use Rattle.uca_values.specs.Content.{Properties, AreImplicitRanges}
use Rattle.uca_values.specs.Implicit.{implicit}
use Rattle.uca_values.proofs.ImplicitPairs.{each_pair}
use Rattle.uca_tailorings.specs.Images.{Maps, AreRisingMaps, IsImage, AreImages}

-- implicit weights are their own images
pub own_implicit : (maps : Maps) → AreRisingMaps maps → (ranges : List ImplicitRange) (properties : Properties) → AreImplicitRanges ranges →
    (point : ℕ) → point < 0x11_0000 → AreImages maps (implicit ranges properties point) (implicit ranges properties point)
own_implicit maps rising ranges properties are point within =
    each_pair (λ es. AreImages maps es es)
    (λ lead low high fits near. (first lead (omega (arith, high)) (omega (arith, fits)), (second low near, tt)))
    ranges properties are point within
  where
    -- the first element of a pair
    first : (lead : ℕ) → 0x8000 ≤ lead → lead < 0x1_0000 →
        let e : Element = record { primary = lead; secondary = 0x20; tertiary = 2; mark = false } in IsImage maps e e
    first lead high fits =
        record {
          primary = rising.primary.fixed.0 lead high fits;
          secondary = rising.secondary.fixed;
          tertiary = rising.tertiary.fixed;
          mark = refl;
        }

    -- the second one
    second : (low : ℕ) → low < 0x8000 →
        let e : Element = record { primary = 0x8000 + low; secondary = 0; tertiary = 0; mark = false } in IsImage maps e e
    second low near =
        record {
          primary = rising.primary.fixed.0 (0x8000 + low) (omega arith) (omega arith);
          secondary = rising.secondary.zero;
          tertiary = rising.tertiary.zero;
          mark = refl;
        }
