-- The worked lines follow from the definitions.
use Rattle.std.proofs.Common.{◌≡◌, [], ◌∷◌, length, codes, refl, ap, arith}
use Rattle.uca_rekey.specs.WorkedLines.{WorkedLines}

-- the header of compact keys is not that of keys
other : codes "#uca compact" ≡ codes "#uca keys" → ⊥
other same =
    let lengths : 12 ≡ 9 = ap length same in
    omega (arith, lengths)

pub worked : WorkedLines
worked = record {
  letter = record { key = 0x1C ∷ 0x47 ∷ 0 ∷ 0 ∷ 0 ∷ 0x20 ∷ 0 ∷ 0 ∷ 0 ∷ 2 ∷ []; new_key = 8 ∷ 2 ∷ []; has = refl; becomes = refl; put = refl };
  expanded = record { key = 8 ∷ 2 ∷ []; new_key = 0x1C ∷ 0x47 ∷ 0 ∷ 0 ∷ 0 ∷ 0x20 ∷ 0 ∷ 0 ∷ 0 ∷ 2 ∷ []; has = refl; becomes = refl; put = refl };
  headed = (refl, refl, (record { key = 0x1C ∷ 0x47 ∷ 0 ∷ 0 ∷ 0 ∷ 0x20 ∷ 0 ∷ 0 ∷ 0 ∷ 2 ∷ []; new_key = 8 ∷ 2 ∷ []; has = refl; becomes = refl; put = refl }, tt));
  other_header = λ after. other after.0;
  few_levels = (refl, refl);
  odd = refl;
}
