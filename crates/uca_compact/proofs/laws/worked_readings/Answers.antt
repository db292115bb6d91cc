use Rattle.std.proofs.Common.{[], ◌∷◌, refl}
use Rattle.uca_weights.specs.declared.Depth.TheVariants.{Weights, Identical}
use Rattle.uca_weights.specs.declared.Weighting.TheVariants.{NonIgnorable, Shifted}
use Rattle.uca_compact.specs.WorkedKeys.{small_book}
use Rattle.uca_compact.proofs.ExpandedKeys.{is_of_no_key, small_forms, half_point_read}
use Rattle.uca_compact.proofs.laws.worked_readings.Goals as goal

pub returns : goal.returns
unfolding lib.Utf8.encode
returns c =
    let none = is_of_no_key Weights NonIgnorable small_book (small_forms NonIgnorable) in
    record {
      letter = refl;
      accent = refl;
      last_of_cell = refl;
      past_cell = none (9 ∷ 24 ∷ 2 ∷ []) refl;
      no_cell = none (13 ∷ 0 ∷ 0 ∷ 2 ∷ []) refl;
      no_lesser = none (5 ∷ 0 ∷ 2 ∷ []) refl;
      no_common = none (6 ∷ 2 ∷ []) refl;
      run_alone = none (8 ∷ 4 ∷ 99 ∷ 2 ∷ []) refl;
      plain_written = none (8 ∷ 4 ∷ 5 ∷ []) refl;
      wrong_side = none (8 ∷ 0 ∷ 99 ∷ 103 ∷ 1 ∷ []) refl;
      no_end = none (8 ∷ []) refl;
      no_bytes = none [] refl;
      more_bytes = none (8 ∷ 2 ∷ 0 ∷ []) refl;
      no_level = is_of_no_key Weights Shifted small_book (small_forms Shifted) (10 ∷ 2 ∷ []) refl;
      point = refl;
      half_point = is_of_no_key Identical NonIgnorable small_book (small_forms NonIgnorable) (2 ∷ 0xC3 ∷ []) half_point_read;
    }
