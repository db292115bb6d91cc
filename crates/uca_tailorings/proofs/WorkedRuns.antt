-- The runs of the worked tailorings are proper, and their maps rise.
use Rattle.std.proofs.Common.{◌≡◌, ◌+◌, ◌&&◌, true, Bool, nat_le, nat_lt, Option, Some, None, refl, arith}
use Rattle.std.proofs.lemmas.Bool.Decides.{nat_tests}
use Rattle.uca_weights.specs.declared.Level.{Level}
use Rattle.uca_weights.specs.declared.Level.TheVariants.{One, Two, Three}
use Rattle.uca_weights.specs.declared.maps.Run.{Run}
use Rattle.uca_weights.specs.Runs.{weights_end, IsAbove, IsProperRun}
use Rattle.uca_weights.proofs.RunMaps.{IsRisingMap-runs}
use Rattle.uca_certificates.specs.Certificates.{CertificateContent, IsCertificate}
use Rattle.uca_tailorings.specs.Images.{AreRisingMaps}
use Rattle.uca_tailorings.specs.Inputs.{maps_of}
use Rattle.uca_tailorings.specs.Worked.{run, kept_runs, moving_runs}

-- both sides of a run are weights of the level, and it has some
abbrev is_in_range : Level → Run → Bool
is_in_range level r =
    nat_lt 0 r.count && nat_lt 0 r.from && nat_lt 0 r.to && nat_le (r.from + r.count) (weights_end level) && nat_le (r.to + r.count) (weights_end level)

-- such a run above the one before it is proper
proper_run : (level : Level) (previous : Option Run) (r : Run) → is_in_range level r ≡ true → IsAbove previous r → IsProperRun level previous r
proper_run level previous r range above =
    record {
      some = grind (arith, nat_tests, range);
      range = record {
        from_zero = grind (arith, nat_tests, range);
        to_zero = grind (arith, nat_tests, range);
        from_end = grind (arith, nat_tests, range);
        to_end = grind (arith, nat_tests, range);
      };
      above = above;
    }

-- the runs by which no weight moves
pub kept : IsCertificate kept_runs
kept =
    record {
      primary = record {
        rise = (
          proper_run One None (run 0x1C47 0x1C47 1) refl tt,
          (proper_run One (Some (run 0x1C47 0x1C47 1)) (run 0x1C60 0x1C60 1) refl (omega arith, omega arith), tt),
        );
        fixed = tt;
      };
      secondary = record { rise = (proper_run Two None (run 0x20 0x20 1) refl tt, tt); fixed = refl };
      tertiary = record { rise = (proper_run Three None (run 2 2 1) refl tt, tt); fixed = refl };
    }

-- the runs by which `b` moves
pub moving : IsCertificate moving_runs
moving =
    record {
      primary = record {
        rise = (
          proper_run One None (run 0x1C47 0x1C47 1) refl tt,
          (
            proper_run One (Some (run 0x1C47 0x1C47 1)) (run 0x1C48 0x1C49 1) refl (omega arith, omega arith),
            (proper_run One (Some (run 0x1C48 0x1C49 1)) (run 0x1C60 0x1C60 1) refl (omega arith, omega arith), tt),
          ),
        );
        fixed = tt;
      };
      secondary = record { rise = (proper_run Two None (run 0x20 0x20 1) refl tt, tt); fixed = refl };
      tertiary = record {
        rise = (proper_run Three None (run 2 2 1) refl tt, (proper_run Three (Some (run 2 2 1)) (run 8 8 1) refl (omega arith, omega arith), tt));
        fixed = refl;
      };
    }

-- the maps of proper runs rise
pub maps_rise : (runs : CertificateContent) → IsCertificate runs → AreRisingMaps (maps_of runs)
maps_rise runs proper =
    record {
      primary = IsRisingMap-runs One runs.primary proper.primary;
      secondary = IsRisingMap-runs Two runs.secondary proper.secondary;
      tertiary = IsRisingMap-runs Three runs.tertiary proper.tertiary;
    }
