-- The least runs of a level make a map.
use Rattle.std.proofs.Common.{◌≡◌, List, refl, sym, subst, arith}
use Rattle.uca_weights.specs.declared.Level.{Level}
use Rattle.uca_weights.specs.declared.Level.TheVariants.{One, Two, Three}
use Rattle.uca_weights.specs.declared.maps.Run.{Run}
use Rattle.uca_weights.specs.Runs.{AreProperRuns}
use Rattle.uca_editions.specs.inside.LeastMaps.{least_runs}

least_proper : (level : Level) → AreProperRuns level (least_runs level)
least_proper One = record { rise = tt; fixed = tt }
least_proper Two = record {
  rise = (
    record {
      some = omega arith;
      range = record { from_zero = omega arith; to_zero = omega arith; from_end = omega arith; to_end = omega arith };
      above = tt;
    },
    tt,
  );
  fixed = refl;
}
least_proper Three = record {
  rise = (
    record {
      some = omega arith;
      range = record { from_zero = omega arith; to_zero = omega arith; from_end = omega arith; to_end = omega arith };
      above = tt;
    },
    tt,
  );
  fixed = refl;
}

-- runs that are the least ones make a map
pub proper_where_least : (level : Level) (runs : List Run) → runs ≡ least_runs level → AreProperRuns level runs
proper_where_least level runs is = subst (AreProperRuns level) (sym is) (least_proper level)
