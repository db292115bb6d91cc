-- The run at the position of the weight, if there is one, contains it or begins above it.
use Rattle.std.proofs.Common.{◌<◌, sym, ◌∙◌, length, arith}
use Rattle.uca_weights.specs.declared.maps.Run.{Run}
use Rattle.uca_weights.specs.Runs.{weights_end}
use Rattle.uca_weights.proofs.RunMaps.{runs_from}
use Rattle.uca_weights.proofs.RunPlaces.{never_falling, end_at, image_found, image_missed, image_by_runs, ends_fit}
use Rattle.uca_weights.proofs.maps.image.Goals as goal
use Rattle.uca_weights.proofs.maps.image.Goals.{then-at-runs-via-then-at-runs, then-at-runs-via-else-at-runs+then-weight-runs}

pub place-at-requires : goal.place-at-requires
place-at-requires c = never_falling (weights_end c.args.level) 1 1 c.args.runs.now (runs_from c.args.level c.args.runs.now c.requires)

pub returns-then-at-runs : goal.returns-then-at-runs
returns-then-at-runs c =
    let level = c.args.level in let runs = c.args.runs.now in let w = c.args.weight in
    let no : Run = record { from = 0; to = 0; count = 0 } in
    let missed = image_missed (weights_end level) 1 1 runs (runs_from level runs c.requires) w _ c.place-at.ensures.place no in
    let by_runs = image_by_runs level runs w _ (c.is_kept.ensures runs) c.if-is_kept.false in
    elim c.then-at-runs.branch [
      | then-at-runs-via-then-at-runs b ↦ sym (by_runs ∙ missed (λ l. absurd (omega arith)))
      | then-at-runs-via-else-at-runs+then-weight-runs b ↦ sym (by_runs ∙ missed (λ l. omega arith))
    ]

pub overflow_add-result : goal.overflow_add-result
overflow_add-result c =
    let level = c.args.level in let runs = c.args.runs.now in
    let no : Run = record { from = 0; to = 0; count = 0 } in
    let within : c.place-at.result < length runs = omega arith in
    let end = end_at (weights_end level) 1 1 runs (runs_from level runs c.requires) c.place-at.result no within in
    let here = c.place-at.ensures.place.1 c.place-at.result no (omega arith) within in
    let fit = ends_fit level in
    omega arith

pub returns : goal.returns
returns c =
    let level = c.args.level in let runs = c.args.runs.now in let w = c.args.weight in
    let no : Run = record { from = 0; to = 0; count = 0 } in
    let by_runs = image_by_runs level runs w _ (c.is_kept.ensures runs) c.if-is_kept.false in
    sym (by_runs ∙ image_found runs w _ c.place-at.ensures.place no (omega arith) (omega arith))
