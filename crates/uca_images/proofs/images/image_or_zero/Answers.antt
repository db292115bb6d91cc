-- A rising map has the image 0 at 0 alone.
use Rattle.std.proofs.Common.{subst, sym, ap, ◌∙◌}
use Rattle.std.specs.Option.{unwrap_or}
use Rattle.uca_weights.specs.Runs.{weight_image}
use Rattle.uca_weights.proofs.RunMaps.{IsRisingMap-runs}
use Rattle.uca_images.specs.inside.ImageTables.{IsImageEntry}
use Rattle.uca_images.proofs.ImageTables.{image_entry}
use Rattle.uca_images.proofs.images.image_or_zero.Goals as goal

pub returns : goal.returns
returns g c =
    let map = c.args.map.now in
    let images = weight_image map.level map.runs in
    subst (IsImageEntry images c.args.weight) (sym (c.unwrap_or.ensures ∙ ap (λ o. unwrap_or o 0) c.get.ensures))
    (image_entry map.level images (IsRisingMap-runs map.level map.runs c.requires) c.args.weight)
