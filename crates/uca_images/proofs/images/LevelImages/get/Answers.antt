use Rattle.std.proofs.Common.{ap, ◌∙◌}
use Rattle.uca_weights.specs.Runs.{MapContent, weight_image}
use Rattle.uca_images.proofs.ImageTables.{no_image, an_image}
use Rattle.uca_images.proofs.images.LevelImages.get.Goals as goal

pub returns-then-weight-ne0 : goal.returns-then-weight-ne0
returns-then-weight-ne0 g c =
    let map = c.self.inside.map.now in
    no_image (weight_image map.level map.runs) c.self.inside.images.items c.self.invariant c.args.weight c.from.result c.index-image.result.now
    c.ranges.weight.fits c.from.ensures c.index-image.ensures c.if-image-eq0.true c.if-weight-ne0.true
    ∙ ap (λ (m : MapContent). weight_image m.level m.runs c.args.weight) c.self.view_is

pub returns : goal.returns
returns g c =
    let map = c.self.inside.map.now in
    an_image (weight_image map.level map.runs) c.self.inside.images.items c.self.invariant c.args.weight c.from.result c.index-image.result.now
    c.ranges.weight.fits c.from.ensures c.index-image.ensures c.else-image-eq0.either
    ∙ ap (λ (m : MapContent). weight_image m.level m.runs c.args.weight) c.self.view_is
