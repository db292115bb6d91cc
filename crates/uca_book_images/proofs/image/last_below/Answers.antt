-- A weight with an image has the last one below the next weight.
use Rattle.std.proofs.Common.{◌≡◌, ℕ, subst, ap, ◌∙◌, Option, arith}
use Rattle.std.specs.Prelude.{unwrap_or}
use Rattle.uca_weights.specs.Runs.{weight_image}
use Rattle.uca_book_images.specs.BookImages.{last_image}
use Rattle.uca_book_images.proofs.BookImages.{last_image_more}
use Rattle.uca_book_images.proofs.image.last_below.Goals as goal

pub loop-weight-preserved : goal.loop-weight-preserved
loop-weight-preserved g c =
    last_image_more (weight_image c.args.map.now.level c.args.map.now.runs) c.loop-weight.weight c.loop-weight.found c.unwrap_or-found.result
    c.loop-weight.invariant (c.unwrap_or-found.ensures ∙ ap (λ (o : Option ℕ). unwrap_or o c.loop-weight.found) c.get.ensures)

pub returns : goal.returns
returns g c =
    let end : c.loop-weight.weight ≡ c.args.to = omega (arith, c.loop-weight-test.false, c.loop-weight.auto.weight-end c.requires.up) in
    subst (λ (w : ℕ). c.loop-weight.found ≡ last_image (weight_image c.args.map.now.level c.args.map.now.runs) w) end c.loop-weight.invariant
