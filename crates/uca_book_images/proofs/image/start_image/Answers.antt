-- The start has an image, or none.
use Rattle.std.proofs.Common.{◌∙◌, ℕ, ap, ◌+◌}
use Rattle.uca_weights.specs.Runs.{weight_image}
use Rattle.uca_book_images.proofs.BookImages.{start_sent, start_lost}
use Rattle.uca_book_images.proofs.image.start_image.Goals as goal

pub returns-in-Some : goal.returns-in-Some
returns-in-Some g c =
    c.from.ensures ∙ start_sent (weight_image c.args.map.now.level c.args.map.now.runs) c.args.start c.in-Some.image c.in-Some.ensures

pub returns-in-None : goal.returns-in-None
returns-in-None g c =
    ap (λ (n : ℕ). n + 1) c.from-in-None.ensures
    ∙ start_lost (weight_image c.args.map.now.level c.args.map.now.runs) c.args.start c.args.last c.in-None.ensures c.requires
