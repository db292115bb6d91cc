-- Each start becomes its image after those before it.
use Rattle.std.proofs.Common.{◌≡◌, ◌≤◌, ◌<◌, ℕ, suc, max, List, ◌++◌, get_or, ap, ◌∙◌, arith}
use Rattle.uca_weights.specs.Runs.{weight_image}
use Rattle.uca_book_images.specs.BookImages.{start_image, starts_image}
use Rattle.uca_book_images.proofs.BookImages.{first_image, rise_more, image_more, images_cut, images_end}
use Rattle.uca_book_images.proofs.image.images_of.Goals as goal

pub loop-start-init : goal.loop-start-init
loop-start-init g c =
    let images = weight_image c.args.map.now.level c.args.map.now.runs in
    record {
      rise = c.requires;
      last = first_image c.args.map.now.level c.args.map.now.runs;
      images = ap (λ (xs : List ℕ). xs ++ starts_image images c.args.greatest 1 c.args.starts.now) c.new-images.ensures.items;
    }

pub last_below-last-requires : goal.last_below-last-requires
last_below-last-requires g c =
    let rise = rise_more c.args.starts.now c.loop-start.start-index c.loop-start.below c.loop-start-test.true c.loop-start.invariant.rise in
    record { up = omega (arith, rise.0); last = c.loop-start.invariant.last }

pub returns-then-next-from : goal.returns-then-next-from
returns-then-next-from g c =
    let images = weight_image c.args.map.now.level c.args.map.now.runs in
    let next : c.greater_start-next.result ≡ max (suc c.loop-start.before) (start_image images (get_or c.args.starts.now c.loop-start.start-index 0)) =
    c.greater_start-next.ensures ∙ ap (max (suc c.loop-start.before)) c.start_image.ensures in
    let above : c.args.greatest < c.greater_start-next.result = omega (arith, c.if-next-from.true, c.from.ensures) in
    images_cut images c.args.greatest c.args.starts.now c.loop-start.images.items (starts_image images c.args.greatest 1 c.args.starts.now)
    c.loop-start.start-index c.loop-start.before c.greater_start-next.result c.loop-start-test.true next above c.loop-start.invariant.images

pub loop-start-preserved : goal.loop-start-preserved
loop-start-preserved g c =
    let images = weight_image c.args.map.now.level c.args.map.now.runs in
    let rise = rise_more c.args.starts.now c.loop-start.start-index c.loop-start.below c.loop-start-test.true c.loop-start.invariant.rise in
    let next : c.greater_start-next.result ≡ max (suc c.loop-start.before) (start_image images (get_or c.args.starts.now c.loop-start.start-index 0)) =
    c.greater_start-next.ensures ∙ ap (max (suc c.loop-start.before)) c.start_image.ensures in
    let fits : c.greater_start-next.result ≤ c.args.greatest = omega (arith, c.if-next-from.false, c.from.ensures) in
    record {
      rise = rise.1;
      last = c.last_below-last.ensures;
      images = image_more images c.args.greatest c.args.starts.now c.loop-start.images.items c.push.new.self.items
          (starts_image images c.args.greatest 1 c.args.starts.now) c.loop-start.start-index c.loop-start.before c.greater_start-next.result
          c.loop-start-test.true next fits c.in_ok-push.ensures.items c.loop-start.invariant.images;
    }

pub returns : goal.returns
returns g c =
    let images = weight_image c.args.map.now.level c.args.map.now.runs in
    images_end images c.args.greatest c.args.starts.now c.loop-start.images.items (starts_image images c.args.greatest 1 c.args.starts.now)
    c.loop-start.start-index c.loop-start.before c.loop-start-test.false c.loop-start.invariant.images
