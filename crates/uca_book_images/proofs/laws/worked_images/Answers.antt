use Rattle.std.proofs.Common.{refl}
use Rattle.uca_book_images.proofs.laws.worked_images.Goals as goal

pub returns : goal.returns
returns c =
    record {
      moved = refl;
      none = refl;
      first = refl;
      gap = refl;
      greatest = refl;
      old_key = refl;
      new_key = refl;
    }
