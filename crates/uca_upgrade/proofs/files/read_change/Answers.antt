-- What is read of the parts is what they mean, and so is the whole.
use Rattle.uca_upgrade.proofs.files.read_change.Goals as goal

pub returns-in-Ok-read_listed-clause-only : goal.returns-in-Ok-read_listed-clause-only
returns-in-Ok-read_listed-clause-only c change mean =
    let editions = c.in-Ok.ensures.only change mean in
    let listed = c.in-Ok-read_listed.ensures.only change mean in
    λ i. record {
      old = editions.old i;
      old_properties = editions.old_data i;
      new = editions.new i;
      new_properties = editions.new_data i;
      texts = (listed.list i).texts;
      ranges = (listed.list i).ranges;
      maps = listed.maps i;
    }
