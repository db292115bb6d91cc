use Rattle.std.proofs.Common.{refl}
use Rattle.uca_values.specs.Content.{properties_of}
use Rattle.uca_rules.specs.inside.Reading.{properties_in}
use Rattle.uca_rules.proofs.Causes.{fault_of}
use Rattle.uca_rules.proofs.reader.read_characters.Goals as goal

pub returns-in-Err-clause-fault : goal.returns-in-Err-clause-fault
returns-in-Err-clause-fault g c =
    let start = c.new-reader.result in
    fault_of (properties_in start.texts) (properties_of c.args.properties.now) start.texts.end c.args.end c.args.characters.now c.args.characters.now
    c.in-Err.fault c.new-reader.ensures.properties c.new-reader.ensures.end refl c.in-Err.ensures.fault
