use Rattle.std.proofs.Common.{Some, None, refl}
use Rattle.uca_rules.proofs.text_reader.TextReader.read_expansion.Goals as goal

pub returns-in-Ok-clause-found : goal.returns-in-Ok-clause-found
returns-in-Ok-clause-found g c =
    let found = c.in-Ok.ensures.found in
    (Some found.0, (c.in-Some.text.now, c.in-Some.ensures, found.1), found.2)

pub returns-in_default-clause-found : goal.returns-in_default-clause-found
returns-in_default-clause-found g c = (None, (c.in_default.ensures, refl), tt)

pub returns-in-Err-clause-fault : goal.returns-in-Err-clause-fault
returns-in-Err-clause-fault g c = (c.in-Some.text.now, c.in-Some.ensures, c.in-Err.ensures.fault)
