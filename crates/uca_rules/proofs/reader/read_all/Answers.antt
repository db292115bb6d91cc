use Rattle.std.proofs.Common.{◌≡◌, ◌≤◌, ℕ, List, length, ap, ◌∙◌, arith}
use Rattle.uca_values.specs.Content.{properties_of}
use Rattle.uca_rules.specs.Characters.{characters}
use Rattle.uca_rules.proofs.Causes.{means, rejected}
use Rattle.uca_rules.proofs.reader.read_all.Goals as goal

pub returns-clause-found : goal.returns-clause-found
returns-clause-found g c =
    let bytes : List ℕ = c.args.bytes.now in
    let few : length bytes ≤ 1048576 = omega (arith, c.if-bytes-gt-MOST_BYTES.false) in
    let read : c.deref.result.now ≡ characters bytes = c.deref.ensures.value ∙ c.in_ok-characters.ensures.found ∙ ap characters c.in-Ok.ensures.cases.0 in
    means (properties_of c.args.properties.now) bytes c.deref.result.now c.read_characters.result few c.in-Ok.ensures.cases.1 read c.read_characters.ensures.found

pub returns-clause-fault : goal.returns-clause-fault
returns-clause-fault g c =
    let bytes : List ℕ = c.args.bytes.now in
    let few : length bytes ≤ 1048576 = omega (arith, c.if-bytes-gt-MOST_BYTES.false) in
    let read : c.deref.result.now ≡ characters bytes = c.deref.ensures.value ∙ c.in_ok-characters.ensures.found ∙ ap characters c.in-Ok.ensures.cases.0 in
    rejected (properties_of c.args.properties.now) bytes c.deref.result.now c.read_characters.result few c.in-Ok.ensures.cases.1 read c.read_characters.ensures.fault
