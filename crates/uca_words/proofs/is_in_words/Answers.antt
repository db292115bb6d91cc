use Rattle.std.proofs.Common.{rules}
use Rattle.clap.specs.Words.{found_of}
use Rattle.uca_words.proofs.Given.{given_by_source}
use Rattle.uca_words.proofs.is_in_words.Goals as goal

pub returns-in-Some-CommandLine : goal.returns-in-Some-CommandLine
returns-in-Some-CommandLine c =
    let given = given_by_source (found_of c.args.found.now) c.args.id.now c.value_source.result c.value_source.ensures in
    search rules

pub returns-in-Some-DefaultValue : goal.returns-in-Some-DefaultValue
returns-in-Some-DefaultValue c =
    let given = given_by_source (found_of c.args.found.now) c.args.id.now c.value_source.result c.value_source.ensures in
    search rules

pub returns-in-None : goal.returns-in-None
returns-in-None c =
    let given = given_by_source (found_of c.args.found.now) c.args.id.now c.value_source.result c.value_source.ensures in
    search rules
