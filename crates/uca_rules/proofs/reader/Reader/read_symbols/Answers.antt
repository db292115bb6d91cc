use Rattle.std.proofs.Common.{List, true, refl, sym, subst}
use Rattle.uca_rules.specs.Pieces.{Symbol, BeginsText}
use Rattle.uca_rules.specs.Statements.{HasRanges}
use Rattle.uca_rules.specs.inside.Reading.{properties_in, state_of}
use Rattle.uca_rules.proofs.StarredLemmas.{starred_fault}
use Rattle.uca_rules.proofs.reader.Reader.read_symbols.Goals as goal

pub add_targets-requires-clause-ranges : goal.add_targets-requires-clause-ranges
add_targets-requires-clause-ranges g c = subst HasRanges (sym c.deref.ensures.value) (c.in_ok-rest.ensures.ranges refl)

pub returns-in-Err-clause-fault : goal.returns-in-Err-clause-fault
returns-in-Err-clause-fault g c =
    let begins : BeginsText true c.args.text.now c.deref.result.now c.in_ok-rest.rest.now =
    subst (λ (l : List Symbol). BeginsText true c.args.text.now l c.in_ok-rest.rest.now) (sym c.deref.ensures.value) c.in_ok-rest.ensures.found in
    let ranges : HasRanges c.deref.result.now = subst HasRanges (sym c.deref.ensures.value) (c.in_ok-rest.ensures.ranges refl) in
    starred_fault (properties_in c.args.self.now.texts) c.args.self.now.texts.end (state_of c.args.self.now) c.args.strength c.args.text.now c.deref.result.now c.in_ok-rest.rest.now c.place_of.result
    c.in-Err.fault begins ranges c.place_of.ensures c.in-Err.ensures.fault

pub returns-in-Ok-clause-found : goal.returns-in-Ok-clause-found
returns-in-Ok-clause-found g c = record {
  symbols = c.deref.result.now;
  begins = subst (λ (l : List Symbol). BeginsText true c.args.text.now l c.in_ok-rest.rest.now) (sym c.deref.ensures.value) c.in_ok-rest.ensures.found;
  ranges = subst HasRanges (sym c.deref.ensures.value) (c.in_ok-rest.ensures.ranges refl);
  adds = c.in-Ok.ensures.added;
}
