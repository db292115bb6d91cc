-- The place of a code point is within the numbers.
use Rattle.std.proofs.Common.{◌/◌, ◌%◌, arith}
use Rattle.std.proofs.lemmas.List.{get_or_read}
use Rattle.uca_match.proofs.CharMapLemmas.{place_within}
use Rattle.uca_match.proofs.char_map.CharMap.get.Goals as goal

pub overflow_mul-page : goal.overflow_mul-page
overflow_mul-page g c =
    let m = c.self.inside in
    let page = get_or_read m.pages.items (c.args.c / 256) c.index.result.now (omega (arith, c.self.invariant.long)) c.index.ensures 0 in
    omega (arith, c.self.invariant.within (c.args.c / 256), page, m.numbers.ok.0)

pub overflow_add-page : goal.overflow_add-page
overflow_add-page g c =
    let m = c.self.inside in
    let page = get_or_read m.pages.items (c.args.c / 256) c.index.result.now (omega (arith, c.self.invariant.long)) c.index.ensures 0 in
    let inside = place_within m.pages.items m.numbers.items (c.args.c / 256) (c.args.c % 256) c.index.result.now c.self.invariant page (omega arith) in
    omega (arith, inside, m.numbers.ok.0)

pub index-requires-2 : goal.index-requires-2
index-requires-2 g c =
    let m = c.self.inside in
    let page = get_or_read m.pages.items (c.args.c / 256) c.index.result.now (omega (arith, c.self.invariant.long)) c.index.ensures 0 in
    let inside = place_within m.pages.items m.numbers.items (c.args.c / 256) (c.args.c % 256) c.index.result.now c.self.invariant page (omega arith) in
    omega (arith, inside, m.numbers.ok.0)
