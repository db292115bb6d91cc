-- Where a byte differs the texts do, and where none does they are the same.
use Rattle.std.proofs.Common.{◌≡◌, get_or, take, length, ap, ◌∙◌, arith}
use Rattle.uca_rules.specs.Characters.{codes_of}
use Rattle.uca_rules.proofs.Placing.{no_character, code_at, codes_more, length-codes, other_length, other_bytes, same_bytes}
use Rattle.std.proofs.lemmas.List.{take_more, take_all}
use Rattle.uca_rules.proofs.signs.begins_with.Goals as goal

pub returns-then-characters-at : goal.returns-then-characters-at
returns-then-characters-at c =
    let at = c.loop-at.at in
    other_bytes (codes_of (take 10 c.args.characters.now)) c.args.text.now at _ c.from.result
    (code_at c.args.characters.now 10 at no_character (omega arith) (omega arith)) (cc) c.if-characters-at.true

pub loop-at-preserved : goal.loop-at-preserved
loop-at-preserved c =
    let at = c.loop-at.at in
    let more = codes_more c.args.characters.now at no_character (omega arith) in
    let bytes = take_more c.args.text.now at 0 (omega arith) in
    let same : c.from.result ≡ get_or c.args.text.now at 0 = cc in
    let invariant = c.loop-at.invariant in
    cc

pub returns : goal.returns
returns c =
    let e : c.loop-at.at ≡ 10 = omega arith in
    let i = rw e at c.loop-at.invariant in
    same_bytes (codes_of (take 10 c.args.characters.now)) c.args.text.now (i ∙ take_all 10 c.args.text.now (omega arith))

pub returns-then-characters-lt-BRACKET_LENGTH : goal.returns-then-characters-lt-BRACKET_LENGTH
returns-then-characters-lt-BRACKET_LENGTH c =
    let cs = c.args.characters.now in
    let short = c.if-characters-lt-BRACKET_LENGTH.true in
    other_length (codes_of (take 10 cs)) c.args.text.now
    (omega (arith, length-codes (take 10 cs), ap length (take_all 10 cs (omega arith)), short, c.requires.length))
