-- A byte with a weight is one of ASCII, which is a code point.
use Rattle.std.proofs.Common.{◌≡◌, ◌+◌, ◌<◌, ◌∙◌, [], get_or, ap, sym, refl, false, arith}
use Rattle.std.proofs.lemmas.Str.{encode_ascii, IsCharBoundary-before_ascii}
use Rattle.uca_weights.specs.declared.Weighting.{Weighting}
use Rattle.uca_elements.specs.Collations.{Collation}
use Rattle.uca_text_comparer.specs.Heads.{AreFirstsFrom, IsTrueFirst}
use Rattle.uca_text_comparer.proofs.HeadSteps.{ascii_there, head_there, next_there, PointAt}
use Rattle.uca_text_comparer.proofs.firsts.first_at.Goals as goal

byte_is : (c : goal.After-result-1) → get_or c.args.text.now c.args.at 0 ≡ c.from.result
byte_is c = sym (c.from.ensures ∙ ap (λ l. get_or l c.args.at 0) c.as_bytes.ensures.value)

true_first : (c : goal.After-result-1) (collation : Collation) (weighting : Weighting) → AreFirstsFrom collation weighting 0 c.args.firsts.now
    → IsTrueFirst collation weighting c.from.result (get_or c.args.firsts.now c.from.result (record { weight = 0; plain = false; alone = false }))
true_first c collation weighting firsts =
    head_there (IsTrueFirst collation weighting) c.args.firsts.now c.from.result _ _ firsts
    (omega (arith, c.told-firsts, byte_is c, (c.type_inv.text c.args.at).fits)) refl

there : (c : goal.After-result-1) → c.from.result < 128 → PointAt c.args.text.now c.args.at c.from.result (c.args.at + 1)
there c low = ascii_there c.args.text.now c.args.at c.from.result c.utf8.text c.requires (byte_is c) low

pub returns-clause-next : goal.returns-clause-next
returns-clause-next c = λ collation weighting firsts some.
    let first = true_first c collation weighting firsts in
    let low = first.single some in
    next_there collation weighting _ _ c.from.result _ (there c low).point (first.each c.from.result [] (encode_ascii c.from.result low))

pub returns-clause-boundary : goal.returns-clause-boundary
returns-clause-boundary c = λ collation weighting firsts some.
    let low = (true_first c collation weighting firsts).single some in
    (IsCharBoundary-before_ascii c.args.text.now c.args.at c.requires (omega (arith, low, byte_is c)), (there c low).boundary)
