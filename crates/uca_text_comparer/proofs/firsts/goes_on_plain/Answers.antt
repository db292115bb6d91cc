-- The code point that begins there begins with this byte.
use Rattle.std.proofs.Common.{◌≡◌, ◌∙◌, ◌∷◌, ◌+◌, ap, sym, subst, drop, get_or, refl, arith}
use Rattle.std.specs.Str.{chars}
use Rattle.std.proofs.lemmas.Bool.{OnTrue_from}
use Rattle.std.proofs.lemmas.List.{drop_all, length-drop, get_or-drop}
use Rattle.std.proofs.lemmas.Str.{chars-nil, IsUtf8-drop}
use Rattle.uca_text_comparer.specs.Heads.{IsTrueFirst}
use Rattle.uca_text_comparer.specs.inside.Shared.{BeginsPlain}
use Rattle.uca_text_comparer.proofs.HeadSteps.{begins_with, head_there}
use Rattle.uca_text_comparer.proofs.firsts.goes_on_plain.Goals as goal

pub returns-then-at-text : goal.returns-then-at-text
returns-then-at-text c = λ collation weighting firsts boundary.
    subst (BeginsPlain collation) (sym (ap chars (drop_all c.args.at c.args.text.now c.if-at-text.true) ∙ chars-nil)) tt

pub returns : goal.returns
returns c = λ collation weighting firsts boundary.
    let text = c.args.text.now in
    let at = c.args.at in
    let here : at + 0 ≡ at = omega arith in
    let byte_is : get_or (drop at text) 0 0 ≡ c.from.result =
    get_or-drop at text 0 0 ∙ ap (λ n. get_or text n 0) here ∙ sym (c.from.ensures ∙ ap (λ l. get_or l at 0) c.as_bytes.ensures.value) in
    let first = head_there (IsTrueFirst collation weighting) c.args.firsts.now c.from.result _ _ firsts
    (omega (arith, c.told-firsts, c.from.ensures, ap (λ l. get_or l at 0) c.as_bytes.ensures.value, (c.type_inv.text at).fits)) refl in
    let begins = begins_with (drop at text) (IsUtf8-drop text at c.utf8.text boundary) (omega (arith, length-drop at text, c.if-at-text.false)) in
    let true_head = first.each begins.0 begins.2 (begins.4 ∙ ap (λ b. b ∷ begins.2) byte_is) in
    OnTrue_from _ _ (λ plain. subst (BeginsPlain collation) (sym begins.3) (true_head.plain plain))
