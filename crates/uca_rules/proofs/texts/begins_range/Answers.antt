-- By the last symbol and the next one.
use Rattle.std.proofs.Common.{◌≡◌, ◌∷◌, ◌++◌, [], length, ap, sym, subst, ◌∙◌, arith}
use Rattle.std.proofs.lemmas.Bool.{false≢true}
use Rattle.std.proofs.lemmas.List.{same_from_push, length_push}
use Rattle.uca_rules.specs.declared.characters.Character.{Character}
use Rattle.uca_rules.specs.Pieces.{Symbol, Literal}
use Rattle.uca_rules.specs.Statements.{IsRange}
use Rattle.uca_rules.proofs.texts.begins_range.Goals as goal

pub returns-in_default : goal.returns-in_default
returns-in_default c = (
  (λ no. absurd (false≢true no)),
  (λ begins. absurd (omega (arith, c.in_default.ensures.cases, ap length begins.are, length_push begins.front (Literal begins.x)))),
)

pub returns-in-Literal-Literal : goal.returns-in-Literal-Literal
returns-in-Literal-Literal c =
    let front = c.in-Some.field-0-1.now in
    let x = c.in-Literal-Literal.x in
    let y = c.in-Literal-Literal.y in (
      (λ yes. record {
        front = front;
        x = x;
        y = y;
        are = c.in-Some.ensures.cases.0 ∙ ap (λ (s : Symbol). front ++ s ∷ []) c.in-Literal-Literal.is-0;
        is = c.in-Literal-Literal.is-1;
        range = c.is_range.ensures.0 yes;
      }),
      (λ begins.
          let last = (same_from_push front begins.front c.in-Some.last.now (Literal begins.x) (sym c.in-Some.ensures.cases.0 ∙ begins.are)).1 in
          let first : begins.x ≡ x = let same = sym last ∙ c.in-Literal-Literal.is-0 in cc in
          let second : begins.y ≡ y = let same = sym begins.is ∙ c.in-Literal-Literal.is-1 in cc in
          c.is_range.ensures.1 (subst (λ (d : Character). IsRange x.code d.code) second
          (subst (λ (d : Character). IsRange d.code begins.y.code) first begins.range))),
    )

pub returns-in_default-2 : goal.returns-in_default-2
returns-in_default-2 c = (
  (λ no. absurd (false≢true no)),
  (λ begins. let same = sym begins.is ∙ c.in_default-2.is-1 in cc),
)

pub returns-in_default-2-2 : goal.returns-in_default-2-2
returns-in_default-2-2 c = (
  (λ no. absurd (false≢true no)),
  (λ begins.
      let front = c.in-Some.field-0-1.now in
      let last = (same_from_push front begins.front c.in-Some.last.now (Literal begins.x) (sym c.in-Some.ensures.cases.0 ∙ begins.are)).1 in
      let same = sym c.in_default-2.is-0 ∙ last in
      cc),
)
