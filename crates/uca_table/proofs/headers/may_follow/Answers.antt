-- One more range agrees, and all of them; or one does not.
use Rattle.std.proofs.Common.{take, refl, subst, sym}
use Rattle.std.specs.List.{AllByRecursion}
use Rattle.std.proofs.lemmas.Bool.{false≢true}
use Rattle.std.proofs.lemmas.List.{take_more, take_all}
use Rattle.std.proofs.lemmas.List.Elements.{All-from_recursion}
use Rattle.uca_weights.proofs.Lists.{each_push}
use Rattle.uca_values.specs.declared.ImplicitRange.{ImplicitRange}
use Rattle.uca_values.specs.Content.{Agree}
use Rattle.uca_table.proofs.headers.may_follow.Goals as goal

pub returns-then-not-is_implicit_range : goal.returns-then-not-is_implicit_range
returns-then-not-is_implicit_range c = ((λ no. absurd (false≢true no)), (λ may. c.if-not-is_implicit_range.ensures.1 may.alone))

pub returns-then-not-agree : goal.returns-then-not-agree
returns-then-not-agree c = (
  (λ no. absurd (false≢true no)),
  (λ may. c.if-not-agree.ensures.1
      (All-from_recursion (λ s. Agree s c.args.range) c.args.earlier.now may.agrees c.loop-other.other-index _ c.loop-other-test.true)),
)

pub loop-other-preserved : goal.loop-other-preserved
loop-other-preserved c =
    let earlier = c.args.earlier.now in
    let at = c.loop-other.other-index in
    let P : ImplicitRange → Type 0 = λ s. Agree s c.args.range in
    subst (AllByRecursion P) (sym (take_more earlier at _ c.loop-other-test.true))
    ((each_push P (take at earlier) _).1 (c.loop-other.invariant, c.if-not-agree.ensures.0 refl))

pub returns : goal.returns
returns c = (
  (λ _. record {
    alone = c.if-not-is_implicit_range.ensures.0 refl;
    agrees = subst (AllByRecursion (λ s. Agree s c.args.range)) (take_all c.loop-other.other-index c.args.earlier.now c.loop-other-test.false)
        c.loop-other.invariant;
  }),
  (λ _. refl),
)
