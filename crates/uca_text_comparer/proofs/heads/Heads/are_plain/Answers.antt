use Rattle.std.proofs.Common.{length, get_or, ap, subst, inl, inr, ◌∙◌, arith}
use Rattle.std.proofs.lemmas.Bool.{cases_lt}
use Rattle.uca_plain.specs.Plain.{IsPlain}
use Rattle.uca_text_comparer.specs.Heads.{IsTrueHead}
use Rattle.uca_text_comparer.proofs.HeadSteps.{head_there}
use Rattle.uca_text_comparer.proofs.heads.Heads.are_plain.Goals as goal

pub loop-code-preserved : goal.loop-code-preserved
loop-code-preserved c =
    let code = c.loop-code.code in
    let head = c.in-Some.head.now in
    let value = c.deref.ensures.value in
    let found = c.in-Some.ensures.lookup.3 in
    record {
      from = omega (arith, c.loop-code.invariant.from);
      to = omega (arith, c.loop-code-test.true);
      plain = λ collation heads x from to.
          let true_head = head_there (IsTrueHead collation c.args.self.now.weighting) c.args.self.now.items.items code head head heads (omega (arith, found.0, ap length value))
          (found.1 head ∙ ap (λ l. get_or l code head) value) in
          elim (cases_lt x code) [
            | inl below ↦ c.loop-code.invariant.plain collation heads x from below
            | inr above ↦ subst (IsPlain collation) (omega (arith, above, to)) (true_head.plain c.if-not-head.false)
          ];
    }
