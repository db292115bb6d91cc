use Rattle.std.proofs.Common.{length, get_or, ap, subst, sym, refl, ◌∙◌, arith}
use Rattle.std.proofs.lemmas.Bool.{OnTrue_at}
use Rattle.uca_text_comparer.specs.Heads.{IsTrueHead}
use Rattle.uca_text_comparer.proofs.HeadSteps.{head_there, pair_is, single_is}
use Rattle.uca_text_comparer.proofs.heads.Heads.first_of.Goals as goal

pub returns-in-Some : goal.returns-in-Some
returns-in-Some c = λ collation heads.
    let byte = c.args.byte in
    let head = c.in-Some.head.now in
    let value = c.deref.ensures.value in
    let found = c.in-Some.ensures.lookup.3 in
    let true_head = head_there (IsTrueHead collation c.args.self.now.weighting) c.args.self.now.items.items byte head head heads (omega (arith, found.0, ap length value))
    (found.1 head ∙ ap (λ l. get_or l byte head) value) in
    record {
      each = λ x more is. subst (λ y. IsTrueHead collation c.args.self.now.weighting y head) (sym (single_is x byte more is c.if-byte-lt-ASCII.true)) true_head;
      single = λ some. c.if-byte-lt-ASCII.true;
    }

pub returns : goal.returns
returns c = λ collation heads. record {
  each = λ x more is.
      let within = pair_is x c.args.byte more is (omega (arith, c.if-byte-lt192.false)) (omega (arith, c.if-byte-ge224.false)) in
      record {
        plain = λ plain. OnTrue_at plain (c.are_plain.ensures collation heads) x within.0 within.1;
        first = λ some. absurd (some refl);
        alone = λ alone. absurd cc;
      };
  single = λ some. absurd (some refl);
}
