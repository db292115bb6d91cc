use Rattle.std.proofs.Common.{◌++◌, sym, ap, ◌∙◌}
use Rattle.uca_text_comparer.proofs.PlainComparisons.{only_of}
use Rattle.uca_text_comparer.proofs.plain_comparison.push_elements.Goals as goal

pub returns-in_ok-push-in-len1 : goal.returns-in_ok-push-in-len1
returns-in_ok-push-in-len1 g c = λ collation entry.
    let has = c.in-Some.ensures collation entry in (
      has.0,
      c.in_ok-push-in-len1.ensures.items
          ∙ ap (λ l. c.args.elements.now.items ++ l) (sym (only_of c.in-Some.more.now _ c.in-len1.len_at_least c.in-len1.len_below) ∙ has.1),
    )

pub returns-in_ok-extend_from_slice-in_default-more : goal.returns-in_ok-extend_from_slice-in_default-more
returns-in_ok-extend_from_slice-in_default-more g c = λ collation entry.
    let has = c.in-Some.ensures collation entry in
    (has.0, c.in_ok-extend_from_slice-in_default-more.ensures.items ∙ ap (λ l. c.args.elements.now.items ++ l) has.1)
