use Rattle.std.proofs.Common.{◌≡◌, ℕ, List, true, false, not, eqb, ◌&&◌, sym, ap, ◌∙◌, arith}
use Rattle.std.proofs.lemmas.Bool.{not_from_true, not_from_false, ne_eqb, eq-eqb}
use Rattle.uca_values.specs.Ranges.{class_in}
use Rattle.uca_plans.specs.Drafts.{has_key}
use Rattle.uca_plans.specs.Plans.{needs_prefix}
use Rattle.uca_plans.proofs.Prefixes.{long_needs}
use Rattle.uca_tailor.proofs.drafts.drafting.needs_prefix.Goals as goal

pub returns-then-class-ne0 : goal.returns-then-class-ne0
returns-then-class-ne0 g c =
    let class : ℕ → ℕ = class_in c.args.basis.now.properties.now.classes in
    let rows = c.args.rows.now in
    let front : List ℕ = c.in-Some.front.now in
    let non_starter : not (eqb (class c.in-Some.last.now) 0) ≡ true =
    not_from_false (eqb (class c.in-Some.last.now) 0) (ne_eqb (class c.in-Some.last.now) 0 (λ e. c.if-class-ne0.true (c.class.ensures ∙ e))) in
    ap not c.has_key.ensures
    ∙ sym (ap (λ b. b && not (has_key rows front)) non_starter)
    ∙ sym (long_needs class rows c.chars-points.result.now front c.in-Some.last.now c.in-Some.ensures.cases.0 (omega arith))
    ∙ ap (needs_prefix class rows) c.chars-points.ensures.value

pub returns-else-class-ne0 : goal.returns-else-class-ne0
returns-else-class-ne0 g c =
    let class : ℕ → ℕ = class_in c.args.basis.now.properties.now.classes in
    let rows = c.args.rows.now in
    let front : List ℕ = c.in-Some.front.now in
    let starter : not (eqb (class c.in-Some.last.now) 0) ≡ false =
    not_from_true (eqb (class c.in-Some.last.now) 0) (eq-eqb (class c.in-Some.last.now) 0 (sym c.class.ensures ∙ c.if-class-ne0.false)) in
    not_from_true (eqb c.class.result 0) (eq-eqb c.class.result 0 c.if-class-ne0.false)
    ∙ sym (ap (λ b. b && not (has_key rows front)) starter)
    ∙ sym (long_needs class rows c.chars-points.result.now front c.in-Some.last.now c.in-Some.ensures.cases.0 (omega arith))
    ∙ ap (needs_prefix class rows) c.chars-points.ensures.value
