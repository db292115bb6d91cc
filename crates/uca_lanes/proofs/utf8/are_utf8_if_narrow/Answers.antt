use Rattle.std.proofs.Common.{ℕ, ◌≡◌, ◌↔◌, ◌&&◌, ◌+◌, ◌*◌, ◌∙◌, IsTrue, nat_eq, sym, ap₂, eq-eqb, eqb-true}
use Rattle.std.proofs.lemmas.Bool.{and_parts, and_from}
use Rattle.uca_lanes.specs.inside.Marks.{joined}
use Rattle.uca_lanes.proofs.CodePoints.{few-IsUtf8}
use Rattle.uca_lanes.proofs.utf8.are_utf8_if_narrow.Goals as goal

both_equal : (a b m n : ℕ) → IsTrue (nat_eq a b && nat_eq m n) ↔ ((a ≡ b) × (m ≡ n))
both_equal a b m n = (
  λ t. (let h = and_parts (nat_eq a b) (nat_eq m n) t in (eqb-true a b h.0, eqb-true m n h.1)),
  λ h. and_from (nat_eq a b) (nat_eq m n) (eq-eqb a b h.0) (eq-eqb m n h.1),
)

pub returns : goal.returns
returns c =
    let bytes = joined c.args.front c.args.back c.args.both in
    let starts = c.marks_from-starts in
    let leads = c.marks_from-leads in
    let high = c.marks_from-high in
    let tests = both_equal starts.result leads.result (2 * leads.result + starts.result) high.result in
    let few = few-IsUtf8 bytes c.requires.narrow in
    let doubled = ap₂ (λ (m n : ℕ). 2 * m + n) leads.ensures.marks starts.ensures.marks in (
      λ t. (let h = tests.0 t in few.0 (sym starts.ensures.marks ∙ h.0 ∙ leads.ensures.marks, sym doubled ∙ h.1 ∙ high.ensures.marks)),
      λ u. (let h = few.1 u in tests.1 (starts.ensures.marks ∙ h.0 ∙ sym leads.ensures.marks, doubled ∙ h.1 ∙ sym high.ensures.marks)),
    )
