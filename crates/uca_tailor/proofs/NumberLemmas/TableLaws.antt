-- The tables of the numbers of base weights and of new weights, filled in place from the last member to the first.
use Rattle.std.proofs.Common.{◌≡◌, ℕ, ◌+◌, ◌<◌, zero, suc, List, [], ◌∷◌, ◌++◌, length, get_or, take, drop, ap, sym, subst, ◌∙◌, arith, refl}
use Rattle.std.proofs.Math.ListN.{set}
use Rattle.std.proofs.Math.Seq.{take-append_seam}
use Rattle.std.proofs.lemmas.Grind.{common_steps}
use Rattle.std.specs.List.{AllByRecursion}
use Rattle.uca_plans.specs.declared.drafts.DraftWeight.{DraftWeight}
use Rattle.uca_plans.specs.declared.drafts.DraftWeight.TheVariants.{Base, New}
use Rattle.uca_plans.specs.Lists.{IsNamedBelow}
use Rattle.uca_tailor.specs.inside.NumberTables.{AreTables}
use Rattle.uca_tailor.proofs.NumberLemmas.RunLaws.{rest_from}

-- what is written back over a whole list is what was written
pub as_far : {A : Type 0} (xs rest : List A) (n : ℕ) → length xs ≡ n → take n (xs ++ rest) ≡ xs
as_far xs rest n long = ap (λ k. take k (xs ++ rest)) (sym long) ∙ take-append_seam xs rest

-- equal tables of equal lists
pub tables_of : (ms members : List DraftWeight) (ns numbers : List ℕ) (bs bases vs news : List ℕ) → ms ≡ members → ns ≡ numbers → bases ≡ bs → news ≡ vs
    → AreTables ms ns bs vs → AreTables members numbers bases news
tables_of ms members ns numbers bs bases vs news same_ms same_ns same_bs same_vs are =
    subst (λ x. AreTables x numbers bases news) same_ms
    (subst (λ x. AreTables ms x bases news) same_ns (subst (λ x. AreTables ms ns x news) (sym same_bs) (subst (AreTables ms ns bs) (sym same_vs) are)))

-- a new weight is of a relation that there is
pub named_at : (count : ℕ) (ms : List DraftWeight) (i p : ℕ) (d : DraftWeight) → AllByRecursion (IsNamedBelow count) ms → i < length ms
    → get_or ms i d ≡ New p → p < count
named_at count [] i p d named within is = absurd (omega arith)
named_at count (m ∷ ms) zero p d named within is = subst (IsNamedBelow count) is named.0
named_at count (m ∷ ms) (suc i) p d named within is = named_at count ms i p d named.1 (omega arith) is

-- with the number of one more base weight
base_first : (ms : List DraftWeight) (ns bs vs : List ℕ) (w n : ℕ) → w < 0x1_0000 → AreTables ms ns bs vs → AreTables (Base w ∷ ms) (n ∷ ns) (set bs w n) vs
base_first ms ns bs vs w n low are = record {
  same = grind (arith, common_steps, are.same);
  bases = grind (arith, common_steps, are.bases);
  base = λ v. grind (arith, common_steps, are.base v, are.bases);
  new = are.new;
}

-- with the number of one more new weight
new_first : (ms : List DraftWeight) (ns bs vs : List ℕ) (p n : ℕ) → p < length vs → AreTables ms ns bs vs → AreTables (New p ∷ ms) (n ∷ ns) bs (set vs p n)
new_first ms ns bs vs p n low are = record {
  same = grind (arith, common_steps, are.same);
  bases = are.bases;
  base = are.base;
  new = λ q. grind (arith, common_steps, are.new q);
}

-- from a position on, with the number of one more base weight
pub base_more : (ms : List DraftWeight) (ns bs vs : List ℕ) (i next w : ℕ) (d : DraftWeight) → next ≡ i + 1 → i < length ms → length ns ≡ length ms
    → get_or ms i d ≡ Base w → w < 0x1_0000 → AreTables (drop next ms) (drop next ns) bs vs
    → AreTables (drop i ms) (drop i ns) (set bs w (get_or ns i 0)) vs
base_more ms ns bs vs i next w d after within same is low are =
    let changed = set bs w (get_or ns i 0) in
    tables_of (Base w ∷ drop next ms) (drop i ms) (get_or ns i 0 ∷ drop next ns) (drop i ns) changed changed vs vs
    (sym (rest_from ms i next (Base w) d after within is)) (sym (rest_from ns i next (get_or ns i 0) 0 after (omega arith) refl)) refl refl
    (base_first (drop next ms) (drop next ns) bs vs w (get_or ns i 0) low are)

pub new_more : (ms : List DraftWeight) (ns bs vs : List ℕ) (i next p : ℕ) (d : DraftWeight) → next ≡ i + 1 → i < length ms → length ns ≡ length ms
    → get_or ms i d ≡ New p → p < length vs → AreTables (drop next ms) (drop next ns) bs vs
    → AreTables (drop i ms) (drop i ns) bs (set vs p (get_or ns i 0))
new_more ms ns bs vs i next p d after within same is low are =
    let changed = set vs p (get_or ns i 0) in
    tables_of (New p ∷ drop next ms) (drop i ms) (get_or ns i 0 ∷ drop next ns) (drop i ns) bs bs changed changed
    (sym (rest_from ms i next (New p) d after within is)) (sym (rest_from ns i next (get_or ns i 0) 0 after (omega arith) refl)) refl refl
    (new_first (drop next ms) (drop next ns) bs vs p (get_or ns i 0) low are)
