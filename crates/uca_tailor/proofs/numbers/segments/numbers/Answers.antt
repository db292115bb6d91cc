-- One more member gives one more number, and at the end there are all.
use Rattle.std.proofs.Common.{◌≡◌, ℕ, ◌+◌, ◌-◌, ◌<◌, List, [], ◌∷◌, ◌++◌, length, get_or, drop, min, sym, ap, ◌∙◌, append_assoc, arith}
use Rattle.std.proofs.lemmas.List.{append-nil, drop_more, drop_all, length-drop}
use Rattle.uca_plans.specs.declared.drafts.DraftWeight.{DraftWeight}
use Rattle.uca_plans.specs.declared.drafts.DraftWeight.TheVariants.{Base}
use Rattle.uca_plans.specs.Numbering.{numbers_of}
use Rattle.uca_plans.specs.inside.OnePass.{one_further, numbers_from}
use Rattle.uca_plans.proofs.NumberLemmas.{numbers_in_one_pass}
use Rattle.uca_tailor.proofs.numbers.segments.numbers.Goals as goal

-- The number of one more member follows those so far.
numbers_more : (top number next : ℕ) (members : List DraftWeight) (i left : ℕ) (d : DraftWeight) (old new all : List ℕ) → i < length members
    → left + (i + 1) ≡ length members → next ≡ one_further (get_or members i d) number → old ++ numbers_from top number (drop i members) ≡ all
    → new ≡ old ++ min next (top - left) ∷ [] → new ++ numbers_from top next (drop (i + 1) members) ≡ all
numbers_more top number next members i left d old new all within counted is so_far more =
    let rest = drop (i + 1) members in
    let long : left ≡ length rest = omega (arith, length-drop (i + 1) members) in
    let here : old ++ (min (one_further (get_or members i d) number) (top - length rest) ∷ numbers_from top (one_further (get_or members i d) number) rest) ≡ all =
    sym (ap (λ ms. old ++ numbers_from top number ms) (drop_more members i d within)) ∙ so_far in
    let one : new ≡ old ++ min next (top - length rest) ∷ [] = more ∙ ap (λ n. old ++ min next (top - n) ∷ []) long in
    ap (λ ns. ns ++ numbers_from top next rest) one ∙ append_assoc old (min next (top - length rest) ∷ []) (numbers_from top next rest)
    ∙ ap (λ n. old ++ (min n (top - length rest) ∷ numbers_from top n rest)) is ∙ here

pub loop-member-init : goal.loop-member-init
loop-member-init g c = record {
  told = rw (c.new-numbers.ensures.items, c.from-number.ensures) (sym (numbers_in_one_pass c.args.segment c.args.members.now));
  left = omega arith;
  bounded = omega arith;
}

pub overflow_sub-left : goal.overflow_sub-left
overflow_sub-left g c = omega arith

pub one_further-number-requires : goal.one_further-number-requires
one_further-number-requires g c = omega arith

pub overflow_sub-highest : goal.overflow_sub-highest
overflow_sub-highest g c = omega arith

pub overflow_cast-min : goal.overflow_cast-min
overflow_cast-min g c = omega arith

pub loop-member-preserved : goal.loop-member-preserved
loop-member-preserved g c = record {
  told = numbers_more c.args.segment.top c.loop-member.number c.one_further-number.result c.args.members.now
      c.loop-member.member-index (c.loop-member.left - 1) (Base 0) c.loop-member.numbers.items c.push.new.self.items (numbers_of c.args.segment c.args.members.now)
      c.loop-member-test.true (omega arith) c.one_further-number.ensures.number c.loop-member.invariant.told
      (c.in_ok-push.ensures.items ∙ ap (λ n. c.loop-member.numbers.items ++ n ∷ [])
      (c.min.ensures ∙ ap (λ top. min c.one_further-number.result (top - (c.loop-member.left - 1))) c.from.ensures));
  left = omega arith;
  bounded = omega arith;
}

pub returns : goal.returns
returns g c =
    let numbers = c.loop-member.numbers.items in
    sym (append-nil numbers)
    ∙ ap (λ ms. numbers ++ numbers_from c.args.segment.top c.loop-member.number ms)
    (sym (drop_all c.loop-member.member-index c.args.members.now c.loop-member-test.false))
    ∙ c.loop-member.invariant.told
