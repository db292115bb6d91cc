use Rattle.std.proofs.Common.{ℕ, List, ◌*◌, ◌≡◌, length, take, arith, ap, sym, subst, ◌∙◌, length-set}
use Rattle.std.specs.List.{flat_map}
use Rattle.uca_run_parts.specs.Print.{spaced_groups}
use Rattle.uca_run_parts.proofs.PrintLemmas.{spaced_none, pair_written, pairs_written, last_written}
use Rattle.uca_run_parts.proofs.print.spaced_text.Goals as goal
use Rattle.uca_run_parts.proofs.print.spaced_text.Goals.{in-Some, in_default}

pub loop-number-init : goal.loop-number-init
loop-number-init c = record { long = c.told-groups; written = sym spaced_none }

pub loop-number-preserved : goal.loop-number-preserved
loop-number-preserved c =
    let i = c.loop-number.invariant in
    record {
      long = length-set c.loop-number.groups c.loop-number.number _ ∙ i.long;
      written = pair_written _ _ _ _ _ _ c.loop-number.number c.as_chunks.ensures.front (omega arith) (omega arith) i.written c.digits_of.ensures c.digits_of-in-loop-number.ensures;
    }

pub returns : goal.returns
returns c =
    let chunks = c.as_chunks.ensures in
    let part = c.args.part.now in
    let pairs = c.as_chunks.result.0.now in
    let groups = c.loop-number.groups in
    let n : c.loop-number.number ≡ length pairs = omega arith in
    let written = subst (λ (m : ℕ). flat_map (λ group. group) (take m groups) ≡ spaced_groups (take (2 * m) part)) n c.loop-number.invariant.written in
    let text = λ (l : List (List ℕ)). take c.match-first.len (flat_map (λ group. group) l) in
    ap (take c.match-first.len) c.as_flattened.ensures.value
    ∙ elim c.match-first.branch [
      | in-Some w ↦
          let item = w.in-Some.ensures.item.3 in
          ap text w.groups-is
          ∙ last_written groups part _ _ (length pairs) w.in-Some.byte.now _ chunks.front_len (omega arith) (omega arith) written chunks.back (item.1 0) w.digits_of-in-Some.ensures w.len-is
      | in_default w ↦
          let item = w.in_default.ensures.item.3 in
          ap text w.groups-is ∙ pairs_written groups part (length pairs) _ chunks.front_len (omega arith) written w.len-is
    ]
