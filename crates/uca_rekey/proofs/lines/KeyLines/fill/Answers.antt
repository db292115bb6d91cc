-- The bytes that were read wait after the others.
use Rattle.std.proofs.Common.{◌≡◌, ◌+◌, ◌-◌, ◌++◌, length, take, ap, sym, ◌∙◌, arith, rules}
use Rattle.std.specs.List.{slice_range}
use Rattle.std.proofs.KnownBytes.{Keeps-refl}
use Rattle.std.proofs.lemmas.List.{take_all, with_items_is}
use borrow.Rule.Slice.PartMut.{put_mid, same_len_mid}
use Rattle.uca_rekey.specs.inside.LinesInPlace.{LinesState}
use Rattle.uca_rekey.proofs.Places.{begins_so, filled, front_range, nothing_filled, range_filled, range_kept, some_more}
use Rattle.uca_rekey.proofs.lines.KeyLines.fill.Goals as goal

pub returns-in-Ok : goal.returns-in-Ok
returns-in-Ok g c =
    let i = c.self.inside in
    let e = i.end - i.next in
    let n = c.in-Ok.count in
    let xs = c.deref_mut.result.now in
    let ys = c.read.new.buf in
    let pending = c.args.self.now.pending in
    let rest = c.read.new.self.remaining in
    let long : length (put_mid e (length xs - e) xs ys) ≡ c.make_room-has_room.new.buffer.len =
    same_len_mid e (length xs - e) xs ys c.read.auto.buf ∙ c.deref_mut.ensures.len in
    let joined =
    ap (λ b. slice_range b 0 (e + n)) (with_items_is c.make_room-has_room.new.buffer (put_mid e (length xs - e) xs ys) long)
    ∙ range_filled xs ys e n (omega arith) (omega (arith, c.in-Ok.ensures.bound.0))
    ∙ ap (λ l. l ++ take n ys) (ap (take e) c.deref_mut.ensures.value ∙ c.make_room-has_room.ensures.front ∙ ap (λ (s : LinesState). s.pending) c.self.view_is) in
    record {
      bytes = filled c.args.source.now.remaining rest pending _ (take n ys) c.in-Ok.ensures.bytes.0 joined;
      front = begins_so pending (take n ys) _ joined;
      more = some_more n pending (take n ys) _ rest joined (sym c.in-Ok.ensures.bound.1)
          (λ none. c.in-Ok.ensures.bytes.1 none (omega (arith, c.read.auto.buf, c.deref_mut.ensures.len, c.if-not-has_room.ensures.room)));
      err = tt;
      fault = tt;
      at_end = ap (λ (s : LinesState). s.at_end) c.self.view_is;
      failed = search rules;
    }

pub returns-in-Err-clause-err : goal.returns-in-Err-clause-err
returns-in-Err-clause-err g c =
    let i = c.self.inside in
    let e = i.end - i.next in
    let xs = c.deref_mut.result.now in
    let ys = c.read.new.buf in
    let long : length (put_mid e (length xs - e) xs ys) ≡ c.make_room-has_room.new.buffer.len =
    same_len_mid e (length xs - e) xs ys c.read.auto.buf ∙ c.deref_mut.ensures.len in
    ap (λ b. slice_range b 0 e) (with_items_is c.make_room-has_room.new.buffer (put_mid e (length xs - e) xs ys) long)
    ∙ range_kept xs ys e (omega arith)
    ∙ ap (take e) c.deref_mut.ensures.value ∙ c.make_room-has_room.ensures.front ∙ ap (λ (s : LinesState). s.pending) c.self.view_is

pub returns-in-Err-clause-front : goal.returns-in-Err-clause-front
returns-in-Err-clause-front g c =
    let pending = c.args.self.now.pending in
    ap (take (length pending)) (returns-in-Err-clause-err g c) ∙ take_all (length pending) pending (omega arith)

pub returns-in-Err-clause-bytes : goal.returns-in-Err-clause-bytes
returns-in-Err-clause-bytes g c =
    nothing_filled c.args.source.now.remaining c.read.new.self.remaining c.args.self.now.pending _ c.in-Err.ensures.bytes (returns-in-Err-clause-err g c)

pub invariant_of-self : goal.invariant_of-self
invariant_of-self g c =
    let len = c.make_room-has_room.ensures.len in
    (omega arith, omega arith, omega arith, omega (arith, len), omega (arith, len), omega arith)

pub invariant_of-self-in-Ok : goal.invariant_of-self-in-Ok
invariant_of-self-in-Ok g c =
    let len = c.make_room-has_room.ensures.len in (
      omega arith,
      omega arith,
      omega arith,
      omega (arith, len, c.if-not-has_room.ensures.room, c.in-Ok.ensures.bound.0, c.read.auto.buf, c.deref_mut.ensures.len),
      omega (arith, len),
      omega arith,
    )

pub invariant_of-self-in-Err : goal.invariant_of-self-in-Err
invariant_of-self-in-Err g c =
    let len = c.make_room-has_room.ensures.len in
    (omega arith, omega arith, omega arith, omega (arith, len), omega (arith, len), omega arith)

pub overflow_add-self : goal.overflow_add-self
overflow_add-self g c = omega (arith, c.in-Ok.ensures.bound.0, c.read.auto.buf, c.deref_mut.ensures.len, c.if-not-has_room.ensures.room)

pub returns-then-not-has_room-clause-err : goal.returns-then-not-has_room-clause-err
returns-then-not-has_room-clause-err g c =
    front_range c.make_room-has_room.new.buffer.items (c.self.inside.end - c.self.inside.next) ∙ c.make_room-has_room.ensures.front
    ∙ ap (λ (s : LinesState). s.pending) c.self.view_is

pub returns-then-not-has_room-clause-front : goal.returns-then-not-has_room-clause-front
returns-then-not-has_room-clause-front g c =
    let pending = c.args.self.now.pending in
    ap (take (length pending)) (returns-then-not-has_room-clause-err g c) ∙ take_all (length pending) pending (omega arith)

pub returns-then-not-has_room-clause-bytes : goal.returns-then-not-has_room-clause-bytes
returns-then-not-has_room-clause-bytes g c =
    let left = c.args.source.now.remaining in
    nothing_filled left left c.args.self.now.pending _ (Keeps-refl left) (returns-then-not-has_room-clause-err g c)
