-- Up to sixteen bytes are the front with zeros after them, and more are the front and the last sixteen.
use Rattle.std.proofs.Common.{◌≡◌, ◌↔◌, ◌-◌, ◌++◌, ◌∙◌, IsTrue, List, ℕ, length, replicate, take, take_all, append-nil, ap, subst, arith}
use Rattle.std.specs.Str.{IsUtf8}
use Rattle.std.specs.Simd.Lanes.{chunk}
use Rattle.uca_lanes.specs.inside.Marks.{joined}
use Rattle.uca_lanes.proofs.Whole.{of_ends, with_zeros_judged}
use Rattle.uca_lanes.proofs.short.is_utf8_after.Goals as goal

pub returns-then-len-le16 : goal.returns-then-len-le16
returns-then-len-le16 c =
    let bytes = c.args.bytes.now in
    let few = c.if-len-le16.true in
    let spelled = c.requires.front ∙ ap (λ (l : List ℕ). l ++ replicate (16 - length bytes) 0) (take_all 16 bytes (omega (arith, few))) in
    let judged = with_zeros_judged bytes c.args.front spelled in
    (λ on. judged.0 (c.are_utf8.ensures.0 on), λ u. c.are_utf8.ensures.1 (judged.1 u))

pub returns : goal.returns
returns c =
    let bytes = c.args.bytes.now in
    let some = c.if-len-le16.false in
    let none : 16 - length bytes ≡ 0 = omega (arith, some) in
    let first : c.args.front ≡ chunk 0 16 bytes = c.requires.front ∙ ap (λ n. take 16 bytes ++ replicate n 0) none ∙ append-nil (take 16 bytes) in
    of_ends bytes c.are_utf8-2.result (omega (arith, some)) c.requires.few
    (subst (λ (front : List ℕ). IsTrue c.are_utf8-2.result ↔ IsUtf8 (joined front (chunk (length bytes - 16) 16 bytes) (32 - length bytes))) first c.are_utf8-2.ensures)
