-- A text that fits waits, and another one goes out.
use Rattle.std.proofs.Common.{ℕ, List, ◌≡◌, ◌+◌, ◌^◌, ◌<◌, length, take, ap, ◌∙◌, arith}
use Rattle.std.proofs.Math.Bool.{or-false, or-true}
use Rattle.uca_lines.specs.OutputBuffer.{BufferState}
use Rattle.uca_lines.proofs.OutputLemmas.{held_through, sent_through, sent_fails}
use Rattle.uca_lines.proofs.output.OutputBuffer.write_first.Goals as goal

pub returns-then-text-le-SIZE-clause-writes : goal.returns-then-text-le-SIZE-clause-writes
returns-then-text-le-SIZE-clause-writes g c =
    held_through c.args.text.now c.args.self.now c.hold.new.self c.args.out.now c.hold.ensures.held c.hold.ensures.written

-- room for all that was written and more is room for more after what went out
room_after : (held : List ℕ) (w out n : ℕ) → out ≡ w → w + length held + n < 2 ^ 64 → out + n < 2 ^ 64
room_after held w out n is room = omega arith

pub send-requires : goal.send-requires
send-requires g c =
    room_after c.args.self.now.held c.args.self.now.written _ _ (ap (λ (s : BufferState). s.written) c.self.view_is) c.requires.room

pub returns-in-Ok-clause-writes : goal.returns-in-Ok-clause-writes
returns-in-Ok-clause-writes g c =
    let kept : BufferState = record { held = take c.self.inside.len c.self.inside.bytes; written = c.in-Ok.written } in
    sent_through c.args.text.now c.args.self.now kept c.args.out.now c.send.new.out c.self.inside.written c.requires.empty
    (ap (λ (s : BufferState). s.held) c.self.view_is ∙ c.requires.empty) (ap (λ (s : BufferState). s.written) c.self.view_is)
    c.in-Ok.ensures.count c.in-Ok.ensures.text (c.in-Ok.ensures.failed ∙ or-false _)

pub returns-in-Err-clause-writes : goal.returns-in-Err-clause-writes
returns-in-Err-clause-writes g c =
    sent_fails c.args.text.now c.args.self.now c.args.out.now c.send.new.out c.self.inside.written c.in-Err.fault.written c.requires.empty
    (ap (λ (s : BufferState). s.written) c.self.view_is) c.in-Err.ensures.text c.in-Err.ensures.not_all (c.in-Err.ensures.failed ∙ or-true _)
