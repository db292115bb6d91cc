-- What waits goes out after what went out before.
use Rattle.std.proofs.Common.{◌+◌, ◌^◌, ◌<◌, length, take, sym, ap, subst, ◌∙◌}
use Rattle.std.specs.Io.KnownBytes.{Appends}
use Rattle.uca_weights.specs.Writes.{WentOut}
use Rattle.uca_lines.specs.OutputBuffer.{BufferState}
use Rattle.uca_lines.proofs.OutputLemmas.{flushed, count_held}
use Rattle.uca_lines.proofs.output.OutputBuffer.flush.Goals as goal

pub send-requires : goal.send-requires
send-requires g c =
    let inside = c.self.inside in
    subst (λ n. inside.written + n < 2 ^ 64) (sym (count_held inside.len inside.bytes c.self.invariant.0 c.self.told)) c.self.invariant.1

pub returns-in-Ok-clause-text : goal.returns-in-Ok-clause-text
returns-in-Ok-clause-text g c start before h =
    flushed (λ l. Appends start c.send.new.out.contents l) start c.args.out.now.contents before c.args.self.now
    (take c.self.inside.len c.self.inside.bytes) c.self.inside.written h (ap (λ (s : BufferState). s.held) c.self.view_is)
    (ap (λ (s : BufferState). s.written) c.self.view_is) (c.in-Ok.ensures.text start)

pub returns-in-Ok-clause-count : goal.returns-in-Ok-clause-count
returns-in-Ok-clause-count g c = c.in-Ok.ensures.count ∙ ap (λ (s : BufferState). s.written + length s.held) c.self.view_is

pub returns-in-Err-clause-text : goal.returns-in-Err-clause-text
returns-in-Err-clause-text g c start before h =
    flushed (λ l. WentOut start c.send.new.out.contents l c.in-Err.fault.written) start c.args.out.now.contents before c.args.self.now
    (take c.self.inside.len c.self.inside.bytes) c.self.inside.written h (ap (λ (s : BufferState). s.held) c.self.view_is)
    (ap (λ (s : BufferState). s.written) c.self.view_is) (c.in-Err.ensures.text start)

pub returns-in-Err-clause-not_all : goal.returns-in-Err-clause-not_all
returns-in-Err-clause-not_all g c =
    subst (λ n. c.in-Err.fault.written < n) (ap (λ (s : BufferState). s.written + length s.held) c.self.view_is) c.in-Err.ensures.not_all
