-- What is returned for a line has the cause that the definition gives it.
use Rattle.std.proofs.Common.{◌≡◌, inr, ℕ, List, subst, chars}
use Rattle.uca_text.specs.Limits.{IsAccepted}
use Rattle.uca_text.specs.Faults.{IsCause}
use Rattle.uca_order.specs.Depths.{text_key}
use Rattle.uca_order.specs.Keyings.{text_of}
use Rattle.uca_key_writer.specs.Writers.{collation_by}
use Rattle.uca_key_runs.specs.Keys.{keying_of_writer}
use Rattle.uca_run_parts.proofs.Causes.{clean_text, refused_text}
use Rattle.uca_key_runs.proofs.KeyLines.{short_line}
use Rattle.uca_key_runs.proofs.line_keys.write_line_key.Goals as goal

pub returns-in-Ok-write-clause-key : goal.returns-in-Ok-write-clause-key
returns-in-Ok-write-clause-key g c =
    let key = c.args.writer.now in
    let collation = collation_by g.L.Lookup.content key in
    subst (λ l. c.write.new.self.key ≡ text_key collation key.settings (chars l)) c.in-Ok.ensures.text.0
    c.in-Ok-write.ensures.key

pub returns-in-Ok-write-clause-clean : goal.returns-in-Ok-write-clause-clean
returns-in-Ok-write-clause-clean g c = λ before h.
    let read_of = text_of (keying_of_writer g.L.Lookup.content c.args.writer.now) in
    clean_text read_of before c.args.lines.now.line h c.text.ensures.within c.in-Ok.ensures.text.1
    (subst (λ (l : List ℕ). IsAccepted (read_of l)) c.in-Ok.ensures.text.0 c.in-Ok-write.ensures.accepted)

pub returns-in-Err-write-clause-fault : goal.returns-in-Err-write-clause-fault
returns-in-Err-write-clause-fault g c = λ before h.
    let read_of = text_of (keying_of_writer g.L.Lookup.content c.args.writer.now) in
    rw c.kind_of_text.ensures (refused_text read_of before c.args.lines.now.line c.in-Err-write.fault h c.text.ensures.within c.in-Ok.ensures.text.1
    (subst (λ (l : List ℕ). IsCause (read_of l) c.in-Err-write.fault) c.in-Ok.ensures.text.0 c.in-Err-write.ensures.fault))

pub returns-in-Err-clause-fault : goal.returns-in-Err-clause-fault
returns-in-Err-clause-fault g c = λ before h. c.in-Err.ensures.fault (text_of (keying_of_writer g.L.Lookup.content c.args.writer.now)) before h

pub returns-in-Ok-write-clause-short : goal.returns-in-Ok-write-clause-short
returns-in-Ok-write-clause-short g c = λ rows. c.in-Ok-write.ensures.short rows (inr (short_line c.in-Ok.line.now c.args.lines.now.line c.in-Ok.ensures.text.0 c.text.ensures.within))
