-- What is returned for a line has the cause that the definition gives it.
use Rattle.std.proofs.Common.{◌≡◌, ℕ, List, subst, take, chars}
use Rattle.uca_text.specs.Limits.{IsAccepted}
use Rattle.uca_text.specs.Faults.{IsCause}
use Rattle.uca_order.specs.Depths.{text_key}
use Rattle.uca_order.specs.Keyings.{text_of}
use Rattle.uca_key_writer.specs.Writers.{collation_by}
use Rattle.uca_key_runs.specs.Keys.{keying_of_writer}
use Rattle.uca_run_parts.proofs.Causes.{clean_text, refused_text}
use Rattle.uca_key_runs.proofs.line_keys.write_line_beginning.Goals as goal

pub returns-in-Ok-write_beginning-clause-beginning : goal.returns-in-Ok-write_beginning-clause-beginning
returns-in-Ok-write_beginning-clause-beginning g c =
    let key = c.args.writer.now in
    let collation = collation_by g.L.Lookup.content key in
    subst (λ l. take 16 c.write_beginning.new.self.key ≡ take 16 (text_key collation key.settings (chars l)))
    c.in-Ok.ensures.text.0 c.in-Ok-write_beginning.ensures.beginning

pub returns-in-Ok-write_beginning-clause-clean : goal.returns-in-Ok-write_beginning-clause-clean
returns-in-Ok-write_beginning-clause-clean g c = λ before h.
    let read_of = text_of (keying_of_writer g.L.Lookup.content c.args.writer.now) in
    clean_text read_of before c.args.lines.now.line h c.text.ensures.within c.in-Ok.ensures.text.1
    (subst (λ (l : List ℕ). IsAccepted (read_of l)) c.in-Ok.ensures.text.0 c.in-Ok-write_beginning.ensures.accepted)

pub returns-in-Err-write_beginning-clause-fault : goal.returns-in-Err-write_beginning-clause-fault
returns-in-Err-write_beginning-clause-fault g c = λ before h.
    let read_of = text_of (keying_of_writer g.L.Lookup.content c.args.writer.now) in
    rw c.kind_of_text.ensures (refused_text read_of before c.args.lines.now.line c.in-Err-write_beginning.fault h c.text.ensures.within c.in-Ok.ensures.text.1
    (subst (λ (l : List ℕ). IsCause (read_of l) c.in-Err-write_beginning.fault) c.in-Ok.ensures.text.0 c.in-Err-write_beginning.ensures.fault))

pub returns-in-Err-clause-fault : goal.returns-in-Err-clause-fault
returns-in-Err-clause-fault g c = λ before h. c.in-Err.ensures.fault (text_of (keying_of_writer g.L.Lookup.content c.args.writer.now)) before h
