-- What is returned for a line has the cause that the definition gives it.
use Rattle.std.proofs.Common.{◌≡◌, ℕ, List, ◌∙◌, ap, subst}
use Rattle.uca_values.specs.Content.{properties_of}
use Rattle.uca_text.specs.Texts.{NfdText}
use Rattle.uca_text.specs.Limits.{IsAccepted}
use Rattle.uca_text.specs.Faults.{IsCause}
use Rattle.uca_run_parts.specs.Input.{line_text}
use Rattle.uca_run_parts.proofs.Causes.{clean_text, refused_text}
use Rattle.uca_run_parts.proofs.input.take_text.Goals as goal

found : (read_of : List ℕ → NfdText) (text : NfdText) (decoded line : List ℕ) → text ≡ read_of decoded → decoded ≡ line → text ≡ read_of line
found read_of text decoded line is same = is ∙ ap read_of same

pub returns-in-Ok-renew_text-clause-clean : goal.returns-in-Ok-renew_text-clause-clean
returns-in-Ok-renew_text-clause-clean g c = λ before h.
    let line = c.args.lines.now.line in
    let read_of = line_text c.args.numbers (properties_of c.args.properties.now) in
    clean_text read_of before line h c.text.ensures.within c.in-Ok.ensures.text.1
    (subst IsAccepted (found read_of c.renew_text.new.text c.in-Ok.line.now line c.in-Ok-renew_text.ensures.found c.in-Ok.ensures.text.0) c.in-Ok-renew_text.ensures.accepted)

pub returns-in-Err-renew_text-clause-fault : goal.returns-in-Err-renew_text-clause-fault
returns-in-Err-renew_text-clause-fault g c = λ before h.
    let line = c.args.lines.now.line in
    let read_of = line_text c.args.numbers (properties_of c.args.properties.now) in
    rw c.kind_of_text.ensures (refused_text read_of before line c.in-Err-renew_text.fault h c.text.ensures.within c.in-Ok.ensures.text.1
    (subst (λ l. IsCause (read_of l) c.in-Err-renew_text.fault) c.in-Ok.ensures.text.0 c.in-Err-renew_text.ensures.fault))

pub returns-in-Err-clause-fault : goal.returns-in-Err-clause-fault
returns-in-Err-clause-fault g c = λ before h. c.in-Err.ensures.fault (line_text c.args.numbers (properties_of c.args.properties.now)) before h
