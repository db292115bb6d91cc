use Rattle.std.proofs.Common.{append-nil, rules}
use Rattle.uca_key_writer.proofs.BufferLemmas.{pushed}
use Rattle.uca_key_writer.proofs.slots.put_element.Goals as goal

pub returns-then-fourth-eq0-clause-holds : goal.returns-then-fourth-eq0-clause-holds
returns-then-fourth-eq0-clause-holds c = λ key es h.
    pushed c.args.weighting _ _ es c.args.element.now c.weights_of.result h c.weights_of.ensures c.next_flag.ensures
    c.put.ensures.held c.put-2.ensures.held c.put-3.ensures.held (search (append-nil, rules))

pub returns-else-fourth-eq0-clause-holds : goal.returns-else-fourth-eq0-clause-holds
returns-else-fourth-eq0-clause-holds c = λ key es h.
    pushed c.args.weighting _ _ es c.args.element.now c.weights_of.result h c.weights_of.ensures c.next_flag.ensures
    c.put.ensures.held c.put-2.ensures.held c.put-3.ensures.held c.put-else-fourth-eq0.ensures.held
