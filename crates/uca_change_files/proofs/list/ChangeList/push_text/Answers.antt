use Rattle.std.proofs.Common.{sym, subst, arith}
use Rattle.std.proofs.lemmas.Grind.{common_steps}
use Rattle.uca_change_files.specs.Changes.{ChangeContent, OfText}
use Rattle.uca_change_files.specs.Steps.{MayAdd}
use Rattle.uca_change_files.proofs.Orders.{list_more}
use Rattle.uca_change_files.proofs.list.ChangeList.push_text.Goals.{in-Ok, in-Err}
use Rattle.uca_change_files.proofs.list.ChangeList.push_text.Goals as goal

pub invariant_of-self-after-push-2 : goal.invariant_of-self-after-push-2
invariant_of-self-after-push-2 g c = elim c.match-push.branch [
  | in-Ok w ↦
      let may = subst (λ (old : ChangeContent). MayAdd old (OfText c.args.text)) (sym c.self.view_is) c.in-None.ensures.ok in
      rw w.in-Ok.ensures.items (list_more _ (OfText c.args.text) c.self.invariant may.fits may.due may.few)
  | in-Err w ↦ rw w.in-Err.ensures.items c.self.invariant
]

pub returns-after-push-clause-ok : goal.returns-after-push-clause-ok
returns-after-push-clause-ok g c = grind (arith, common_steps)

pub returns-after-push-clause-fault : goal.returns-after-push-clause-fault
returns-after-push-clause-fault g c = grind (arith, common_steps)

pub returns-after-push-clause-same : goal.returns-after-push-clause-same
returns-after-push-clause-same g c = grind (arith, common_steps)
