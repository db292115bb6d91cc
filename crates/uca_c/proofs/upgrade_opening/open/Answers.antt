-- Files that mean a change are rejected by no cause of their own, and the numbers are those that were asked for.
use Rattle.std.proofs.Common.{◌≡◌, ◌∙◌, ap, inr, subst, sym}
use Rattle.std.specs.Prelude.{Option, unwrap_or}
use Rattle.uca_weights.specs.declared.Asked.{Asked}
use Rattle.uca_upgrade.specs.Causes.{IsUpgradeStop}
use Rattle.uca_upgrade.specs.Opening.{IsUpgradeOf}
use Rattle.uca_c.proofs.upgrade_opening.open.Goals as goal

pub returns-in-Ok-clause-only : goal.returns-in-Ok-clause-only
returns-in-Ok-clause-only c asked change asks =
    let files = c.args.files.now in
    subst (λ (it : Option Asked). IsUpgradeOf files change (unwrap_or it asked) c.in-Ok.upgrade) (c.in-Some.ensures ∙ asks.is_asked)
    (c.in-Ok.ensures.only change asks.mean)

pub returns-in-Err-clause-only : goal.returns-in-Err-clause-only
returns-in-Err-clause-only c asked change asks =
    let same : c.in-Some.asked ≡ asked = ap (λ (it : Option Asked). unwrap_or it asked) (c.in-Some.ensures ∙ asks.is_asked) in
    record {
      fault = c.in-Err.fault;
      cause = (subst (λ (it : Asked). IsUpgradeStop it.numbers change c.in-Err.fault) same (c.in-Err.ensures.only change asks.mean), c.tell.ensures.error);
      same = c.tell.ensures.status;
    }

pub returns-in-Err-clause-rejected : goal.returns-in-Err-clause-rejected
returns-in-Err-clause-rejected c = inr (
  c.in-Some.asked,
  sym c.in-Some.ensures,
  record {
    fault = c.in-Err.fault;
    cause = (c.in-Err.ensures.fault, c.tell.ensures.error);
    same = c.tell.ensures.status;
  },
)
