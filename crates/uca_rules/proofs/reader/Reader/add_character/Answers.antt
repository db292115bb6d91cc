use Rattle.std.proofs.Common.{◌∷◌, [], inl, inr, refl, arith}
use Rattle.std.proofs.lemmas.Result.{IfErr-weaker, on_ok_weaker}
use Rattle.uca_rules.proofs.RuleTexts.{only_long}
use Rattle.uca_rules.proofs.StarredLemmas.{adds_one, fault_of_one}
use Rattle.uca_rules.proofs.reader.Reader.add_character.Goals as goal

pub returns-then-count-eq-MOST_RELATIONS-clause-fault : goal.returns-then-count-eq-MOST_RELATIONS-clause-fault
returns-then-count-eq-MOST_RELATIONS-clause-fault g c = inr (inr (record { limit = refl; front = []; c = c.args.target; back = []; are = refl; at = refl; over = inl (omega arith) }))

pub returns-in-Err-Limit-clause-fault : goal.returns-in-Err-Limit-clause-fault
returns-in-Err-Limit-clause-fault g c = inr (inr (record {
  limit = refl;
  front = [];
  c = c.args.target;
  back = [];
  are = refl;
  at = refl;
  over = inr (only_long (c.args.target.code ∷ []) (rw c.in-Err-Limit.field-0-is at c.in-Err-Limit.ensures.fault));
}))

pub returns-in-Ok-clause-added : goal.returns-in-Ok-clause-added
returns-in-Ok-clause-added g c =
    on_ok_weaker c.add.result (adds_one c.args.strength c.args.target c.in-Ok.text c.character_text.new.self c.args.self.now c.add.new.self c.character_text.ensures.kept c.in-Ok.ensures.found) c.add.ensures.added

pub returns-in-Ok-clause-fault : goal.returns-in-Ok-clause-fault
returns-in-Ok-clause-fault g c =
    IfErr-weaker c.add.result _ _ (λ fault has. fault_of_one c.args.strength c.args.target c.in-Ok.text c.args.here fault c.args.self.now c.in-Ok.ensures.found.is has) c.add.ensures.fault
