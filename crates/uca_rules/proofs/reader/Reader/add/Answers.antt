-- The relation of the target is the one that is added.
use Rattle.std.proofs.Common.{◌<◌, ◌++◌, ◌∷◌, [], length, ap, subst, sym, refl, ◌∙◌, inl}
use Rattle.uca_relations.specs.declared.Relation.{Relation}
use Rattle.uca_rules.specs.inside.Growing.{AreGrowing}
use Rattle.uca_rules.proofs.reader.Reader.add.Goals as goal

pub add-requires-clause-growing : goal.add-requires-clause-growing
add-requires-clause-growing g c = subst (λ rules. AreGrowing rules) (sym c.in-Ok.ensures.1.rules) c.requires.ready.growing

pub add-requires-clause-few : goal.add-requires-clause-few
add-requires-clause-few g c = subst (λ rules. length rules.relations.items < 5000) (sym c.in-Ok.ensures.1.rules) c.requires.few

pub returns-in-Ok-add-clause-added : goal.returns-in-Ok-add-clause-added
returns-in-Ok-add-clause-added g c =
    let passes = c.in-Ok.ensures.1 in
    let old = c.args.self.now.rules in
    record {
      kept = record { properties = ap (λ texts. texts.properties) passes.texts; end = ap (λ texts. texts.end) passes.texts };
      growing = c.in-Ok-add.ensures.growing;
      relations = c.in-Ok-add.ensures.added ∙ (ap (λ rules. rules.relations.items ++ c.in-Ok.relation ∷ []) passes.rules
          ∙ ap (λ (r : Relation). old.relations.items ++ r ∷ []) c.in-Ok.ensures.0);
      anchor = passes.anchor;
      before = passes.before;
      last = passes.last;
    }

pub returns-in-Err-Memory-clause-fault : goal.returns-in-Err-Memory-clause-fault
returns-in-Err-Memory-clause-fault g c = inl (refl, refl)

pub returns-in-Err-clause-fault : goal.returns-in-Err-clause-fault
returns-in-Err-clause-fault g c = inl (refl, refl)
