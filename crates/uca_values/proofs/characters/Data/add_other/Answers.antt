use Rattle.std.proofs.lemmas.Result.{IfErr-weaker, on_ok_weaker}
use Rattle.uca_values.proofs.Gaps.{left_other, put_other}
use Rattle.uca_values.proofs.characters.Data.add_other.Goals as goal

pub returns-clause-added : goal.returns-clause-added
returns-clause-added g c =
    on_ok_weaker c.insert_range.result (put_other _ c.self.inside.classes.items c.self.inside.core.items _ c.self.inside.other.items _ c.args.range c.self.view_is c.deref.ensures.value) c.insert_range.ensures.put

pub returns-clause-refused : goal.returns-clause-refused
returns-clause-refused g c =
    IfErr-weaker c.insert_range.result _ _ (λ fault. left_other _ c.self.inside.classes.items c.self.inside.core.items _ c.self.inside.other.items _ c.args.range fault c.self.view_is c.deref.ensures.value) c.insert_range.ensures.refused
