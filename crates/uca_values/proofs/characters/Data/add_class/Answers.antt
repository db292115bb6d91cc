use Rattle.std.proofs.Common.{◌≡◌, length, refl, sym, ◌∙◌, subst, arith, rules}
use Rattle.std.specs.List.{insert}
use Rattle.std.proofs.lemmas.List.{with_items_is}
use Rattle.uca_values.specs.inside.LowClasses.{AreLowClasses}
use Rattle.uca_values.proofs.Gaps.{taken, keeps_class, gains_class, full_class}
use Rattle.uca_values.proofs.LowClasses.{low_classes_put}
use Rattle.uca_values.proofs.characters.Data.add_class.Goals as goal

pub invariant_of-self-2 : goal.invariant_of-self-2
invariant_of-self-2 g c =
    let old = c.self.inside.classes.items in
    let put : c.insert.new.self.items ≡ insert old c.in-Some.at c.args.range =
    taken _ _ _ _ _ c.insert.ensures.items c.is_err-2.ensures.negation c.if-is_err-2.false in
    let made = c.make_low_classes.new.low_classes in
    let same : length c.write_class.new.low_classes ≡ made.len = c.write_class.ensures.len ∙ c.deref_mut.ensures.len in
    record {
      ranges = keeps_class old _ _ _ _ c.args.range _ c.deref.ensures.value put c.self.invariant.ranges c.requires (omega arith) c.in-Some.ensures
          (omega (arith, c.len.ensures));
      low = subst (AreLowClasses c.insert.new.self.items) (sym (with_items_is made c.write_class.new.low_classes same))
          (low_classes_put old _ _ c.args.range _ c.deref_mut.result.now _ c.deref.ensures.value put c.in-Some.ensures
          (subst (AreLowClasses old) (sym c.deref_mut.ensures.value) (c.make_low_classes.ensures.kept old c.self.invariant.low))
          (search rules) c.write_class.ensures.len
          c.write_class.ensures.each);
    }

pub returns-clause-added : goal.returns-clause-added
returns-clause-added g c =
    gains_class _ c.self.inside.classes.items _ _ _ _ c.args.range _ c.self.view_is c.deref.ensures.value
    (taken _ _ _ _ _ c.insert.ensures.items c.is_err-2.ensures.negation c.if-is_err-2.false) (omega arith) c.in-Some.ensures (omega (arith, c.len.ensures))

pub returns-then-len-ge-MOST_RANGES-clause-refused : goal.returns-then-len-ge-MOST_RANGES-clause-refused
returns-then-len-ge-MOST_RANGES-clause-refused g c =
    let full = full_class _ c.self.inside.classes.items _ _ _ c.args.range _ c.self.view_is c.deref.ensures.value c.in-Some.ensures (omega (arith, c.len.ensures)) in
    (refl, (omega arith, full.0, full.1))
