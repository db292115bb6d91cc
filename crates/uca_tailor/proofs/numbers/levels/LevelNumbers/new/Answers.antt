-- The tables are filled from zeros.
use Rattle.std.proofs.Common.{ℕ, List, length, ap, subst, sym, ◌∙◌, slice_index}
use Rattle.std.specs.List.{AllByRecursion}
use Rattle.uca_plans.specs.declared.drafts.DraftWeight.{DraftWeight}
use Rattle.uca_plans.specs.Lists.{IsNamedBelow}
use Rattle.uca_tailor.proofs.NumberLemmas.TableLaws.{tables_of, as_far}
use Rattle.uca_tailor.proofs.numbers.levels.LevelNumbers.new.Goals as goal

pub fill_tables-requires-clause-same : goal.fill_tables-requires-clause-same
fill_tables-requires-clause-same g c = c.deref-2.ensures.len ∙ c.requires.same ∙ sym c.deref.ensures.len

pub fill_tables-requires-clause-bases : goal.fill_tables-requires-clause-bases
fill_tables-requires-clause-bases g c = c.deref_mut.ensures.len ∙ c.in_ok-by_base.ensures.length

pub fill_tables-requires-clause-names : goal.fill_tables-requires-clause-names
fill_tables-requires-clause-names g c =
    subst (λ (members : List DraftWeight). AllByRecursion (IsNamedBelow (length c.deref_mut-2.result.now)) members) (sym c.deref.ensures.value)
    (subst (λ (count : ℕ). AllByRecursion (IsNamedBelow count) c.args.members.items) (sym (c.deref_mut-2.ensures.len ∙ c.in_ok-by_new.ensures.length)) c.requires.names)

pub fill_tables-requires-clause-no_base : goal.fill_tables-requires-clause-no_base
fill_tables-requires-clause-no_base g c w = ap (λ (numbers : List ℕ). slice_index numbers w) c.deref_mut.ensures.value ∙ c.in_ok-by_base.ensures.none w

pub fill_tables-requires-clause-no_new : goal.fill_tables-requires-clause-no_new
fill_tables-requires-clause-no_new g c n = ap (λ (numbers : List ℕ). slice_index numbers n) c.deref_mut-2.ensures.value ∙ c.in_ok-by_new.ensures.none n

pub invariant_of-result : goal.invariant_of-result
invariant_of-result g c =
    let bases = c.fill_tables.new.by_base in
    let news = c.fill_tables.new.by_new in
    tables_of c.deref.result.now c.args.members.items c.deref-2.result.now c.args.numbers.items bases _ news _ c.deref.ensures.value c.deref-2.ensures.value
    (as_far bases _ c.in_ok-by_base.by_base.len (c.fill_tables.ensures.bases ∙ sym c.in_ok-by_base.ensures.length))
    (as_far news _ c.in_ok-by_new.by_new.len (c.fill_tables.auto.by_new ∙ c.deref_mut-2.ensures.len))
    c.fill_tables.ensures
