-- All keys of two tables as texts of a list of changes.
use Rattle.std.proofs.Common.{◌≡◌, ℕ, List, [], ◌∷◌, ◌++◌, length, Contains, true, refl, sym, ap, subst, arith, length-append}
use Rattle.std.specs.Char.{IsScalar}
use Rattle.std.specs.List.{AllByRecursion}
use Rattle.std.proofs.lemmas.Bool.Decides.{nat_tests}
use Rattle.std.proofs.lemmas.List.{length-map}
use Rattle.uca_weights.proofs.Lists.{each_append, each_parts}
use Rattle.uca_values.specs.declared.CodePointRange.{CodePointRange}
use Rattle.uca_values.specs.Content.{Entry, IsEntry, IsTable, TableContent, keys_of}
use Rattle.uca_values.specs.Ranges.{is_within}
use Rattle.uca_change_files.specs.Changes.{ChangeContent, IsBefore, IsText, MayCome, OfRange, put_last}
use Rattle.uca_change_files.specs.Steps.{MayAdd}
use Rattle.uca_editions.specs.inside.Everything.{ListsAll, MayListAll, every_point}
use borrow.Table.Char.{scalar_below}

-- the key of a row is such a text
keys_fit : (rows : List Entry) → AllByRecursion IsEntry rows → AllByRecursion IsText (keys_of rows)
keys_fit [] entries = tt
keys_fit (row ∷ rows) entries = (record { some = entries.0.some_points; few = entries.0.few_points }, keys_fit rows entries.1)

-- the keys of two tables are few enough
pub may_list_keys : (old new : TableContent) (list : ChangeContent) (texts : List (List ℕ)) → IsTable old → IsTable new →
    list ≡ record { texts = []; ranges = [] } → texts ≡ keys_of old.rows ++ keys_of new.rows → MayListAll list texts
may_list_keys old new list texts old_is new_is empty same =
    subst (MayListAll list) (sym same) (record {
      no_texts = ap (λ (content : ChangeContent). content.texts) empty;
      no_ranges = ap (λ (content : ChangeContent). content.ranges) empty;
      fit = each_append IsText (keys_of old.rows) (keys_of new.rows) (keys_fit old.rows old_is.rows.entries) (keys_fit new.rows new_is.rows.entries);
      few = omega (
        arith,
        old_is.rows.few,
        new_is.rows.few,
        length-append (keys_of old.rows) (keys_of new.rows),
        length-map old.rows (λ (row : Entry). row.key),
        length-map new.rows (λ (row : Entry). row.key),
      );
    })

-- where all keys are listed, each row's key is
pub each_row_listed : (texts : List (List ℕ)) (rows : List Entry) → AllByRecursion (Contains texts) (keys_of rows) →
    AllByRecursion (λ row. Contains texts row.key) rows
each_row_listed texts [] all = tt
each_row_listed texts (row ∷ rows) all = (all.0, each_row_listed texts rows all.1)

-- the one range has each code point
pub has_every_point : (point : ℕ) → IsScalar point → is_within (every_point ∷ []) point ≡ true
has_every_point point scalar = let below = scalar_below point scalar in grind (arith, nat_tests, below)

-- there is room for the range after all keys
room_for_range : (texts : List (List ℕ)) (list : ChangeContent) → ListsAll texts list → MayAdd list (OfRange every_point)
room_for_range texts list lists = record {
  fits = record { first = refl; last = refl; order = omega arith };
  due = subst (λ (ranges : List CodePointRange). MayCome IsBefore ranges every_point) (sym lists.no_ranges) tt;
  few = omega (arith, lists.few, ap length lists.no_ranges);
}

-- all keys stay listed with the range
module _ (old new : List Entry) (list now : ChangeContent) (lists : ListsAll (keys_of old ++ keys_of new) list)
    (adds : MayAdd list (OfRange every_point) → now ≡ put_last (OfRange every_point) list) where
  same_texts : now.texts ≡ list.texts
  same_texts = ap (λ (content : ChangeContent). content.texts) (adds (room_for_range (keys_of old ++ keys_of new) list lists))

  pub old_stay : AllByRecursion (Contains now.texts) (keys_of old)
  old_stay =
      subst (λ (texts : List (List ℕ)). AllByRecursion (Contains texts) (keys_of old)) (sym same_texts)
      (each_parts (Contains list.texts) (keys_of old) (keys_of new) lists.all).0

  pub new_stay : AllByRecursion (Contains now.texts) (keys_of new)
  new_stay =
      subst (λ (texts : List (List ℕ)). AllByRecursion (Contains texts) (keys_of new)) (sym same_texts)
      (each_parts (Contains list.texts) (keys_of old) (keys_of new) lists.all).1
