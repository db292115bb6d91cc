-- Going through rows: the first without a property.
use Rattle.std.proofs.Common.{◌≡◌, ℕ, ◌+◌, ◌<◌, ◌≤◌, List, ◌∷◌, ◌++◌, length, take, drop, get_or, sym, ap, subst, ◌∙◌, arith, length-take}
use Rattle.std.specs.List.{AllByRecursion}
use Rattle.std.proofs.lemmas.List.{take_all}
use Rattle.uca_weights.proofs.Lists.{split_at, each_push, taken_more}
use Rattle.uca_values.specs.Content.{Entry}
use Rattle.uca_check.specs.WellFormed.{IsFirstWithout}

module _ (P : Entry → Type 0) (items rows : List Entry) (same : items ≡ rows) (at : ℕ) where
  -- one more row has the property
  pub row_further : (r : Entry) → at < length items → r ≡ get_or items at r → AllByRecursion P (take at rows) → P r → AllByRecursion P (take (at + 1) rows)
  row_further r within there earlier here =
      let inside = subst (λ (l : List Entry). at < length l) same within in
      let is = subst (λ (l : List Entry). r ≡ get_or l at r) same there in
      subst (AllByRecursion P) (sym (taken_more rows at r inside is)) ((each_push P (take at rows) r).1 (earlier, here))

  -- the rows before it have the property, and it has not
  pub row_here : (r : Entry) → at < length items → r ≡ get_or items at r → AllByRecursion P (take at rows) → ¬ (P r) →
      (at < length rows) × IsFirstWithout P rows (at + 1)
  row_here r within there earlier without =
      let inside = subst (λ (l : List Entry). at < length l) same within in
      let is = subst (λ (l : List Entry). r ≡ get_or l at r) same there in (
        inside,
        record {
          before = take at rows;
          entry = r;
          after = drop (at + 1) rows;
          split = split_at rows at r inside ∙ ap (λ s. take at rows ++ s ∷ drop (at + 1) rows) (sym is);
          place = omega (arith, length-take at rows);
          earlier = earlier;
          without = without;
        },
      )

  -- all rows have it
  pub rows_whole : length items ≤ at → AllByRecursion P (take at rows) → AllByRecursion P rows
  rows_whole over each = subst (AllByRecursion P) (take_all at rows (subst (λ (l : List Entry). length l ≤ at) same over)) each
