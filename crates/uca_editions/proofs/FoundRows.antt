-- What is so of rows and a lookup is so of equal rows, by a lookup that finds the same.
use Rattle.std.proofs.Common.{◌≡◌, ℕ, List, subst}
use mathlib.Core.Path.{fun_ext}
use Rattle.uca_values.specs.Content.{Entry}
use Rattle.uca_elements.specs.Rows.{Rows}

pub told_by : (P : List Entry → Rows → Type 0) (lent rows : List Entry) (lookup found : Rows)
    → lent ≡ rows → ((key : List ℕ) → lookup key ≡ found key) → P lent lookup → P rows found
told_by P lent rows lookup found rows_are finds is =
    subst (P rows) (fun_ext finds) (subst (λ (l : List Entry). P l lookup) rows_are is)
