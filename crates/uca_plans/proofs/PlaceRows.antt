-- Rows by their positions: where one more row goes.
use Rattle.std.proofs.Common.{◌≡◌, ℕ, suc, ◌+◌, ◌<◌, List, [], ◌∷◌, ◌++◌, length, set, Bool, true, false, ◌||◌}
use Rattle.std.proofs.Common.{Some, None, refl, sym, ap, ◌∙◌, arith}
use Rattle.std.proofs.lemmas.Bool.{false≢true, cond-true, cond-false, or_parts}
use Rattle.uca_elements.specs.Rows.{same_key}
use Rattle.uca_elements.proofs.RowsByKey.{same_key-itself}
use Rattle.uca_plans.specs.Drafts.{DraftRow, with_row, has_key}
use Rattle.uca_elements.specs.Positions.{place_at}
use Rattle.uca_plans.specs.Keys.{keys_in, is_among, with_key}

-- ---- Where one more row goes

-- where its key has a position, the row of that position is replaced
pub record IsRowAt (place : ℕ) (new : DraftRow) (rows : List DraftRow) (i : ℕ) : Type 0 where
  pub within : i < length rows
  pub stands : place_at place (keys_in rows) new.key ≡ Some (place + i)
  pub replaced : with_row new rows ≡ set rows i new

pub row_there : (place : ℕ) (new : DraftRow) (rows : List DraftRow) → has_key rows new.key ≡ true → (i : ℕ) × IsRowAt place new rows i
row_there place new [] there = absurd (false≢true there)
row_there place new (row ∷ rows) there = go (same_key row.key new.key) refl (row_there (place + 1) new rows)
  where
    go : (b : Bool) → same_key row.key new.key ≡ b → (has_key rows new.key ≡ true → (i : ℕ) × IsRowAt (place + 1) new rows i) →
        (i : ℕ) × IsRowAt place new (row ∷ rows) i
    go true e later = (
      0,
      record {
        within = omega arith;
        stands = cond-true (same_key row.key new.key) (Some place) (place_at (place + 1) (keys_in rows) new.key) e
            ∙ ap (λ p. Some p) (let same : place ≡ place + 0 = omega arith in same);
        replaced = cond-true (same_key row.key new.key) (new ∷ rows) (row ∷ with_row new rows) e;
      },
    )
    go false e later =
        let found = later (sym (ap (λ b. b || has_key rows new.key) e) ∙ there) in (
          suc found.0,
          record {
            within = omega (arith, found.1.within);
            stands = cond-false (same_key row.key new.key) (Some place) (place_at (place + 1) (keys_in rows) new.key) e
                ∙ found.1.stands
                ∙ ap (λ p. Some p) (let same : place + 1 + found.0 ≡ place + suc found.0 = omega arith in same);
            replaced = cond-false (same_key row.key new.key) (new ∷ rows) (row ∷ with_row new rows) e ∙ ap (λ more. row ∷ more) found.1.replaced;
          },
        )

-- the row of the position that was found
pub row_at : (new : DraftRow) (rows : List DraftRow) (i : ℕ) → has_key rows new.key ≡ true → place_at 0 (keys_in rows) new.key ≡ Some i →
    (i < length rows) × (with_row new rows ≡ set rows i new)
row_at new rows i there found =
    let here = row_there 0 new rows there in
    let both : Some i ≡ Some (0 + here.0) = sym found ∙ here.1.stands in
    let same : i ≡ 0 + here.0 = cc in
    let is : here.0 ≡ i = omega (arith, same) in
    (omega (arith, here.1.within), here.1.replaced ∙ ap (λ k. set rows k new) is)

-- a row with a new key comes after the others
pub row_after : (new : DraftRow) (rows : List DraftRow) → has_key rows new.key ≡ false → with_row new rows ≡ rows ++ new ∷ []
row_after new [] other = refl
row_after new (row ∷ rows) other =
    let parts = or_parts (same_key row.key new.key) (has_key rows new.key) other in
    cond-false (same_key row.key new.key) (new ∷ rows) (row ∷ with_row new rows) parts.0 ∙ ap (λ more. row ∷ more) (row_after new rows parts.1)

-- and its position is their number
pub place_after : (place : ℕ) (new : List ℕ) (keys : List (List ℕ)) → is_among keys new ≡ false →
    place_at place (with_key new keys) new ≡ Some (place + length keys)
place_after place new [] other =
    cond-true (same_key new new) (Some place) None (same_key-itself new)
    ∙ ap (λ p. Some p) (let same : place ≡ place + 0 = omega arith in same)
place_after place new (key ∷ keys) other =
    let parts = or_parts (same_key key new) (is_among keys new) other in
    ap (λ ks. place_at place ks new) (cond-false (same_key key new) (key ∷ keys) (key ∷ with_key new keys) parts.0)
    ∙ cond-false (same_key key new) (Some place) (place_at (place + 1) (with_key new keys) new) parts.0
    ∙ place_after (place + 1) new keys parts.1
    ∙ ap (λ p. Some p) (let same : place + 1 + length keys ≡ place + suc (length keys) = omega arith in same)
