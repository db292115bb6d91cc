-- What a table in the making keeps, with one more row.
use Rattle.std.proofs.Common.{◌≡◌, ℕ, ◌<◌, ◌↔◌, suc, Bool, true, false, cond, List, [], ◌∷◌, ◌++◌, length, Option, Some, None, Contains, refl, ap, sym, subst, ◌∙◌, ⊎_elim, arith, length-append}
use Rattle.std.specs.Prelude.{IsSome}
use Rattle.std.proofs.lemmas.List.{map-append}
use Rattle.std.proofs.lemmas.List.Elements.{Contains-append_left, Contains-push, Contains-push_cases}
use Rattle.std.specs.Str.{bytes_eq}
use Rattle.std.specs.Ordering.{nat_cmp, is_eq}
use Rattle.std.specs.Cmp.Lexicographic.{slice_cmp}
use Rattle.std.proofs.lemmas.Map.Text.{is_eq-slice_cmp}
use Rattle.std.proofs.lemmas.Bool.{false≢true}
use Rattle.std.specs.Cmp.Lexicographic.{bytes_decides}
use Rattle.uca_weights.specs.declared.Weighting.{Weighting}
use Rattle.uca_weights.proofs.Lists.{each_push}
use Rattle.uca_values.specs.declared.ImplicitRange.{ImplicitRange}
use Rattle.uca_values.specs.Content.{Entry, IsEntry, AreRows, AreDistinct, keys_of}
use Rattle.uca_table.specs.TableSoFar.{TableSoFar}
use Rattle.uca_table.specs.inside.Keeping.{HoldsKeysOf, Keeps}

keys_of-push : (rows : List Entry) (row : Entry) → keys_of (rows ++ row ∷ []) ≡ keys_of rows ++ row.key ∷ []
keys_of-push rows row = map-append (λ (r : Entry). r.key) rows (row ∷ [])

abbrev pub with_rows : Option (List ℕ) → Option Weighting → List ImplicitRange → List Entry → TableSoFar
with_rows version setting ranges rows = record { version = version; setting = setting; ranges = ranges; rows = rows }

-- ---- Lists with one more

pub distinct_push : (rows : List Entry) (row : Entry) → AreDistinct rows → (Contains (keys_of rows) row.key → ⊥) → AreDistinct (rows ++ row ∷ [])
distinct_push [] row h new = (λ k. new k, tt)
distinct_push (r ∷ rows) row h new = (
  λ k. other (subst (λ (ks : List (List ℕ)). Contains ks r.key) (keys_of-push rows row) k),
  distinct_push rows row
      h.1 (λ k. new (later k)),
)
  where
    later : Contains (keys_of rows) row.key → Contains (keys_of (r ∷ rows)) row.key
    later k = (suc k.0, omega arith, k.2)

    other : Contains (keys_of rows ++ row.key ∷ []) r.key → ⊥
    other k = ⊎_elim h.0 (λ e. new (0, omega arith, sym e)) (Contains-push_cases (keys_of rows) row.key r.key k)

pub rows_push : (rows : List Entry) (row : Entry) → AreRows rows → IsEntry row → (Contains (keys_of rows) row.key → ⊥) → length rows < 200000
    → AreRows (rows ++ row ∷ [])
rows_push rows row h e new few = record {
  entries = (each_push IsEntry rows row).1 (h.entries, e);
  distinct = distinct_push rows row h.distinct new;
  few = omega (arith, length-append rows (row ∷ []));
}

-- ---- The set

holds_added : {K : Type 0} (points : K → List ℕ) (has now : K → Bool) (rows : List Entry) (row : Entry) → HoldsKeysOf points has rows
    → ((q : K) → now q ≡ cond (bytes_eq row.key (points q)) true (has q)) → HoldsKeysOf points now (rows ++ row ∷ [])
holds_added points has now rows row h added q = rw (keys_of-push rows row) (there, back)
  where
    there : now q ≡ true → Contains (keys_of rows ++ row.key ∷ []) (points q)
    there e = cases (bytes_eq row.key (points q)) refl
      where
        cases : (b : Bool) → bytes_eq row.key (points q) ≡ b → Contains (keys_of rows ++ row.key ∷ []) (points q)
        cases true f = subst (λ (k : List ℕ). Contains (keys_of rows ++ row.key ∷ []) k) ((bytes_decides row.key (points q)).0 f)
            (Contains-push (keys_of rows) row.key)
        cases false f = Contains-append_left (keys_of rows) (row.key ∷ []) (points q) ((h q).0 (sym (added q ∙ rw f refl) ∙ e))

    back : Contains (keys_of rows ++ row.key ∷ []) (points q) → now q ≡ true
    back k = added q ∙ ⊎_elim old new (Contains-push_cases (keys_of rows) row.key (points q) k)
      where
        old : Contains (keys_of rows) (points q) → cond (bytes_eq row.key (points q)) true (has q) ≡ true
        old c = rw ((h q).1 c) (elim (bytes_eq row.key (points q)) as (λ b. cond b true true ≡ true) [ true ↦ refl | false ↦ refl ])

        new : row.key ≡ points q → cond (bytes_eq row.key (points q)) true (has q) ≡ true
        new e = rw ((bytes_decides row.key (points q)).1 e) refl

pub some_not_none : {A : Type 0} (o : Option A) → IsSome o → o ≡ None → ⊥
some_not_none (Some x) h e = cc
some_not_none None h e = absurd (false≢true h)

-- nothing yet
pub keeps_none : {K : Type 0} (points : K → List ℕ) (now : K → Bool) (new : TableSoFar) → new ≡ with_rows None None [] [] → ((q : K) → now q ≡ false)
    → Keeps points now new
keeps_none points now new whole none =
    let P : TableSoFar → Type 0 = λ b. Keeps points now b in
    subst P (sym whole) (record {
      keys = λ q. ((λ e. absurd (false≢true (sym (none q) ∙ e))), (λ k. absurd (omega (arith, k.1))));
      named = λ name e. cc;
      begun = record {
        versioned = λ n. (refl, refl, refl);
        ranges = tt;
        few_ranges = omega arith;
        rows = record { entries = tt; distinct = tt; few = omega arith };
      };
    })

-- one more row
pub keeps_row : {K : Type 0} (points : K → List ℕ) (has now : K → Bool) (old new : TableSoFar) (row : Entry) → Keeps points has old → IsEntry row
    → (Contains (keys_of old.rows) row.key → ⊥) → length old.rows < 200000 → IsSome old.version → new ≡ record old { rows = old.rows ++ row ∷ [] }
    → ((q : K) → now q ≡ cond (bytes_eq row.key (points q)) true (has q)) → Keeps points now new
keeps_row points has now old new row h e absent few some whole added =
    let P : TableSoFar → Type 0 = λ b. Keeps points now b in
    subst P (sym whole) (record {
      keys = holds_added points has now old.rows row h.keys added;
      named = h.named;
      begun = record {
        versioned = λ n. absurd (some_not_none old.version some n);
        ranges = h.begun.ranges;
        few_ranges = h.begun.few_ranges;
        rows = rows_push old.rows row h.begun.rows e absent few;
      };
    })

-- a set with equal keys keeps equal rows
pub keeps_same : {K : Type 0} (points : K → List ℕ) (has now : K → Bool) (old new : TableSoFar) → Keeps points has old → new ≡ old
    → ((q : K) → now q ≡ has q) → Keeps points now new
keeps_same points has now old new h same keys =
    let P : TableSoFar → Type 0 = λ b. Keeps points now b in
    subst P (sym same) (record {
      keys = λ q. ((λ e. (h.keys q).0 (sym (keys q) ∙ e)), (λ k. keys q ∙ (h.keys q).1 k));
      named = h.named;
      begun = h.begun;
    })

-- ---- The key of a row, as the set sees it

pub contained : (rows all : List Entry) (key same : List ℕ) → rows ≡ all → key ≡ same → Contains (keys_of rows) key → Contains (keys_of all) same
contained rows all key same r k c =
    let P : List Entry → Type 0 = λ rs. Contains (keys_of rs) same in
    subst P r (subst (λ (ks : List ℕ). Contains (keys_of rows) ks) k c)

pub not_contained : (rows all : List Entry) (key same : List ℕ) → rows ≡ all → key ≡ same → (has : Bool) → (has ≡ true) ↔ Contains (keys_of rows) key
    → has ≡ false → Contains (keys_of all) same → ⊥
not_contained rows all key same r k has h e c = false≢true (sym e ∙ h.1 (contained all rows same key (sym r) (sym k) c))

pub added_at : (key row others : List ℕ) (now before : Bool) → key ≡ row → now ≡ cond (is_eq (slice_cmp nat_cmp key others)) true before
    → now ≡ cond (bytes_eq row others) true before
added_at key row others now before k h = h ∙ ap (λ b. cond b true before) (is_eq-slice_cmp key others ∙ ap (λ ks. bytes_eq ks others) k)

pub added_key : (key row others : List ℕ) (now before : Bool) → key ≡ row → now ≡ cond (bytes_eq key others) true before
    → now ≡ cond (bytes_eq row others) true before
added_key key row others now before k h = h ∙ ap (λ ks. cond (bytes_eq ks others) true before) k
