-- The order of the items of a table: which may follow which.
use Rattle.std.proofs.Common.{◌≡◌, ℕ, zero, suc, get_or, ◌<◌, ◌⊎◌, List, [], ◌∷◌, ◌++◌, length, map, Option, Some, None, Contains, refl, ap, sym, subst, ◌∙◌, inl, inr, arith, length-append, append_assoc, append-nil}
use Rattle.std.specs.List.{AllByRecursion}
use Rattle.std.specs.Option.{option_to_list}
use Rattle.std.proofs.lemmas.List.{map-append}
use Rattle.std.proofs.lemmas.List.Elements.{Contains-append_left, Contains-push}
use Rattle.uca_weights.specs.declared.Weighting.{Weighting}
use Rattle.uca_weights.proofs.Lists.{by_last, not_nil, each_push}
use Rattle.uca_values.specs.declared.ImplicitRange.{ImplicitRange}
use Rattle.uca_values.specs.Content.{Entry, IsEntry, AreRows, AreDistinct, AreImplicitRanges, Agree, keys_of}
use Rattle.uca_table.specs.TableSoFar.{TableSoFar, IsTableSoFar}
use Rattle.uca_table.specs.Headers.{MayFollow}
use Rattle.uca_table.specs.TableLines.{Item, Nothing, OfVersion, OfSetting, OfRange, OfRow, said, in_order}

-- ---- What is true of the beginning of a list

keys_of-last : (rows : List Entry) (row : Entry) → keys_of (rows ++ row ∷ []) ≡ keys_of rows ++ row.key ∷ []
keys_of-last rows row = map-append (λ (r : Entry). r.key) rows (row ∷ [])

distinct_front : (rows : List Entry) (row : Entry) → AreDistinct (rows ++ row ∷ []) → AreDistinct rows
distinct_front [] row h = tt
distinct_front (r ∷ rows) row h = (
  (λ k. h.0 (subst (λ (ks : List (List ℕ)). Contains ks r.key) (sym (keys_of-last rows row))
      (Contains-append_left (keys_of rows) (row.key ∷ []) r.key k))),
  distinct_front rows row h.1,
)

pub distinct_last : (rows : List Entry) (row : Entry) → AreDistinct (rows ++ row ∷ []) → Contains (keys_of rows) row.key → ⊥
distinct_last [] row h k = omega (arith, k.1)
distinct_last (r ∷ rows) row h k = first (distinct_last rows row h.1) k.0 k.1 k.2
  where
    first : (Contains (keys_of rows) row.key → ⊥) → (i : ℕ) → i < length (keys_of (r ∷ rows)) → get_or (keys_of (r ∷ rows)) i row.key ≡ row.key → ⊥
    first later zero l e = h.0 (subst (λ (ks : List (List ℕ)). Contains ks r.key) (sym (keys_of-last rows row))
        (subst (λ (q : List ℕ). Contains (keys_of rows ++ row.key ∷ []) q) (sym e) (Contains-push (keys_of rows) row.key)))
    first later (suc i) l e = later (i, omega arith, e)

rows_front : (rows : List Entry) (row : Entry) → AreRows (rows ++ row ∷ []) → AreRows rows
rows_front rows row h = record {
  entries = ((each_push IsEntry rows row).0 h.entries).0;
  distinct = distinct_front rows row h.distinct;
  few = omega (arith, h.few, length-append rows (row ∷ []));
}

ranges_front : (ranges : List ImplicitRange) (r : ImplicitRange) → AreImplicitRanges (ranges ++ r ∷ []) → AreImplicitRanges ranges
ranges_front [] r h = tt
ranges_front (s ∷ ranges) r h = (h.0, ((each_push (Agree s) ranges r).0 h.1).0, ranges_front ranges r h.2)

pub ranges_last : (ranges : List ImplicitRange) (r : ImplicitRange) → AreImplicitRanges (ranges ++ r ∷ []) → MayFollow ranges r
ranges_last [] r h = record { alone = h.0; agrees = tt }
ranges_last (s ∷ ranges) r h =
    let rest = ranges_last ranges r h.2 in
    record { alone = rest.alone; agrees = (((each_push (Agree s) ranges r).0 h.1).1, rest.agrees) }

pub ranges_push : (ranges : List ImplicitRange) (r : ImplicitRange) → AreImplicitRanges ranges → MayFollow ranges r → AreImplicitRanges (ranges ++ r ∷ [])
ranges_push [] r h m = (m.alone, tt, tt)
ranges_push (s ∷ ranges) r h m =
    (h.0, agree_push ranges h.1, ranges_push ranges r h.2 (record { alone = m.alone; agrees = m.agrees.1 }))
  where
    agree_push : (rs : List ImplicitRange) → AllByRecursion (Agree s) rs → AllByRecursion (Agree s) (rs ++ r ∷ [])
    agree_push [] a = (m.agrees.0, tt)
    agree_push (x ∷ xs) a = (a.0, agree_push xs a.1)

-- ---- The parts of what is begun, by its items

abbrev pub versions_in : List Item → List (List ℕ)
versions_in [] = []
versions_in (Nothing ∷ items) = versions_in items
versions_in (OfVersion name ∷ items) = name ∷ versions_in items
versions_in (OfSetting setting ∷ items) = versions_in items
versions_in (OfRange r ∷ items) = versions_in items
versions_in (OfRow row ∷ items) = versions_in items

abbrev pub settings_in : List Item → List Weighting
settings_in [] = []
settings_in (Nothing ∷ items) = settings_in items
settings_in (OfVersion name ∷ items) = settings_in items
settings_in (OfSetting setting ∷ items) = setting ∷ settings_in items
settings_in (OfRange r ∷ items) = settings_in items
settings_in (OfRow row ∷ items) = settings_in items

abbrev pub ranges_in : List Item → List ImplicitRange
ranges_in [] = []
ranges_in (Nothing ∷ items) = ranges_in items
ranges_in (OfVersion name ∷ items) = ranges_in items
ranges_in (OfSetting setting ∷ items) = ranges_in items
ranges_in (OfRange r ∷ items) = r ∷ ranges_in items
ranges_in (OfRow row ∷ items) = ranges_in items

abbrev pub rows_in : List Item → List Entry
rows_in [] = []
rows_in (Nothing ∷ items) = rows_in items
rows_in (OfVersion name ∷ items) = rows_in items
rows_in (OfSetting setting ∷ items) = rows_in items
rows_in (OfRange r ∷ items) = rows_in items
rows_in (OfRow row ∷ items) = row ∷ rows_in items

pub versions_in-append : (xs ys : List Item) → versions_in (xs ++ ys) ≡ versions_in xs ++ versions_in ys
versions_in-append [] ys = refl
versions_in-append (Nothing ∷ xs) ys = versions_in-append xs ys
versions_in-append (OfVersion name ∷ xs) ys = ap (λ zs. name ∷ zs) (versions_in-append xs ys)
versions_in-append (OfSetting setting ∷ xs) ys = versions_in-append xs ys
versions_in-append (OfRange r ∷ xs) ys = versions_in-append xs ys
versions_in-append (OfRow row ∷ xs) ys = versions_in-append xs ys

pub settings_in-append : (xs ys : List Item) → settings_in (xs ++ ys) ≡ settings_in xs ++ settings_in ys
settings_in-append [] ys = refl
settings_in-append (Nothing ∷ xs) ys = settings_in-append xs ys
settings_in-append (OfVersion name ∷ xs) ys = settings_in-append xs ys
settings_in-append (OfSetting setting ∷ xs) ys = ap (λ zs. setting ∷ zs) (settings_in-append xs ys)
settings_in-append (OfRange r ∷ xs) ys = settings_in-append xs ys
settings_in-append (OfRow row ∷ xs) ys = settings_in-append xs ys

pub ranges_in-append : (xs ys : List Item) → ranges_in (xs ++ ys) ≡ ranges_in xs ++ ranges_in ys
ranges_in-append [] ys = refl
ranges_in-append (Nothing ∷ xs) ys = ranges_in-append xs ys
ranges_in-append (OfVersion name ∷ xs) ys = ranges_in-append xs ys
ranges_in-append (OfSetting setting ∷ xs) ys = ranges_in-append xs ys
ranges_in-append (OfRange r ∷ xs) ys = ap (λ zs. r ∷ zs) (ranges_in-append xs ys)
ranges_in-append (OfRow row ∷ xs) ys = ranges_in-append xs ys

pub rows_in-append : (xs ys : List Item) → rows_in (xs ++ ys) ≡ rows_in xs ++ rows_in ys
rows_in-append [] ys = refl
rows_in-append (Nothing ∷ xs) ys = rows_in-append xs ys
rows_in-append (OfVersion name ∷ xs) ys = rows_in-append xs ys
rows_in-append (OfSetting setting ∷ xs) ys = rows_in-append xs ys
rows_in-append (OfRange r ∷ xs) ys = rows_in-append xs ys
rows_in-append (OfRow row ∷ xs) ys = ap (λ zs. row ∷ zs) (rows_in-append xs ys)

versions_in-OfVersion : (xs : List (List ℕ)) → versions_in (map OfVersion xs) ≡ xs
versions_in-OfVersion [] = refl
versions_in-OfVersion (x ∷ xs) = ap (λ zs. x ∷ zs) (versions_in-OfVersion xs)

versions_in-OfSetting : (xs : List Weighting) → versions_in (map OfSetting xs) ≡ []
versions_in-OfSetting [] = refl
versions_in-OfSetting (x ∷ xs) = versions_in-OfSetting xs

versions_in-OfRange : (xs : List ImplicitRange) → versions_in (map OfRange xs) ≡ []
versions_in-OfRange [] = refl
versions_in-OfRange (x ∷ xs) = versions_in-OfRange xs

versions_in-OfRow : (xs : List Entry) → versions_in (map OfRow xs) ≡ []
versions_in-OfRow [] = refl
versions_in-OfRow (x ∷ xs) = versions_in-OfRow xs

settings_in-OfVersion : (xs : List (List ℕ)) → settings_in (map OfVersion xs) ≡ []
settings_in-OfVersion [] = refl
settings_in-OfVersion (x ∷ xs) = settings_in-OfVersion xs

settings_in-OfSetting : (xs : List Weighting) → settings_in (map OfSetting xs) ≡ xs
settings_in-OfSetting [] = refl
settings_in-OfSetting (x ∷ xs) = ap (λ zs. x ∷ zs) (settings_in-OfSetting xs)

settings_in-OfRange : (xs : List ImplicitRange) → settings_in (map OfRange xs) ≡ []
settings_in-OfRange [] = refl
settings_in-OfRange (x ∷ xs) = settings_in-OfRange xs

settings_in-OfRow : (xs : List Entry) → settings_in (map OfRow xs) ≡ []
settings_in-OfRow [] = refl
settings_in-OfRow (x ∷ xs) = settings_in-OfRow xs

ranges_in-OfVersion : (xs : List (List ℕ)) → ranges_in (map OfVersion xs) ≡ []
ranges_in-OfVersion [] = refl
ranges_in-OfVersion (x ∷ xs) = ranges_in-OfVersion xs

ranges_in-OfSetting : (xs : List Weighting) → ranges_in (map OfSetting xs) ≡ []
ranges_in-OfSetting [] = refl
ranges_in-OfSetting (x ∷ xs) = ranges_in-OfSetting xs

ranges_in-OfRange : (xs : List ImplicitRange) → ranges_in (map OfRange xs) ≡ xs
ranges_in-OfRange [] = refl
ranges_in-OfRange (x ∷ xs) = ap (λ zs. x ∷ zs) (ranges_in-OfRange xs)

ranges_in-OfRow : (xs : List Entry) → ranges_in (map OfRow xs) ≡ []
ranges_in-OfRow [] = refl
ranges_in-OfRow (x ∷ xs) = ranges_in-OfRow xs

rows_in-OfVersion : (xs : List (List ℕ)) → rows_in (map OfVersion xs) ≡ []
rows_in-OfVersion [] = refl
rows_in-OfVersion (x ∷ xs) = rows_in-OfVersion xs

rows_in-OfSetting : (xs : List Weighting) → rows_in (map OfSetting xs) ≡ []
rows_in-OfSetting [] = refl
rows_in-OfSetting (x ∷ xs) = rows_in-OfSetting xs

rows_in-OfRange : (xs : List ImplicitRange) → rows_in (map OfRange xs) ≡ []
rows_in-OfRange [] = refl
rows_in-OfRange (x ∷ xs) = rows_in-OfRange xs

rows_in-OfRow : (xs : List Entry) → rows_in (map OfRow xs) ≡ xs
rows_in-OfRow [] = refl
rows_in-OfRow (x ∷ xs) = ap (λ zs. x ∷ zs) (rows_in-OfRow xs)

pub versions_in-in_order : (b : TableSoFar) → versions_in (in_order b) ≡ option_to_list b.version
versions_in-in_order b =
    versions_in-append (map OfVersion (option_to_list b.version)) (map OfSetting (option_to_list b.setting) ++ (map OfRange b.ranges ++ map OfRow b.rows))
    ∙ rw (
      versions_in-append (map OfSetting (option_to_list b.setting)) (map OfRange b.ranges ++ map OfRow b.rows),
      versions_in-append (map OfRange b.ranges) (map OfRow b.rows),
      versions_in-OfVersion (option_to_list b.version),
      versions_in-OfSetting (option_to_list b.setting),
      versions_in-OfRange b.ranges,
      versions_in-OfRow b.rows,
    ) (simp append-nil)

pub settings_in-in_order : (b : TableSoFar) → settings_in (in_order b) ≡ option_to_list b.setting
settings_in-in_order b =
    settings_in-append (map OfVersion (option_to_list b.version)) (map OfSetting (option_to_list b.setting) ++ (map OfRange b.ranges ++ map OfRow b.rows))
    ∙ rw (
      settings_in-append (map OfSetting (option_to_list b.setting)) (map OfRange b.ranges ++ map OfRow b.rows),
      settings_in-append (map OfRange b.ranges) (map OfRow b.rows),
      settings_in-OfVersion (option_to_list b.version),
      settings_in-OfSetting (option_to_list b.setting),
      settings_in-OfRange b.ranges,
      settings_in-OfRow b.rows,
    ) (simp append-nil)

pub ranges_in-in_order : (b : TableSoFar) → ranges_in (in_order b) ≡ b.ranges
ranges_in-in_order b =
    ranges_in-append (map OfVersion (option_to_list b.version)) (map OfSetting (option_to_list b.setting) ++ (map OfRange b.ranges ++ map OfRow b.rows))
    ∙ rw (
      ranges_in-append (map OfSetting (option_to_list b.setting)) (map OfRange b.ranges ++ map OfRow b.rows),
      ranges_in-append (map OfRange b.ranges) (map OfRow b.rows),
      ranges_in-OfVersion (option_to_list b.version),
      ranges_in-OfSetting (option_to_list b.setting),
      ranges_in-OfRange b.ranges,
      ranges_in-OfRow b.rows,
    ) (simp append-nil)

pub rows_in-in_order : (b : TableSoFar) → rows_in (in_order b) ≡ b.rows
rows_in-in_order b =
    rows_in-append (map OfVersion (option_to_list b.version)) (map OfSetting (option_to_list b.setting) ++ (map OfRange b.ranges ++ map OfRow b.rows))
    ∙ rw (
      rows_in-append (map OfSetting (option_to_list b.setting)) (map OfRange b.ranges ++ map OfRow b.rows),
      rows_in-append (map OfRange b.ranges) (map OfRow b.rows),
      rows_in-OfVersion (option_to_list b.version),
      rows_in-OfSetting (option_to_list b.setting),
      rows_in-OfRange b.ranges,
      rows_in-OfRow b.rows,
    ) refl

-- ---- What is begun, by its items

pub option_same : {A : Type 0} (o p : Option A) → option_to_list o ≡ option_to_list p → o ≡ p
option_same None None h = refl
option_same None (Some y) h = cc
option_same (Some x) None h = cc
option_same (Some x) (Some y) h = let e : x ≡ y = cc in ap Some e

pub option_last : {A : Type 0} (o p : Option A) (x : A) → option_to_list p ≡ option_to_list o ++ x ∷ [] → (o ≡ None) × (p ≡ Some x)
option_last None None x h = cc
option_last None (Some y) x h = let e : y ≡ x = cc in (refl, ap Some e)
option_last {A = A} (Some z) p x h = absurd (too_long p h)
  where
    too_long : (q : Option A) → option_to_list q ≡ z ∷ x ∷ [] → ⊥
    too_long None e = cc
    too_long (Some y) e = cc

abbrev pub with_parts : Option (List ℕ) → Option Weighting → List ImplicitRange → List Entry → TableSoFar
with_parts version setting ranges rows = record { version = version; setting = setting; ranges = ranges; rows = rows }

pub begun_same : (b c : TableSoFar) → b.version ≡ c.version → b.setting ≡ c.setting → b.ranges ≡ c.ranges → b.rows ≡ c.rows → b ≡ c
begun_same b c v s r w =
    ap (λ x. with_parts x b.setting b.ranges b.rows) v
    ∙ (ap (λ x. with_parts c.version x b.ranges b.rows) s
    ∙ (ap (λ x. with_parts c.version c.setting x b.rows) r
    ∙ ap (λ x. with_parts c.version c.setting c.ranges x) w))

-- the items say what is begun
pub in_order_same : (b c : TableSoFar) → in_order b ≡ in_order c → b ≡ c
in_order_same b c h =
    begun_same b c
    (option_same b.version c.version (sym (versions_in-in_order b) ∙ (ap versions_in h ∙ versions_in-in_order c)))
    (option_same b.setting c.setting (sym (settings_in-in_order b) ∙ (ap settings_in h ∙ settings_in-in_order c)))
    (sym (ranges_in-in_order b) ∙ (ap ranges_in h ∙ ranges_in-in_order c))
    (sym (rows_in-in_order b) ∙ (ap rows_in h ∙ rows_in-in_order c))

-- ---- The last item

pub in_order-row : (version : Option (List ℕ)) (setting : Option Weighting) (ranges : List ImplicitRange) (rows : List Entry) (row : Entry)
    → in_order (with_parts version setting ranges (rows ++ row ∷ [])) ≡ in_order (with_parts version setting ranges rows) ++ OfRow row ∷ []
in_order-row version setting ranges rows row = rw (map-append OfRow rows (row ∷ [])) (simp append_assoc)

pub in_order-range : (version : Option (List ℕ)) (setting : Option Weighting) (ranges : List ImplicitRange) (r : ImplicitRange)
    → in_order (with_parts version setting (ranges ++ r ∷ []) []) ≡ in_order (with_parts version setting ranges []) ++ OfRange r ∷ []
in_order-range version setting ranges r = rw (map-append OfRange ranges (r ∷ [])) (simp (append_assoc, append-nil))

in_order-setting : (version : Option (List ℕ)) (setting : Weighting)
    → in_order (with_parts version (Some setting) [] []) ≡ in_order (with_parts version None [] []) ++ OfSetting setting ∷ []
in_order-setting version setting = simp append-nil

-- some items are those of what was begun, and one more
pub record EndsIn (t : TableSoFar) : Type 0 where
  pub front : TableSoFar
  pub item : Item
  pub begun : IsTableSoFar front
  pub one : said (item ∷ []) ≡ item ∷ []
  pub order : in_order t ≡ in_order front ++ item ∷ []

no_rows : AreRows []
no_rows = record { entries = tt; distinct = tt; few = omega arith }

ends_row : (t : TableSoFar) (rows : List Entry) (row : Entry) → IsTableSoFar t → t.rows ≡ rows ++ row ∷ [] → EndsIn t
ends_row t rows row h e = record {
  front = record t { rows = rows };
  item = OfRow row;
  begun = record {
    versioned = λ n. absurd (not_nil rows row [] (sym (h.versioned n).2 ∙ e));
    ranges = h.ranges;
    few_ranges = h.few_ranges;
    rows = rows_front rows row (subst AreRows e h.rows);
  };
  one = refl;
  order = ap (λ rs. in_order (with_parts t.version t.setting t.ranges rs)) e ∙ in_order-row t.version t.setting t.ranges rows row;
}

ends_range : (t : TableSoFar) (ranges : List ImplicitRange) (r : ImplicitRange) → IsTableSoFar t → t.rows ≡ [] → t.ranges ≡ ranges ++ r ∷ [] → EndsIn t
ends_range t ranges r h w e = record {
  front = with_parts t.version t.setting ranges [];
  item = OfRange r;
  begun = record {
    versioned = λ n. absurd (not_nil ranges r [] (sym (h.versioned n).1 ∙ e));
    ranges = ranges_front ranges r (subst AreImplicitRanges e h.ranges);
    few_ranges = omega (arith, h.few_ranges, ap length e, length-append ranges (r ∷ []));
    rows = no_rows;
  };
  one = refl;
  order = ap (λ rs. in_order (with_parts t.version t.setting t.ranges rs)) w
      ∙ (ap (λ rs. in_order (with_parts t.version t.setting rs [])) e ∙ in_order-range t.version t.setting ranges r);
}

pub nothing_begun : IsTableSoFar (with_parts None None [] [])
nothing_begun = record { versioned = λ n. (refl, refl, refl); ranges = tt; few_ranges = omega arith; rows = no_rows }

ends_setting : (t : TableSoFar) (setting : Weighting) → t.rows ≡ [] → t.ranges ≡ [] → t.setting ≡ Some setting → EndsIn t
ends_setting t setting w r e = record {
  front = with_parts t.version None [] [];
  item = OfSetting setting;
  begun = record { versioned = λ n. (refl, refl, refl); ranges = tt; few_ranges = omega arith; rows = no_rows };
  one = refl;
  order = ap (λ rs. in_order (with_parts t.version t.setting t.ranges rs)) w
      ∙ (ap (λ rs. in_order (with_parts t.version t.setting rs [])) r
      ∙ (ap (λ s. in_order (with_parts t.version s [] [])) e ∙ in_order-setting t.version setting));
}

ends_version : (t : TableSoFar) (name : List ℕ) → t.rows ≡ [] → t.ranges ≡ [] → t.setting ≡ None → t.version ≡ Some name → EndsIn t
ends_version t name w r s e = record {
  front = with_parts None None [] [];
  item = OfVersion name;
  begun = nothing_begun;
  one = refl;
  order = ap (λ rs. in_order (with_parts t.version t.setting t.ranges rs)) w
      ∙ (ap (λ rs. in_order (with_parts t.version t.setting rs [])) r
      ∙ (ap (λ x. in_order (with_parts t.version x [] [])) s
      ∙ ap (λ v. in_order (with_parts v None [] [])) e));
}

pub ends_empty : (t : TableSoFar) → t.rows ≡ [] → t.ranges ≡ [] → t.setting ≡ None → t.version ≡ None → in_order t ≡ []
ends_empty t w r s e = ap (λ rs. in_order (with_parts t.version t.setting t.ranges rs)) w
    ∙ (ap (λ rs. in_order (with_parts t.version t.setting rs [])) r
    ∙ (ap (λ x. in_order (with_parts t.version x [] [])) s
    ∙ ap (λ v. in_order (with_parts v None [] [])) e))

pub drop_last : (t : TableSoFar) → IsTableSoFar t → (in_order t ≡ []) ⊎ EndsIn t
drop_last t h = by_rows (by_last t.rows)
  where
    by_version : t.rows ≡ [] → t.ranges ≡ [] → t.setting ≡ None → (v : Option (List ℕ)) → t.version ≡ v → (in_order t ≡ []) ⊎ EndsIn t
    by_version w r s None e = inl (ends_empty t w r s e)
    by_version w r s (Some name) e = inr (ends_version t name w r s e)

    by_setting : t.rows ≡ [] → t.ranges ≡ [] → (s : Option Weighting) → t.setting ≡ s → (in_order t ≡ []) ⊎ EndsIn t
    by_setting w r None e = by_version w r e t.version refl
    by_setting w r (Some setting) e = inr (ends_setting t setting w r e)

    by_ranges : t.rows ≡ [] → (t.ranges ≡ []) ⊎ ((front : List ImplicitRange) × (last : ImplicitRange) × (t.ranges ≡ front ++ last ∷ []))
        → (in_order t ≡ []) ⊎ EndsIn t
    by_ranges w (inl e) = by_setting w e t.setting refl
    by_ranges w (inr e) = inr (ends_range t e.0 e.1 h w e.2)

    by_rows : (t.rows ≡ []) ⊎ ((front : List Entry) × (last : Entry) × (t.rows ≡ front ++ last ∷ [])) → (in_order t ≡ []) ⊎ EndsIn t
    by_rows (inl e) = by_ranges e (by_last t.ranges)
    by_rows (inr e) = inr (ends_row t e.0 e.1 h e.2)
