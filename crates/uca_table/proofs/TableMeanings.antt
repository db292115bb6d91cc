-- The lines of a table file say one thing, and a line with a cause is not taken.
use Rattle.std.proofs.Common.{◌≡◌, ℕ, ◌⊎◌, List, [], ◌∷◌, ◌++◌, length, Option, Some, None, refl, ap, sym, subst, ◌∙◌, inl, inr, arith, length-append, append-nil}
use Rattle.std.proofs.lemmas.Option.{same_Some}
use Rattle.std.specs.Prelude.{IsSome, is_some, true}
use Rattle.std.specs.List.{AllZip}
use Rattle.std.specs.Option.{option_to_list}
use Rattle.std.proofs.lemmas.List.{same_from_push}
use Rattle.uca_weights.specs.declared.Weighting.{Weighting}
use Rattle.uca_weights.proofs.Lists.{not_nil, by_last}
use Rattle.uca_values.specs.declared.ImplicitRange.{ImplicitRange}
use Rattle.uca_values.specs.Content.{Entry, TableContent, AreDistinct, AreImplicitRanges}
use Rattle.uca_values.specs.declared.faults.FaultKind.{FaultKind}
use Rattle.uca_values.specs.declared.faults.FaultKind.TheVariants as kinds
use Rattle.uca_lines.specs.FileMeanings.{IsExact, IsExactByLine}
use Rattle.uca_lines.proofs.ByLine.{exact_by_line}
use Rattle.uca_lines.specs.Fields.{text_of, after_word}
use Rattle.uca_table.specs.TableSoFar.{TableSoFar, IsTableSoFar}
use Rattle.uca_table.specs.Rows.{AddCause}
use Rattle.uca_table.specs.Headers.{FollowCause}
use Rattle.uca_table.specs.TableLines.{Item, Nothing, OfVersion, OfSetting, OfRange, OfRow, IsItem, IsLine, said, in_order, Says, Gives, IsUnfinished, all_of, Purpose, ForVersion, ForSetting, ForRange, ForRow, begins_at, Has, IsDue, PurposeCause, TextCause, Cause}
use Rattle.uca_table.specs.inside.Taking.{TakesText, Takes}
use Rattle.uca_table.proofs.TableLinesLemmas.{said-append}
use Rattle.uca_table.proofs.OrderLaws.{distinct_last, ranges_last, versions_in-in_order, settings_in-in_order, ranges_in-in_order, rows_in-in_order, versions_in, settings_in, ranges_in, rows_in, versions_in-append, settings_in-append, ranges_in-append, rows_in-append, option_same, option_last, in_order_same, in_order-row, in_order-range, ends_empty, EndsIn, drop_last, with_parts}
use Rattle.uca_table.proofs.FormLaws.{is_version, is_setting, is_range, is_row, item_same, row_same, range_same, row_text_barred, range_text_barred, row_begins}

-- ---- What one more item says of what was begun

ranges_with : (s t : TableSoFar) (item : Item) → in_order t ≡ in_order s ++ item ∷ [] → t.ranges ≡ s.ranges ++ ranges_in (item ∷ [])
ranges_with s t item h = sym (ranges_in-in_order t) ∙ (ap ranges_in h
    ∙ (ranges_in-append (in_order s) (item ∷ []) ∙ ap (λ rs. rs ++ ranges_in (item ∷ [])) (ranges_in-in_order s)))

rows_with : (s t : TableSoFar) (item : Item) → in_order t ≡ in_order s ++ item ∷ [] → t.rows ≡ s.rows ++ rows_in (item ∷ [])
rows_with s t item h = sym (rows_in-in_order t) ∙ (ap rows_in h ∙ (rows_in-append (in_order s) (item ∷ [])
    ∙ ap (λ rs. rs ++ rows_in (item ∷ [])) (rows_in-in_order s)))

versions_with : (s t : TableSoFar) (item : Item) → in_order t ≡ in_order s ++ item ∷ []
    → option_to_list t.version ≡ option_to_list s.version ++ versions_in (item ∷ [])
versions_with s t item h = sym (versions_in-in_order t) ∙ (ap versions_in h
    ∙ (versions_in-append (in_order s) (item ∷ []) ∙ ap (λ vs. vs ++ versions_in (item ∷ [])) (versions_in-in_order s)))

settings_with : (s t : TableSoFar) (item : Item) → in_order t ≡ in_order s ++ item ∷ []
    → option_to_list t.setting ≡ option_to_list s.setting ++ settings_in (item ∷ [])
settings_with s t item h = sym (settings_in-in_order t) ∙ (ap settings_in h
    ∙ (settings_in-append (in_order s) (item ∷ []) ∙ ap (λ vs. vs ++ settings_in (item ∷ [])) (settings_in-in_order s)))

-- something is said only after the version
versioned : (t : TableSoFar) (xs : List Item) (item : Item) → IsTableSoFar t → in_order t ≡ xs ++ item ∷ [] → IsSome t.version
versioned t xs item h e = cases t.version refl
  where
    cases : (v : Option (List ℕ)) → t.version ≡ v → IsSome t.version
    cases (Some name) v = ap is_some v
    cases None v = let none = h.versioned v in absurd (not_nil xs item [] (sym (ends_empty t none.2 none.1 none.0 v) ∙ e))

-- another item than a row is not last where there are rows
no_rows_left : (s t : TableSoFar) (item : Item) → in_order t ≡ in_order s ++ item ∷ [] → ((row : Entry) → item ≡ OfRow row → ⊥) → t.rows ≡ []
no_rows_left s t item h other = cases (by_last t.rows)
  where
    cases : (t.rows ≡ []) ⊎ ((front : List Entry) × (last : Entry) × (t.rows ≡ front ++ last ∷ [])) → t.rows ≡ []
    cases (inl e) = e
    cases (inr e) = absurd (other e.1 (sym (same_from_push _ _ _ _ (sym (in_order-row t.version t.setting t.ranges e.0 e.1)
        ∙ (sym (ap (λ rs. in_order (with_parts t.version t.setting t.ranges rs)) e.2) ∙ h))).1))

-- another item than a range is not last where there are ranges and no rows
no_ranges_left : (s t : TableSoFar) (item : Item) → in_order t ≡ in_order s ++ item ∷ [] → t.rows ≡ [] → ((r : ImplicitRange) → item ≡ OfRange r → ⊥) → t.ranges ≡ []
no_ranges_left s t item h none other = cases (by_last t.ranges)
  where
    cases : (t.ranges ≡ []) ⊎ ((front : List ImplicitRange) × (last : ImplicitRange) × (t.ranges ≡ front ++ last ∷ [])) → t.ranges ≡ []
    cases (inl e) = e
    cases (inr e) = absurd (other e.1 (sym (same_from_push _ _ _ _ (sym (in_order-range t.version t.setting e.0 e.1)
        ∙ (sym (ap (λ rs. in_order (with_parts t.version t.setting t.ranges rs)) none
        ∙ ap (λ rs. in_order (with_parts t.version t.setting rs [])) e.2) ∙ h))).1))

same_version : (s t : TableSoFar) (item : Item) → IsTableSoFar t → in_order t ≡ in_order s ++ item ∷ [] → versions_in (item ∷ []) ≡ [] → IsSome s.version
same_version s t item h e other =
    let same = option_same t.version s.version (versions_with s t item e
    ∙ (ap (λ vs. option_to_list s.version ++ vs) other ∙ append-nil (option_to_list s.version))) in
    subst IsSome same (versioned t (in_order s) item h e)

due_version : (s t : TableSoFar) (name : List ℕ) → in_order t ≡ in_order s ++ OfVersion name ∷ [] → s.version ≡ None
due_version s t name e = (option_last s.version t.version name (versions_with s t (OfVersion name) e)).0

due_setting : (s t : TableSoFar) (v : Weighting) → IsTableSoFar t → in_order t ≡ in_order s ++ OfSetting v ∷ [] → IsDue s ForSetting
due_setting s t v h e =
    let rows = no_rows_left s t (OfSetting v) e (λ row q. cc) in
    let ranges = no_ranges_left s t (OfSetting v) e rows (λ r q. cc) in (
      same_version s t (OfSetting v) h e refl,
      (option_last s.setting t.setting v (settings_with s t (OfSetting v) e)).0,
      sym (ranges_with s t (OfSetting v) e ∙ append-nil s.ranges) ∙ ranges,
      sym (rows_with s t (OfSetting v) e ∙ append-nil s.rows) ∙ rows,
    )

due_range : (s t : TableSoFar) (r : ImplicitRange) → IsTableSoFar t → in_order t ≡ in_order s ++ OfRange r ∷ [] → IsDue s ForRange
due_range s t r h e = (
  same_version s t (OfRange r) h e refl,
  sym (rows_with s t (OfRange r) e ∙ append-nil s.rows) ∙ no_rows_left s t (OfRange r) e (λ row q. cc),
)

-- ---- A line with a cause is not taken

follow_barred : (s t : TableSoFar) (r : ImplicitRange) (kind : FaultKind) → IsTableSoFar t → in_order t ≡ in_order s ++ OfRange r ∷ [] → FollowCause s.ranges r kind → ⊥
follow_barred s t r kinds.Range h e c = c (ranges_last s.ranges r (subst AreImplicitRanges (ranges_with s t (OfRange r) e) h.ranges))
follow_barred s t r kinds.Limit h e c = omega (arith, ap length (ranges_with s t (OfRange r) e), length-append s.ranges (r ∷ []), h.few_ranges, c.1)
follow_barred s t r _ h e c = c

add_barred : (s t : TableSoFar) (row : Entry) (kind : FaultKind) → IsTableSoFar t → in_order t ≡ in_order s ++ OfRow row ∷ [] → AddCause s.rows row kind → ⊥
add_barred s t row kinds.DuplicateKey h e c = distinct_last s.rows row (subst AreDistinct (rows_with s t (OfRow row) e) h.rows.distinct) c
add_barred s t row kinds.Limit h e c = omega (arith, ap length (rows_with s t (OfRow row) e), length-append s.rows (row ∷ []), h.rows.few, c.1)
add_barred s t row _ h e c = c

-- the item that a text with a purpose says
form_of : (text : List ℕ) (i j : Item) → i ≡ j → IsItem text i → IsItem text j
form_of text i j e h = subst (IsItem text) e h

order_of : (s t : TableSoFar) (i j : Item) → i ≡ j → said (j ∷ []) ≡ j ∷ [] → in_order t ≡ in_order s ++ said (i ∷ []) → in_order t ≡ in_order s ++ j ∷ []
order_of s t i j e one h = h ∙ ap (λ xs. in_order s ++ xs) (ap (λ x. said (x ∷ [])) e ∙ one)

purpose_barred : (s t : TableSoFar) (text : List ℕ) (purpose : Purpose) (kind : FaultKind) → TakesText s text t → Has text purpose
    → PurposeCause s text purpose kind → ⊥
purpose_barred s t text ForVersion kind h w c =
    let i = is_version text h.item w h.form in c.1 i.0 (form_of text h.item (OfVersion i.0) i.1 h.form)
purpose_barred s t text ForSetting kind h w c =
    let i = is_setting text h.item w h.form in c.1 i.0 (form_of text h.item (OfSetting i.0) i.1 h.form)
purpose_barred s t text ForRange kind h w (inl c) =
    let i = is_range text h.item w h.form in range_text_barred (after_word text) i.0 kind (form_of text h.item (OfRange i.0) i.1 h.form).range c
purpose_barred s t text ForRange kind h w (inr c) =
    let i = is_range text h.item w h.form in
    let same = range_same (after_word text) c.0 i.0 c.1 (form_of text h.item (OfRange i.0) i.1 h.form).range in
    follow_barred s t i.0 kind h.begun (order_of s t h.item (OfRange i.0) i.1 refl h.order)
    (subst (λ (r : ImplicitRange). FollowCause s.ranges r kind) same c.2)
purpose_barred s t text ForRow kind h w (inl c) =
    let i = is_row text h.item w h.form in row_text_barred text i.0 kind (form_of text h.item (OfRow i.0) i.1 h.form) c
purpose_barred s t text ForRow kind h w (inr c) =
    let i = is_row text h.item w h.form in
    let same = row_same text c.0 i.0 c.1 (form_of text h.item (OfRow i.0) i.1 h.form) in
    add_barred s t i.0 kind h.begun (order_of s t h.item (OfRow i.0) i.1 refl h.order) (subst (λ (r : Entry). AddCause s.rows r kind) same c.2)

-- a line that is taken may come there
taken_is_due : (s t : TableSoFar) (text : List ℕ) (purpose : Purpose) → TakesText s text t → Has text purpose → IsDue s purpose
taken_is_due s t text ForVersion h w = let i = is_version text h.item w h.form in due_version s t i.0 (order_of s t h.item (OfVersion i.0) i.1 refl h.order)
taken_is_due s t text ForSetting h w = let i = is_setting text h.item w h.form in
    due_setting s t i.0 h.begun (order_of s t h.item (OfSetting i.0) i.1 refl h.order)
taken_is_due s t text ForRange h w = let i = is_range text h.item w h.form in due_range s t i.0 h.begun (order_of s t h.item (OfRange i.0) i.1 refl h.order)
taken_is_due s t text ForRow h w = let i = is_row text h.item w h.form in
    same_version s t (OfRow i.0) h.begun (order_of s t h.item (OfRow i.0) i.1 refl h.order) refl

-- an item that says something has a purpose
has_purpose : (text : List ℕ) (item : Item) → IsItem text item → begins_at text ≡ true → ((purpose : Purpose) → Has text purpose → ⊥) → ⊥
has_purpose text Nothing h at none = let e = sym (ap begins_at h) ∙ at in cc
has_purpose text (OfVersion name) h at none = none ForVersion h.word
has_purpose text (OfSetting v) h at none = none ForSetting h.word
has_purpose text (OfRange r) h at none = none ForRange h.word
has_purpose text (OfRow row) h at none = none ForRow (row_begins text row h)

text_barred : (s t : TableSoFar) (text : List ℕ) (kind : FaultKind) → TextCause s text kind → TakesText s text t → ⊥
text_barred s t text kind (inl c) h = has_purpose text h.item h.form c.1 c.2
text_barred s t text kind (inr (inl c)) h = c.1.2 (taken_is_due s t text c.1.0 h c.1.1)
text_barred s t text kind (inr (inr c)) h = purpose_barred s t text c.0 kind h c.1 c.3

-- ---- The last line

forms_last : (lines : List (List ℕ)) (line : List ℕ) (items : List Item) → AllZip IsLine (lines ++ line ∷ []) items
    → (front : List Item) × (item : Item) × (items ≡ front ++ item ∷ []) × AllZip IsLine lines front × IsLine line item
forms_last [] line [] h = absurd h
forms_last [] line (i ∷ []) h = ([], i, refl, tt, h.0)
forms_last [] line (i ∷ j ∷ items) h = absurd h.1
forms_last (l ∷ lines) line [] h = absurd h
forms_last (l ∷ lines) line (i ∷ items) h =
    let rest = forms_last lines line items h.1 in
    (i ∷ rest.0, rest.1, ap (λ zs. i ∷ zs) rest.2, (h.0, rest.3), rest.4)

record TakenLast (before : List (List ℕ)) (line : List ℕ) (t : TableSoFar) : Type 0 where
  s : TableSoFar
  says : Says before s
  takes : Takes s line t

said_one : (item : Item) → (said (item ∷ []) ≡ []) ⊎ (said (item ∷ []) ≡ item ∷ [])
said_one Nothing = inl refl
said_one (OfVersion name) = inr refl
said_one (OfSetting v) = inr refl
said_one (OfRange r) = inr refl
said_one (OfRow row) = inr refl

taken_last : (before : List (List ℕ)) (line : List ℕ) (t : TableSoFar) → Says (before ++ line ∷ []) t → TakenLast before line t
taken_last before line t h = by_item (said_one item)
  where
    parts : (front : List Item) × (item : Item) × (h.items ≡ front ++ item ∷ []) × AllZip IsLine before front × IsLine line item
    parts = forms_last before line h.items h.forms

    item : Item
    item = parts.1

    whole : in_order t ≡ said parts.0 ++ said (item ∷ [])
    whole = sym h.order ∙ (ap said parts.2 ∙ said-append parts.0 (item ∷ []))

    by_end : said (item ∷ []) ≡ item ∷ [] → (in_order t ≡ []) ⊎ EndsIn t → TakenLast before line t
    by_end one (inl e) = absurd (not_nil (said parts.0) item [] (sym e ∙ (whole ∙ ap (λ xs. said parts.0 ++ xs) one)))
    by_end one (inr e) =
        let same = same_from_push (said parts.0) (in_order e.front) item e.item (sym (whole ∙ ap (λ xs. said parts.0 ++ xs) one) ∙ e.order) in
        record {
          s = e.front;
          says = record { items = parts.0; forms = parts.3; order = same.0; begun = e.begun };
          takes = record { item = item; form = parts.4; order = whole ∙ ap (λ xs. xs ++ said (item ∷ [])) same.0; begun = h.begun };
        }

    by_item : (said (item ∷ []) ≡ []) ⊎ (said (item ∷ []) ≡ item ∷ []) → TakenLast before line t
    by_item (inl none) = record {
      s = t;
      says = record {
        items = parts.0;
        forms = parts.3;
        order =
            sym (whole ∙ (ap (λ xs. said parts.0 ++ xs) none ∙ append-nil (said parts.0)));
        begun = h.begun;
      };
      takes = record { item = item; form = parts.4; order = sym (append-nil (in_order t)) ∙ sym (ap (λ xs. in_order t ++ xs) none); begun = h.begun };
    }
    by_item (inr one) = by_end one (drop_last t h.begun)

-- ---- The laws

nothing_said : (s : TableSoFar) → Says [] s → in_order s ≡ []
nothing_said s h = sym h.order ∙ empty h.items h.forms
  where
    empty : (items : List Item) → AllZip IsLine [] items → said items ≡ []
    empty [] f = refl
    empty (i ∷ items) f = absurd f

taken_once : (s : TableSoFar) (line : List ℕ) (t u : TableSoFar) → Takes s line t → Takes s line u → t ≡ u
taken_once s line t u h g =
    in_order_same t u (h.order ∙ (ap (λ i. in_order s ++ said (i ∷ [])) (item_same (text_of line) h.item g.item h.form g.form) ∙ sym g.order))

by_line : IsExactByLine Says Takes Cause
by_line = record {
  start = λ s t h g. in_order_same s t (nothing_said s h ∙ sym (nothing_said t g));
  last = λ before line t h. (let l = taken_last before line t h in (l.s, l.says, l.takes));
  one = taken_once;
  barred = λ s line kind t c h. text_barred s t (text_of line) kind c h;
}

pub exact : IsExact Says Cause
exact = exact_by_line Says Takes Cause by_line

-- what is begun is one table at most, and a whole table is no unfinished one
same_all : (t u : TableContent) → all_of t ≡ all_of u → t ≡ u
same_all t u h =
    let version = same_Some t.header.version u.header.version (ap (λ (b : TableSoFar). b.version) h) in
    ap (λ v. make v t.header.setting t.header.ranges t.rows) version
    ∙ (ap (λ s. make u.header.version s t.header.ranges t.rows) (ap (λ (b : TableSoFar). b.setting) h)
    ∙ (ap (λ r. make u.header.version u.header.setting r t.rows) (ap (λ (b : TableSoFar). b.ranges) h)
    ∙ ap (λ w. make u.header.version u.header.setting u.header.ranges w) (ap (λ (b : TableSoFar). b.rows) h)))
  where
    make : List ℕ → Option Weighting → List ImplicitRange → List Entry → TableContent
    make v s r w = record { header = record { version = v; setting = s; ranges = r }; rows = w }

pub gives_one : (b : TableSoFar) (t u : TableContent) → Gives b t → Gives b u → t ≡ u
gives_one b t u h g = same_all t u (sym h ∙ g)

pub gives_finished : (b : TableSoFar) (t : TableContent) → Gives b t → IsUnfinished b → ⊥
gives_finished b t h u = let e = sym u ∙ ap (λ (x : TableSoFar). x.version) h in cc
