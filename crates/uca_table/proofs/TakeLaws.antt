-- What one more line adds to a table that has begun, by its kind, and why a line is rejected.
use Rattle.std.proofs.Common.{◌≡◌, ℕ, zero, suc, ◌<◌, ◌≤◌, ◌⊎◌, ◌↔◌, ◌&&◌, Bool, true, false, List, [], ◌∷◌, ◌++◌, length, Option, Some, None, Result, Ok, Err, Contains, refl, ap, sym, subst, ◌∙◌, inl, inr, arith, leb, length-append, append-nil}
use lib.Utf8.{scalar}
use Rattle.std.specs.Prelude.{IsSome, IsOk, MatchResult, IfErr, OnOk, is_some, not, ◌≢◌}
use Rattle.std.specs.Option.{option_map}
use Rattle.std.specs.List.{AllByRecursion, list_all, slice_get}
use Rattle.std.specs.Char.{IsScalar}
use Rattle.std.specs.Str.{IsAscii, IsUtf8}
use Rattle.std.specs.Str.Parse.{digits_value}
use Rattle.std.proofs.lemmas.Bool.{false≢true, and_parts}
use Rattle.std.proofs.lemmas.Bool.Decides.{nat_tests}
use Rattle.std.proofs.lemmas.Str.{IsUtf8-from_ascii}
use Rattle.uca_weights.specs.declared.Element.{Element}
use Rattle.uca_weights.specs.declared.Weighting.{Weighting}
use Rattle.uca_values.specs.declared.ImplicitRange.{ImplicitRange}
use Rattle.uca_values.specs.Content.{Entry, IsEntry, Fits, AreImplicitRanges, is_name_byte, is_version_name, keys_of}
use Rattle.uca_values.specs.declared.faults.FaultKind.{FaultKind}
use Rattle.uca_values.specs.declared.faults.FaultKind.TheVariants as kinds
use Rattle.uca_lines.specs.Fields.{skip_blanks, word_of, after_word}
use Rattle.uca_lines.specs.Numbers.{is_hex_digit, is_code_point, code_point_of}
use Rattle.uca_lines.specs.Leads.{Leads, BeginsCodePoint}
use Rattle.uca_table.specs.TableSoFar.{TableSoFar, IsTableSoFar}
use Rattle.uca_table.specs.Elements.{BeginsElement}
use Rattle.uca_table.specs.Headers.{argument_of, IsRangeText, MayFollow, RangeTextCause}
use Rattle.uca_table.specs.CanonicalWords.{at_version, at_variable, at_ranges, setting_word}
use Rattle.uca_table.specs.Rows.{IsRow, RowTextCause, AddCause}
use Rattle.uca_table.specs.inside.Keeping.{Keeps}
use Rattle.uca_table.specs.TableLines.{Nothing, OfVersion, OfSetting, OfRange, OfRow, in_order, Purpose, ForVersion, ForSetting, ForRange, ForRow, begins_at, Has, IsDue, PurposeCause, TextCause}
use Rattle.uca_table.specs.inside.Taking.{TakesText}
use Rattle.uca_table.proofs.KeepingLaws.{some_not_none, rows_push}
use Rattle.uca_table.proofs.OrderLaws.{in_order-row, in_order-range, ranges_push}

-- ---- A row that is read may be in a table

last_true : (a b c d : Bool) → (a && b && c && d) ≡ true → d ≡ true
last_true true true true d h = h
last_true true true false d h = absurd (false≢true h)
last_true true false c d h = absurd (false≢true h)
last_true false b c d h = absurd (false≢true h)

is_scalar : (word : List ℕ) (c : ℕ) → code_point_of word ≡ Some c → IsScalar c
is_scalar word c h = cases (is_code_point word) refl
  where
    cases : (v : Bool) → is_code_point word ≡ v → IsScalar c
    cases true e = (let k = rw e at h in let v : digits_value 16 word ≡ c = cc in let P : ℕ
        → Type 0 = λ n. IsScalar n in subst P v (last_true (leb 4 (length word)) (leb (length word) 6) (list_all is_hex_digit word)
        (scalar (digits_value 16 word)) e))
    cases false e = let k = rw e at h in cc

are_scalars : (text key rest : List ℕ) → Leads BeginsCodePoint text key rest → AllByRecursion IsScalar key
are_scalars text [] rest h = tt
are_scalars text (c ∷ key) rest h = (is_scalar (word_of (skip_blanks text)) c h.1.word, are_scalars h.0 key rest h.2)

all_fit : (text : List ℕ) (elements : List Element) (rest : List ℕ) → Leads BeginsElement text elements rest → AllByRecursion Fits elements
all_fit text [] rest h = tt
all_fit text (e ∷ elements) rest h = (h.1.fits, all_fit h.0 elements rest h.2)

pub row_is_entry : (text : List ℕ) (row : Entry) → IsRow text row → IsEntry row
row_is_entry text row h = record {
  points = are_scalars _ row.key [] h.key.points;
  some_points = h.key.some;
  few_points = h.key.few;
  fits = all_fit h.rest row.elements [] h.elements.texts;
  some_elements = h.elements.some;
  few_elements = h.elements.few;
}

-- ---- What is begun, with one more line

-- In each of these `inside` is what the fields say, which is what is begun.

pub takes_nothing : (old inside : TableSoFar) (text : List ℕ) → inside ≡ old → IsTableSoFar inside → text ≡ [] → TakesText old text old
takes_nothing old inside text same h e = record { item = Nothing; form = e; order = sym (append-nil (in_order old)); begun = subst IsTableSoFar same h }

-- a text without a first byte is empty
pub empty_without_first : (text : List ℕ) → None ≡ slice_get text 0 → text ≡ []
empty_without_first [] h = refl
empty_without_first (b ∷ bs) h = cc

pub takes_version : (old inside : TableSoFar) (text name : List ℕ) (version : Option (List ℕ)) → inside ≡ old → IsTableSoFar inside → inside.version ≡ None
    → word_of text ≡ at_version → name ≡ argument_of text → is_version_name name ≡ true → version ≡ Some name
    → TakesText old text (record inside { version = version })
takes_version old inside text name version same h e word argument named v =
    let none = h.versioned e in
    let P : TableSoFar → Type 0 = λ b. TakesText b text (record inside { version = version }) in
    subst P same (record {
      item = OfVersion name;
      form = record { word = word; argument = sym argument; named = named };
      order = rw (v, e, none.0, none.1, none.2) refl;
      begun = record { versioned = λ n. some_is_none name (sym v ∙ n); ranges = h.ranges; few_ranges = h.few_ranges; rows = h.rows };
    })
  where
    some_is_none : {B : Type 0} (x : List ℕ) → Some x ≡ None → B
    some_is_none x q = cc

pub takes_setting : (old inside : TableSoFar) (text word : List ℕ) (setting : Weighting) → inside ≡ old → IsTableSoFar inside → IsDue old ForSetting
    → word_of text ≡ at_variable → word ≡ argument_of text → word ≡ setting_word setting → TakesText old text (record inside { setting = Some setting })
takes_setting old inside text word setting same h due first argument is =
    let P : TableSoFar → Type 0 = λ b. IsDue b ForSetting → TakesText b text (record inside { setting = Some setting }) in
    subst P same (λ d. record {
      item = OfSetting setting;
      form = record { word = first; argument = sym argument ∙ is };
      order = rw (d.1, d.2, d.3) (simp append-nil);
      begun = record { versioned = λ n. absurd (some_not_none inside.version d.0 n); ranges = h.ranges; few_ranges = h.few_ranges; rows = h.rows };
    }) due

pub takes_range : (old inside : TableSoFar) (text rest : List ℕ) (r : ImplicitRange) (all : List ImplicitRange) → inside ≡ old → IsTableSoFar inside
    → IsDue old ForRange → word_of text ≡ at_ranges → rest ≡ after_word text → IsRangeText rest r → MayFollow inside.ranges r
    → length inside.ranges < 256 → all ≡ inside.ranges ++ r ∷ [] → TakesText old text (record inside { ranges = all })
takes_range old inside text rest r all same h due first argument form may few whole =
    let P : TableSoFar → Type 0 = λ b. IsDue b ForRange → TakesText b text (record inside { ranges = all }) in
    subst P same (λ d. record {
      item = OfRange r;
      form = record { word = first; range = subst (λ (t : List ℕ). IsRangeText t r) argument form };
      order = rw (whole, d.1) (in_order-range inside.version inside.setting inside.ranges r);
      begun = record {
        versioned = λ n. absurd (some_not_none inside.version d.0 n);
        ranges = subst AreImplicitRanges (sym whole) (ranges_push inside.ranges r h.ranges may);
        few_ranges = omega (arith, ap length whole, length-append inside.ranges (r ∷ []));
        rows = h.rows;
      };
    }) due

pub takes_row : (old inside new : TableSoFar) (text : List ℕ) (row : Entry) → inside ≡ old → IsTableSoFar inside → IsSome inside.version → IsRow text row
    → (Contains (keys_of old.rows) row.key → ⊥) → length old.rows < 200000 → new ≡ record old { rows = old.rows ++ row ∷ [] } → TakesText old text new
takes_row old inside new text row same h v form absent few whole =
    let P : TableSoFar → Type 0 = λ b. (Contains (keys_of b.rows) row.key → ⊥) → length b.rows < 200000 → new ≡ record b { rows = b.rows ++ row ∷ [] }
    → TakesText b text new in
    subst P same (λ a f w. subst (TakesText inside text) (sym w) (record {
      item = OfRow row;
      form = form;
      order = in_order-row inside.version inside.setting inside.ranges inside.rows row;
      begun = record {
        versioned = λ n. absurd (some_not_none inside.version v n);
        ranges = h.ranges;
        few_ranges = h.few_ranges;
        rows = rows_push inside.rows row h.rows (row_is_entry text row form) a f;
      };
    })) absent few whole

-- ---- Why a line is rejected

pub out_of_order : (b : TableSoFar) (text : List ℕ) (purpose : Purpose) (due : Bool) → Has text purpose → (due ≡ true) ↔ IsDue b purpose → due ≡ false
    → (kinds.Order ≡ kinds.Memory) ⊎ TextCause b text kinds.Order
out_of_order b text purpose due has h e = inr (inr (inl (refl, (purpose, has, (λ d. false≢true (sym e ∙ h.1 d))))))

pub cause_in : (b : TableSoFar) (text : List ℕ) (purpose : Purpose) (kind : FaultKind) → Has text purpose → IsDue b purpose
    → PurposeCause b text purpose kind → (kind ≡ kinds.Memory) ⊎ TextCause b text kind
cause_in b text purpose kind has due h = inr (inr (inr (purpose, has, due, h)))

-- a name is text
name_byte_small : (b : ℕ) → is_name_byte b ≡ true → b < 128
name_byte_small b h = grind (arith, nat_tests)

names_are_ascii : (name : List ℕ) → list_all is_name_byte name ≡ true → IsAscii name
names_are_ascii [] h i = omega arith
names_are_ascii (b ∷ bs) h zero = name_byte_small b (and_parts _ _ h).0
names_are_ascii (b ∷ bs) h (suc i) = names_are_ascii bs (and_parts _ _ h).1 i

pub name_is_text : (name : List ℕ) → is_version_name name ≡ true → IsUtf8 name
name_is_text name h = IsUtf8-from_ascii name (names_are_ascii name (and_parts _ _ h).1)

pub is_ok_by : {T E : Type 0} (r : Result T E) (P : T → Type 0) (Q : E → Type 0) (U : Type 0) → MatchResult r P (λ e. (U → ⊥) × Q e) → U → IsOk r
is_ok_by (Ok x) P Q U h u = refl
is_ok_by (Err e) P Q U h u = absurd (h.0 u)

-- ---- The version, as the fields have it

pub absent : {A B : Type 0} (f : A → B) (o : Option A) (some : Bool) → some ≡ is_some o → some ≡ false → option_map f o ≡ None
absent f None some h e = refl
absent f (Some x) some h e = absurd (false≢true (sym e ∙ h))

pub has_some : {A B : Type 0} (f : A → B) (o : Option A) (none : Bool) → is_some o ≡ not none → none ≡ false → IsSome (option_map f o)
has_some f (Some x) none h e = refl
has_some f None none h e = absurd (false≢true (h ∙ ap not e))

pub has_none : {A B : Type 0} (f : A → B) (o : Option A) (none : Bool) → is_some o ≡ not none → none ≡ true → IsSome (option_map f o) → ⊥
has_none f None none h e s = false≢true s
has_none f (Some x) none h e s = false≢true (sym (h ∙ ap not e))

-- ---- What is kept

pub keeps_version : {K : Type 0} (points : K → List ℕ) (has : K → Bool) (inside old : TableSoFar) (text name : List ℕ) (version : Option (List ℕ))
    → Keeps points has inside → TakesText old text (record inside { version = version }) → version ≡ Some name → is_version_name name ≡ true
    → Keeps points has (record inside { version = version })
keeps_version points has inside old text name version h t v named = record {
  keys = h.keys;
  named = λ n e. (let P : List ℕ → Type 0 = λ m. is_version_name m ≡ true in subst P (same n (sym v ∙ e)) named);
  begun = t.begun;
}
  where
    same : (n : List ℕ) → Some name ≡ Some n → name ≡ n
    same n q = cc

-- a setting changes neither the keys nor the version
pub keeps_setting : {K : Type 0} (points : K → List ℕ) (has : K → Bool) (inside old : TableSoFar) (text : List ℕ) (setting : Option Weighting)
    → Keeps points has inside → TakesText old text (record inside { setting = setting }) → Keeps points has (record inside { setting = setting })
keeps_setting points has inside old text setting h t = record { keys = h.keys; named = h.named; begun = t.begun }

pub keeps_ranges : {K : Type 0} (points : K → List ℕ) (has : K → Bool) (inside old : TableSoFar) (text : List ℕ) (all : List ImplicitRange)
    → Keeps points has inside → TakesText old text (record inside { ranges = all }) → Keeps points has (record inside { ranges = all })
keeps_ranges points has inside old text all h t = record { keys = h.keys; named = h.named; begun = t.begun }

-- ---- Why a setting, a range or a row is rejected

-- the name of a version is none
pub version_fault : (b inside : TableSoFar) (text name : List ℕ) → inside ≡ b → inside.version ≡ None → word_of text ≡ at_version
    → name ≡ argument_of text → is_version_name name ≡ false → (kinds.Line ≡ kinds.Memory) ⊎ TextCause b text kinds.Line
version_fault b inside text name same none first argument wrong =
    let P : TableSoFar → Type 0 = λ x. x.version ≡ None in
    cause_in b text ForVersion kinds.Line first (subst P same none) (
      refl,
      (λ other h. false≢true (sym wrong ∙ (ap is_version_name (argument ∙ h.argument) ∙ h.named))),
    )

-- no setting has the argument's word
pub setting_fault : (b : TableSoFar) (text word : List ℕ) → IsDue b ForSetting → word_of text ≡ at_variable → word ≡ argument_of text
    → ((setting : Weighting) → word ≡ setting_word setting → ⊥) → (kinds.Line ≡ kinds.Memory) ⊎ TextCause b text kinds.Line
setting_fault b text word due first argument none =
    cause_in b text ForSetting kinds.Line first due (refl, (λ setting h. none setting (argument ∙ h.argument)))

pub range_text_fault : (b : TableSoFar) (text rest : List ℕ) (kind : FaultKind) → IsDue b ForRange → word_of text ≡ at_ranges → rest ≡ after_word text
    → RangeTextCause rest kind → (kind ≡ kinds.Memory) ⊎ TextCause b text kind
range_text_fault b text rest kind due first argument h =
    cause_in b text ForRange kind first due (inl (subst (λ (t : List ℕ). RangeTextCause t kind) argument h))

pub range_follow_fault : (b inside : TableSoFar) (text rest : List ℕ) (r : ImplicitRange) (earlier : List ImplicitRange) (may : Bool) → inside ≡ b
    → IsDue b ForRange → word_of text ≡ at_ranges → rest ≡ after_word text → IsRangeText rest r → earlier ≡ inside.ranges
    → (may ≡ true) ↔ MayFollow earlier r → may ≡ false → (kinds.Range ≡ kinds.Memory) ⊎ TextCause b text kinds.Range
range_follow_fault b inside text rest r earlier may same due first argument form e h fails =
    cause_in b text ForRange kinds.Range first due (inr (
      r,
      subst (λ (t : List ℕ). IsRangeText t r) argument form,
      (λ m. false≢true (sym fails ∙ h.1 (subst (λ (rs : List ImplicitRange). MayFollow rs r) (sym (e ∙ ap (λ (x : TableSoFar). x.ranges) same)) m))),
    ))

pub range_limit_fault : (b inside : TableSoFar) (text rest : List ℕ) (r : ImplicitRange) → inside ≡ b → IsDue b ForRange → word_of text ≡ at_ranges
    → rest ≡ after_word text → IsRangeText rest r → MayFollow inside.ranges r → 256 ≤ length inside.ranges
    → (kinds.Limit ≡ kinds.Memory) ⊎ TextCause b text kinds.Limit
range_limit_fault b inside text rest r same due first argument form may many =
    let P : TableSoFar → Type 0 = λ x. MayFollow x.ranges r × (256 ≤ length x.ranges) in
    cause_in b text ForRange kinds.Limit first due (inr (r, subst (λ (t : List ℕ). IsRangeText t r) argument form, subst P same (may, many)))

pub row_order_fault : (b inside : TableSoFar) (text : List ℕ) → inside ≡ b → text ≢ [] → begins_at text ≡ false → (IsSome inside.version → ⊥)
    → (kinds.Order ≡ kinds.Memory) ⊎ TextCause b text kinds.Order
row_order_fault b inside text same some row none =
    let P : TableSoFar → Type 0 = λ x. IsSome x.version → ⊥ in
    inr (inr (inl (refl, (ForRow, (some, row), subst P same none))))

pub row_text_fault : (b inside : TableSoFar) (text : List ℕ) (kind : FaultKind) → inside ≡ b → IsSome inside.version → text ≢ [] → begins_at text ≡ false
    → (kind ≡ kinds.Memory) ⊎ RowTextCause text kind → (kind ≡ kinds.Memory) ⊎ TextCause b text kind
row_text_fault b inside text kind same version some row (inl m) = inl m
row_text_fault b inside text kind same version some row (inr h) =
    let P : TableSoFar → Type 0 = λ x. IsSome x.version in cause_in b text ForRow kind (some, row) (subst P same version) (inl h)

pub row_add_fault : (b : TableSoFar) (text : List ℕ) (r : Entry) (result : Result (Unit {0}) FaultKind) → IsSome b.version → text ≢ []
    → begins_at text ≡ false → IsRow text r → IfErr result (λ kind. (kind ≡ kinds.Memory) ⊎ AddCause b.rows r kind)
    → IfErr result (λ kind. (kind ≡ kinds.Memory) ⊎ TextCause b text kind)
row_add_fault b text r (Ok x) version some row form h = tt
row_add_fault b text r (Err kind) version some row form (inl m) = inl m
row_add_fault b text r (Err kind) version some row form (inr h) = cause_in b text ForRow kind (some, row) version (inr (r, form, h))

pub row_taken : {E : Type 0} (old inside new : TableSoFar) (text : List ℕ) (row : Entry) (result : Result (Unit {0}) E) → inside ≡ old → IsTableSoFar inside
    → IsSome inside.version → IsRow text row → OnOk result (Contains (keys_of old.rows) row.key → ⊥) → OnOk result (length old.rows < 200000)
    → OnOk result (new ≡ record old { rows = old.rows ++ row ∷ [] }) → OnOk result (TakesText old text new)
row_taken old inside new text row (Ok x) same h v form absent few whole = takes_row old inside new text row same h v form absent few whole
row_taken old inside new text row (Err e) same h v form absent few whole = tt
