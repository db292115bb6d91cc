-- A text says one thing, and one with a cause says nothing that may follow.
use Rattle.std.proofs.Common.{◌≡◌, ◌≢◌, ℕ, ◌≤◌, ◌&&◌, ◌||◌, ◌==◌, leb, Result, Bool, true, false, List, [], ◌∷◌, length, Some, None, Ok, refl, ap, sym, subst, ◌∙◌, inl, inr, arith}
use Rattle.std.proofs.lemmas.Option.{same_Some}
use Rattle.std.proofs.lemmas.Bool.{false≢true}
use borrow.Author.Tests.{eqb-true, eq-eqb}
use lib.Utf8.{scalar}
use Rattle.std.specs.Str.Parse.{digits_value}
use Rattle.uca_weights.specs.declared.Element.{Element}
use Rattle.uca_weights.specs.declared.Weighting.{Weighting}
use Rattle.uca_weights.specs.declared.Weighting.TheVariants as weightings
use Rattle.uca_values.specs.declared.ImplicitRange.{ImplicitRange}
use Rattle.uca_values.specs.Content.{Entry}
use Rattle.uca_values.specs.declared.faults.FaultKind.{FaultKind}
use Rattle.uca_values.specs.declared.faults.FaultKind.TheVariants as kinds
use Rattle.uca_lines.specs.declared.fields.RangeSyntax.{RangeSyntax}
use Rattle.uca_lines.specs.Fields.{is_blank, is_semicolon, up_to, from_first, skip_blanks, trim, word_of, after_word}
use Rattle.uca_lines.specs.Numbers.{code_point_of, weight_of}
use Rattle.uca_lines.specs.Leads.{Leads, BeginsCodePoint}
use Rattle.uca_lines.proofs.LeadLemmas.{leads_same, leads_barred, leads_within, IsExact, exact_code_points, skip_blanks-again}
use Rattle.uca_table.specs.Elements.{BeginsElement, AreElements, opens, ElementsCause}
use Rattle.uca_table.specs.CanonicalElements.{mark_byte, element_text}
use Rattle.uca_table.specs.Rows.{IsKey, IsRow, KeyCause, RowTextCause}
use Rattle.uca_table.specs.Headers.{IsRangeText, RangeTextCause}
use Rattle.uca_table.specs.CanonicalWords.{at_version, at_variable, at_ranges, setting_word}
use Rattle.uca_table.specs.TableLines.{Item, Nothing, OfVersion, OfSetting, OfRange, OfRow, IsItem, begins_at}
use Rattle.uca_table.proofs.ElementLaws.{exact_elements}

-- ---- Parts of a text have one reading

key_same : (text k l : List ℕ) → IsKey text k → IsKey text l → k ≡ l
key_same text k l h g = leads_same BeginsCodePoint exact_code_points text k l h.points g.points

elements_same : (text : List ℕ) (k l : List Element) → AreElements text k → AreElements text l → k ≡ l
elements_same text k l h g = leads_same BeginsElement exact_elements text k l h.texts g.texts

rest_same : (text a b : List ℕ) → from_first is_semicolon text ≡ 59 ∷ a → from_first is_semicolon text ≡ 59 ∷ b → a ≡ b
rest_same text a b h g = cc

entry_same : (r s : Entry) → r.key ≡ s.key → r.elements ≡ s.elements → r ≡ s
entry_same r s k e = ap (λ x. make x r.elements) k ∙ ap (λ x. make s.key x) e
  where
    make : List ℕ → List Element → Entry
    make x y = record { key = x; elements = y }

pub row_same : (text : List ℕ) (r s : Entry) → IsRow text r → IsRow text s → r ≡ s
row_same text r s h g =
    entry_same r s (key_same _ r.key s.key h.key g.key)
    (elements_same g.rest r.elements s.elements (subst (λ (t : List ℕ). AreElements t r.elements) (rest_same text h.rest g.rest h.cut g.cut)
    h.elements) g.elements)

setting_same : (v w : Weighting) → setting_word v ≡ setting_word w → v ≡ w
setting_same weightings.NonIgnorable weightings.NonIgnorable h = refl
setting_same weightings.NonIgnorable weightings.Shifted h = cc
setting_same weightings.Shifted weightings.NonIgnorable h = cc
setting_same weightings.Shifted weightings.Shifted h = refl

ok_is : {A E : Type 0} (x y : A) → ◌≡◌ {A = Result A E} (Ok x) (Ok y) → x ≡ y
ok_is x y h = cc

pub range_same : (text : List ℕ) (r s : ImplicitRange) → IsRangeText text r → IsRangeText text s → r ≡ s
range_same text r s h g =
    let ends : ◌≡◌ {A = ℕ × ℕ} (r.first, r.last) (s.first, s.last) =
    ok_is {A = ℕ × ℕ} {E = RangeSyntax} (r.first, r.last) (s.first, s.last) (sym h.ends ∙ g.ends) in
    let lead = same_Some r.lead s.lead (sym h.lead ∙ (ap (λ t. weight_of (trim t)) (rest_same text h.rest g.rest h.cut g.cut) ∙ g.lead)) in
    ap (λ (e : ℕ × ℕ). make e r.lead) ends ∙ ap (λ l. make (s.first, s.last) l) lead
  where
    make : ℕ × ℕ → ℕ → ImplicitRange
    make e l = record { first = e.0; last = e.1; lead = l }

-- ---- Each item has its purpose

word_begins : (text : List ℕ) (bs : List ℕ) → word_of text ≡ 64 ∷ bs → begins_at text ≡ true
word_begins [] bs h = cc
word_begins (b ∷ text) bs h = cases (is_blank b) refl
  where
    cases : (v : Bool) → is_blank b ≡ v → begins_at (b ∷ text) ≡ true
    cases true e = let k = rw e at h in cc
    cases false e = let k = rw e at h in let first : b ≡ 64 = cc in eq-eqb b 64 first

third_false : (a b d : Bool) → (a && b && false && d) ≡ false
third_false true true d = refl
third_false true false d = refl
third_false false b d = refl

no_code_point_at : (w : List ℕ) (c : ℕ) → code_point_of (64 ∷ w) ≡ Some c → ⊥
no_code_point_at w c h = let k = rw (third_false (leb 4 (length (64 ∷ w))) (leb (length (64 ∷ w)) 6) (scalar (digits_value 16 (64 ∷ w)))) at h in cc

no_key_at : (bs key : List ℕ) → 1 ≤ length key → Leads BeginsCodePoint (up_to is_semicolon (64 ∷ bs)) key [] → ⊥
no_key_at bs [] s l = omega arith
no_key_at bs (c ∷ cs) s l = no_code_point_at (word_of (up_to is_semicolon bs)) c l.1.word

pub row_begins : (text : List ℕ) (row : Entry) → IsRow text row → (text ≢ []) × (begins_at text ≡ false)
row_begins [] row h = absurd (let e = h.cut in cc)
row_begins (b ∷ bs) row h = ((λ e. cc), cases (b == 64) refl)
  where
    cases : (v : Bool) → (b == 64) ≡ v → begins_at (b ∷ bs) ≡ false
    cases false e = e
    cases true e = absurd (no_key_at bs row.key h.key.some (subst (λ (x : ℕ). Leads BeginsCodePoint (up_to is_semicolon (x ∷ bs)) row.key [])
        (eqb-true b 64 e) h.key.points))

pub not_both : (b : Bool) → b ≡ true → b ≡ false → ⊥
not_both b t f = false≢true (sym f ∙ t)

row_has_no_word : (text : List ℕ) (row : Entry) (bs : List ℕ) → IsRow text row → word_of text ≡ 64 ∷ bs → ⊥
row_has_no_word text row bs h w = not_both (begins_at text) (word_begins text bs w) (row_begins text row h).1

words_differ : (text a b : List ℕ) → word_of text ≡ a → word_of text ≡ b → a ≡ b
words_differ text a b h g = sym h ∙ g

pub empty_word : (text : List ℕ) (b : ℕ) (bs : List ℕ) → text ≡ [] → word_of text ≡ b ∷ bs → ⊥
empty_word text b bs e h = let k = sym (ap word_of e) ∙ h in cc

version_not_variable : at_version ≡ at_variable → ⊥
version_not_variable h = cc

version_not_ranges : at_version ≡ at_ranges → ⊥
version_not_ranges h = cc

variable_not_ranges : at_variable ≡ at_ranges → ⊥
variable_not_ranges h = cc

pub is_version : (text : List ℕ) (item : Item) → word_of text ≡ at_version → IsItem text item → (name : List ℕ) × (item ≡ OfVersion name)
is_version text Nothing w h = absurd (empty_word text 64 _ h w)
is_version text (OfVersion name) w h = (name, refl)
is_version text (OfSetting v) w h = absurd (version_not_variable (words_differ text at_version at_variable w h.word))
is_version text (OfRange r) w h = absurd (version_not_ranges (words_differ text at_version at_ranges w h.word))
is_version text (OfRow row) w h = absurd (row_has_no_word text row _ h w)

pub is_setting : (text : List ℕ) (item : Item) → word_of text ≡ at_variable → IsItem text item → (v : Weighting) × (item ≡ OfSetting v)
is_setting text Nothing w h = absurd (empty_word text 64 _ h w)
is_setting text (OfVersion name) w h = absurd (version_not_variable (words_differ text at_version at_variable h.word w))
is_setting text (OfSetting v) w h = (v, refl)
is_setting text (OfRange r) w h = absurd (variable_not_ranges (words_differ text at_variable at_ranges w h.word))
is_setting text (OfRow row) w h = absurd (row_has_no_word text row _ h w)

pub is_range : (text : List ℕ) (item : Item) → word_of text ≡ at_ranges → IsItem text item → (r : ImplicitRange) × (item ≡ OfRange r)
is_range text Nothing w h = absurd (empty_word text 64 _ h w)
is_range text (OfVersion name) w h = absurd (version_not_ranges (words_differ text at_version at_ranges h.word w))
is_range text (OfSetting v) w h = absurd (variable_not_ranges (words_differ text at_variable at_ranges h.word w))
is_range text (OfRange r) w h = (r, refl)
is_range text (OfRow row) w h = absurd (row_has_no_word text row _ h w)

pub is_row : (text : List ℕ) (item : Item) → (text ≢ []) × (begins_at text ≡ false) → IsItem text item → (row : Entry) × (item ≡ OfRow row)
is_row text Nothing w h = absurd (w.0 h)
is_row text (OfVersion name) w h = absurd (not_both (begins_at text) (word_begins text _ h.word) w.1)
is_row text (OfSetting v) w h = absurd (not_both (begins_at text) (word_begins text _ h.word) w.1)
is_row text (OfRange r) w h = absurd (not_both (begins_at text) (word_begins text _ h.word) w.1)
is_row text (OfRow row) w h = (row, refl)

-- a text says one item
pub item_same : (text : List ℕ) (i j : Item) → IsItem text i → IsItem text j → i ≡ j
item_same text Nothing Nothing h g = refl
item_same text Nothing (OfVersion name) h g = absurd (empty_word text 64 _ h g.word)
item_same text Nothing (OfSetting v) h g = absurd (empty_word text 64 _ h g.word)
item_same text Nothing (OfRange r) h g = absurd (empty_word text 64 _ h g.word)
item_same text Nothing (OfRow row) h g = absurd ((row_begins text row g).0 h)
item_same text (OfVersion name) j h g = let o = is_version text j h.word g in version_is o.0 o.1
  where
    version_is : (other : List ℕ) → j ≡ OfVersion other → OfVersion name ≡ j
    version_is other e = ap OfVersion (sym h.argument ∙ (subst (IsItem text) e g).argument) ∙ sym e
item_same text (OfSetting v) j h g = let o = is_setting text j h.word g in setting_is o.0 o.1
  where
    setting_is : (other : Weighting) → j ≡ OfSetting other → OfSetting v ≡ j
    setting_is other e = ap OfSetting (setting_same v other (sym h.argument ∙ (subst (IsItem text) e g).argument)) ∙ sym e
item_same text (OfRange r) j h g = let o = is_range text j h.word g in range_is o.0 o.1
  where
    range_is : (other : ImplicitRange) → j ≡ OfRange other → OfRange r ≡ j
    range_is other e = ap OfRange (range_same (after_word text) r other h.range (subst (IsItem text) e g).range) ∙ sym e
item_same text (OfRow row) j h g = let o = is_row text j (row_begins text row h) g in row_is o.0 o.1
  where
    row_is : (other : Entry) → j ≡ OfRow other → OfRow row ≡ j
    row_is other e = ap OfRow (row_same text row other h (subst (IsItem text) e g)) ∙ sym e

-- ---- A text with a cause in it is none

leads_rest : {X : Type 0} (B : List ℕ → X → List ℕ → Type 0) (text : List ℕ) (xs : List X) (rest : List ℕ) → Leads B text xs rest → skip_blanks rest ≡ rest
leads_rest B text [] rest h = ap skip_blanks (sym h) ∙ (skip_blanks-again text ∙ h)
leads_rest B text (x ∷ xs) rest h = leads_rest B h.0 xs rest h.2

opens_element : (text : List ℕ) (e : Element) (more : List ℕ) → BeginsElement text e more → opens text ≡ true
unfolding element_text
opens_element text e more h = ap opens h.parts ∙ marked e.mark
  where
    marked : (m : Bool) → ((mark_byte m == 46) || (mark_byte m == 42)) ≡ true
    marked true = refl
    marked false = refl

no_values : {X : Type 0} (B : List ℕ → X → List ℕ → Type 0) → IsExact B → (text : List ℕ) (xs : List X) → Leads B text xs [] → 1 ≤ length xs
    → skip_blanks text ≡ [] → ⊥
no_values B exact text [] h s e = omega arith
no_values B exact text (x ∷ xs) h s e = exact.some x h.0 (subst (λ (t : List ℕ). B t x h.0) e h.1)

elements_barred : (text : List ℕ) (es : List Element) (kind : FaultKind) → AreElements text es → ElementsCause text kind → ⊥
elements_barred text es kinds.Line h (inl e) = no_values BeginsElement exact_elements text es h.texts h.some e
elements_barred text es kinds.Line h (inr c) =
    let same = leads_rest BeginsElement text c.0 c.1 c.2 in
    leads_barred BeginsElement exact_elements text c.0 c.1 es c.2 (λ e. c.3 (sym same ∙ e))
    (λ x more b. not_both (opens c.1) (opens_element c.1 x more (subst (λ (t : List ℕ). BeginsElement t x more) same b)) c.4) h.texts
elements_barred text es kinds.Weight h c =
    let same = leads_rest BeginsElement text c.0 c.1 c.2 in
    leads_barred BeginsElement exact_elements text c.0 c.1 es c.2 (λ e. opens_some c.1 c.3 (sym same ∙ e))
    (λ x more b. c.4 x more (subst (λ (t : List ℕ). BeginsElement t x more) same b)) h.texts
  where
    opens_some : (t : List ℕ) → opens t ≡ true → t ≡ [] → ⊥
    opens_some t o e = false≢true (sym (ap opens e) ∙ o)
elements_barred text es kinds.Limit h c = let n = leads_within BeginsElement exact_elements text c.0 c.1 es c.2 h.texts in omega (arith, n, c.3, h.few)
elements_barred text es _ h c = c

key_barred : (text key : List ℕ) (kind : FaultKind) → IsKey text key → KeyCause text kind → ⊥
key_barred text key kinds.Line h e = no_values BeginsCodePoint exact_code_points text key h.points h.some e
key_barred text key kinds.CodePoint h c =
    let same = leads_rest BeginsCodePoint text c.0 c.1 c.2 in
    leads_barred BeginsCodePoint exact_code_points text c.0 c.1 key c.2 (λ e. c.3 (sym same ∙ e))
    (λ x more b. none_some x (sym c.4 ∙ (ap (λ t. code_point_of (word_of t)) (sym same) ∙ b.word))) h.points
  where
    none_some : (x : ℕ) → None ≡ Some x → ⊥
    none_some x e = cc
key_barred text key kinds.Limit h c = let n = leads_within BeginsCodePoint exact_code_points text c.0 c.1 key c.2 h.points in omega (arith, n, c.3, h.few)
key_barred text key _ h c = c

pub row_text_barred : (text : List ℕ) (row : Entry) (kind : FaultKind) → IsRow text row → RowTextCause text kind → ⊥
row_text_barred text row kind h (inl c) = key_barred (up_to is_semicolon text) row.key kind h.key c
row_text_barred text row kind h (inr (inl c)) = let e = sym h.cut ∙ c.0 in cc
row_text_barred text row kind h (inr (inr c)) =
    elements_barred c.0 row.elements kind (subst (λ (t : List ℕ). AreElements t row.elements) (rest_same text h.rest c.0 h.cut c.1) h.elements) c.2

pub range_text_barred : (text : List ℕ) (r : ImplicitRange) (kind : FaultKind) → IsRangeText text r → RangeTextCause text kind → ⊥
range_text_barred text r kinds.Line h (inl c) = let e = sym h.cut ∙ c in cc
range_text_barred text r kinds.Line h (inr c) = let e = sym h.ends ∙ c in cc
range_text_barred text r kinds.CodePoint h c = let e = sym h.ends ∙ c.1 in cc
range_text_barred text r kinds.Weight h c =
    let e = sym h.lead ∙ (ap (λ t. weight_of (trim t)) (rest_same text h.rest c.0 h.cut c.1) ∙ c.3) in cc
range_text_barred text r _ h c = c
