-- Each line of the canonical text of a table says its part of the table.
use Rattle.std.proofs.Common.{◌≡◌, ℕ, ◌<◌, ◌≤◌, ◌==◌, Bool, true, false, List, [], ◌∷◌, ◌++◌, length, Ok, refl, sym, ap, subst, ◌∙◌, arith, append-nil, append_assoc, length-append}
use Rattle.std.specs.List.{list_all, flat_map, AllByRecursion}
use Rattle.std.specs.Char.{IsScalar}
use Rattle.std.proofs.lemmas.Bool.{and_parts}
use Rattle.std.proofs.lemmas.Bool.Decides.{nat_tests}
use borrow.Author.Tests.{leb-true}
use Rattle.uca_weights.specs.declared.Element.{Element}
use Rattle.uca_weights.specs.declared.Weighting.{Weighting}
use Rattle.uca_weights.specs.declared.Weighting.TheVariants as weightings
use Rattle.uca_lines.specs.Lines.{is_lf, Lacks}
use Rattle.uca_lines.specs.Fields.{is_blank, is_hash, is_semicolon, skip_blanks, no_end_blanks, trim, text_of}
use Rattle.uca_lines.specs.Numbers.{is_hex_digit, code_point_of, weight_of, digits}
use Rattle.uca_lines.specs.CodePointRanges.{range_of, range_between}
use Rattle.uca_lines.specs.Leads.{Leads, BeginsCodePoint}
use Rattle.uca_lines.proofs.DigitLemmas.{weight_of-digits, length-digits}
use Rattle.uca_lines.proofs.LeadLemmas.{leads_skip, leads_from_skip}
use Rattle.uca_values.specs.declared.ImplicitRange.{ImplicitRange}
use Rattle.uca_values.specs.Content.{Entry, IsEntry, Fits, IsImplicitRange, is_name_byte, is_version_name}
use Rattle.uca_lines.proofs.LineLemmas.{Lacks-append}
use Rattle.uca_table.specs.CanonicalWords.{at_version, at_ranges}
use Rattle.uca_table.specs.CanonicalElements.{mark_byte, element_text}
use Rattle.uca_table.specs.Canonical.{point_text, key_point_text, key_text, version_line, setting_line, range_line, row_line}
use Rattle.uca_table.specs.Elements.{BeginsElement}
use Rattle.uca_table.specs.Rows.{IsKey, IsRow}
use Rattle.uca_table.specs.Headers.{IsVersion, IsRangeText, IsRange}
use Rattle.uca_table.specs.TableLines.{OfVersion, OfSetting, OfRange, OfRow, IsLine}
use Rattle.uca_table.proofs.CanonicalBytes.{list_lacks, up_to_lacks, from_first_lacks, skip_front, skip_none, keeps_end, text_again, halves_are, lacks_digits, digit_no_blank, digit_no_hash, digit_no_semicolon, digit_no_lf, digit_no_dot, digits_all, point_all, point_some, code_point_again}

-- ---- Keys

lacks_point : (p : ℕ → Bool) → ((b : ℕ) → is_hex_digit b ≡ true → p b ≡ false) → (c : ℕ) → IsScalar c → Lacks p (point_text c)
lacks_point p each c h = lacks_digits p each (point_text c) (point_all c h)

lacks_key : (p : ℕ → Bool) → ((b : ℕ) → is_hex_digit b ≡ true → p b ≡ false) → p 32 ≡ false → (key : List ℕ) → AllByRecursion IsScalar key
    → Lacks p (key_text key)
unfolding key_text key_point_text
lacks_key p each space [] h = tt
lacks_key p each space (c ∷ key) h =
    Lacks-append p (point_text c ++ 32 ∷ []) (key_text key) (Lacks-append p (point_text c) (32 ∷ []) (lacks_point p each c h.0) (space, tt))
    (lacks_key p each space key h.1)

-- a key and more begin with a code point
key_front : (c : ℕ) (key more : List ℕ) → key_text (c ∷ key) ++ more ≡ point_text c ++ 32 ∷ (key_text key ++ more)
unfolding key_text key_point_text
key_front c key more = simp append_assoc

key_skips : (key more : List ℕ) → 1 ≤ length key → AllByRecursion IsScalar key → skip_blanks (key_text key ++ more) ≡ key_text key ++ more
key_skips [] more some h = absurd (omega arith)
key_skips (c ∷ key) more some h =
    ap skip_blanks (key_front c key more)
    ∙ (skip_front (point_text c) (32 ∷ (key_text key ++ more)) (point_some c h.0) (lacks_point is_blank digit_no_blank c h.0)
    ∙ sym (key_front c key more))

point_begins : (c : ℕ) (more : List ℕ) → IsScalar c → BeginsCodePoint (skip_blanks (point_text c ++ 32 ∷ more)) c (32 ∷ more)
point_begins c more h =
    let plain = lacks_point is_blank digit_no_blank c h in
    subst (λ (t : List ℕ). BeginsCodePoint t c (32 ∷ more)) (sym (skip_front (point_text c) (32 ∷ more) (point_some c h) plain)) (record {
      word = ap code_point_of (up_to_lacks is_blank (point_text c) (32 ∷ more) plain ∙ append-nil (point_text c)) ∙ code_point_again c h;
      rest = from_first_lacks is_blank (point_text c) (32 ∷ more) plain;
    })

key_leads : (key : List ℕ) → AllByRecursion IsScalar key → Leads BeginsCodePoint (key_text key) key []
unfolding key_text key_point_text
key_leads [] h = refl
key_leads (c ∷ key) h = (
  32 ∷ key_text key,
  subst (λ (t : List ℕ). BeginsCodePoint (skip_blanks t) c (32 ∷ key_text key)) (sym (append_assoc (point_text c) (32 ∷ []) (key_text key)))
      (point_begins c (key_text key) h.0),
  leads_from_skip BeginsCodePoint (32 ∷ key_text key) key [] (leads_skip BeginsCodePoint (key_text key) key [] (key_leads key h.1)),
)

-- ---- Elements

-- a test that no byte of an element passes
record SparesElements (p : ℕ → Bool) : Type 0 where
  digit : (b : ℕ) → is_hex_digit b ≡ true → p b ≡ false
  opening : p 91 ≡ false
  closing : p 93 ≡ false
  dot : p 46 ≡ false
  star : p 42 ≡ false

spares_mark : (p : ℕ → Bool) → SparesElements p → (mark : Bool) → p (mark_byte mark) ≡ false
spares_mark p s true = s.star
spares_mark p s false = s.dot

lacks_weight : (p : ℕ → Bool) → SparesElements p → (w : ℕ) (more : List ℕ) → w < 0x1_0000 → Lacks p more → Lacks p (digits 4 w ++ more)
lacks_weight p s w more h k = Lacks-append p (digits 4 w) more (lacks_digits p s.digit (digits 4 w) (digits_all 4 w h)) k

lacks_element : (p : ℕ → Bool) → SparesElements p → (e : Element) → Fits e → Lacks p (element_text e)
unfolding element_text
lacks_element p s e h = (
  s.opening,
  (
    spares_mark p s e.mark,
    lacks_weight p s e.primary _ h.primary (
      s.dot,
      lacks_weight p s e.secondary _ h.secondary
          (s.dot, lacks_weight p s e.tertiary _ h.tertiary (s.closing, tt)),
    ),
  ),
)

lacks_elements : (p : ℕ → Bool) → SparesElements p → (elements : List Element) → AllByRecursion Fits elements → Lacks p (flat_map element_text elements)
lacks_elements p s [] h = tt
lacks_elements p s (e ∷ elements) h = Lacks-append p (element_text e) (flat_map element_text elements) (lacks_element p s e h.0)
    (lacks_elements p s elements h.1)

elements_some : (elements : List Element) → 1 ≤ length elements → 1 ≤ length (flat_map element_text elements)
unfolding element_text
elements_some [] some = absurd (omega arith)
elements_some (e ∷ elements) some = omega arith

elements_lead : (elements : List Element) → AllByRecursion Fits elements → Leads BeginsElement (flat_map element_text elements) elements []
unfolding element_text
elements_lead [] h = refl
elements_lead (e ∷ elements) h = (flat_map element_text elements, record { parts = refl; fits = h.0 }, elements_lead elements h.1)

no_blank : SparesElements is_blank
no_blank = record { digit = digit_no_blank; opening = refl; closing = refl; dot = refl; star = refl }

no_hash : SparesElements is_hash
no_hash = record { digit = digit_no_hash; opening = refl; closing = refl; dot = refl; star = refl }

no_lf : SparesElements is_lf
no_lf = record { digit = digit_no_lf; opening = refl; closing = refl; dot = refl; star = refl }

-- ---- Rows

lacks_row : (p : ℕ → Bool) → SparesElements p → p 32 ≡ false → p 59 ≡ false → (row : Entry) → IsEntry row → Lacks p (row_line row)
unfolding row_line
lacks_row p s space semicolon row h =
    Lacks-append p (key_text row.key) (59 ∷ 32 ∷ flat_map element_text row.elements) (lacks_key p s.digit space row.key h.points)
    (semicolon, (space, lacks_elements p s row.elements h.fits))

row_again : (row : Entry) → IsEntry row → IsRow (row_line row) row
unfolding row_line
row_again row h =
    let back : List ℕ = 59 ∷ 32 ∷ flat_map element_text row.elements in
    let plain = lacks_key is_semicolon digit_no_semicolon refl row.key h.points in
    record {
      rest = 32 ∷ flat_map element_text row.elements;
      cut = from_first_lacks is_semicolon (key_text row.key) back plain;
      key = subst (λ (t : List ℕ). IsKey t row.key) (sym (up_to_lacks is_semicolon (key_text row.key) back plain ∙ append-nil (key_text row.key))) (record {
        points = key_leads row.key h.points;
        some = h.some_points;
        few = h.few_points;
      });
      elements = record {
        texts = leads_from_skip BeginsElement (32 ∷ flat_map element_text row.elements) row.elements []
            (leads_skip BeginsElement (flat_map element_text row.elements) row.elements [] (elements_lead row.elements h.fits));
        some = h.some_elements;
        few = h.few_elements;
      };
    }

row_text_again : (row : Entry) → IsEntry row → text_of (row_line row) ≡ row_line row
unfolding row_line
row_text_again row h =
    let elements = flat_map element_text row.elements in
    text_again (key_text row.key ++ 59 ∷ 32 ∷ elements) (key_text row.key ++ 59 ∷ 32 ∷ []) elements
    (sym (append_assoc (key_text row.key) (59 ∷ 32 ∷ []) elements))
    (lacks_row is_hash no_hash refl refl row h)
    (key_skips row.key (59 ∷ 32 ∷ elements) h.some_points h.points)
    (elements_some row.elements h.some_elements)
    (lacks_elements is_blank no_blank row.elements h.fits)

pub row_says : (row : Entry) → IsEntry row → IsLine (row_line row) (OfRow row)
row_says row h = subst (λ (t : List ℕ). IsRow t row) (sym (row_text_again row h)) (row_again row h)

pub row_has_no_lf : (row : Entry) → IsEntry row → Lacks is_lf (row_line row)
row_has_no_lf row h = lacks_row is_lf no_lf refl refl row h

-- ---- Ranges

lead_fits : (r : ImplicitRange) → IsImplicitRange r → r.lead < 0x1_0000
lead_fits r h = omega (arith, h.high)

-- what is between the word of the line and its lead
abbrev pub ends_text : ImplicitRange → List ℕ
ends_text r = point_text r.first ++ 46 ∷ 46 ∷ point_text r.last

abbrev pub lead_text : ImplicitRange → List ℕ
lead_text r = 59 ∷ 32 ∷ digits 4 r.lead

range_front : (r : ImplicitRange) → range_line r ≡ (at_ranges ++ 32 ∷ []) ++ (ends_text r ++ lead_text r)
unfolding range_line
range_front r = simp append_assoc

lacks_ends : (p : ℕ → Bool) → ((b : ℕ) → is_hex_digit b ≡ true → p b ≡ false) → p 46 ≡ false → (r : ImplicitRange) → IsImplicitRange r → Lacks p (ends_text r)
lacks_ends p each dot r h = Lacks-append p (point_text r.first) (46 ∷ 46 ∷ point_text r.last) (lacks_point p each r.first h.first_point)
    (dot, (dot, lacks_point p each r.last h.last_point))

lacks_lead : (p : ℕ → Bool) → ((b : ℕ) → is_hex_digit b ≡ true → p b ≡ false) → (r : ImplicitRange) → IsImplicitRange r → Lacks p (digits 4 r.lead)
lacks_lead p each r h = lacks_digits p each (digits 4 r.lead) (digits_all 4 r.lead (lead_fits r h))

lacks_range : (p : ℕ → Bool) → SparesElements p → p 32 ≡ false → p 59 ≡ false → Lacks p (at_ranges ++ 32 ∷ []) → (r : ImplicitRange)
    → IsImplicitRange r → Lacks p (range_line r)
lacks_range p s space semicolon word r h =
    subst (Lacks p) (sym (range_front r)) (
    Lacks-append p (at_ranges ++ 32 ∷ []) (ends_text r ++ lead_text r) word
    (Lacks-append p (ends_text r) (lead_text r) (lacks_ends p s.digit s.dot r h) (semicolon, (space, lacks_lead p s.digit r h)))
    )

-- the two code points are found
ends_again : (r : ImplicitRange) → IsImplicitRange r → range_of (ends_text r) ≡ Ok (r.first, r.last)
ends_again r h =
    ap range_between (halves_are (point_text r.first) (point_text r.last) (lacks_point (λ b. b == 46) digit_no_dot r.first h.first_point))
    ∙ rw (code_point_again r.first h.first_point, code_point_again r.last h.last_point) refl

ends_trimmed : (r : ImplicitRange) → IsImplicitRange r → trim (32 ∷ ends_text r) ≡ ends_text r
ends_trimmed r h =
    let plain = lacks_ends is_blank digit_no_blank refl r h in
    let some : 1 ≤ length (ends_text r) = omega (arith, length-append (point_text r.first) (46 ∷ 46 ∷ point_text r.last), point_some r.first h.first_point) in
    ap no_end_blanks (skip_none (ends_text r) plain) ∙ keeps_end [] (ends_text r) some plain

range_text_again : (r : ImplicitRange) → IsImplicitRange r → IsRangeText (32 ∷ (ends_text r ++ lead_text r)) r
range_text_again r h =
    let plain = Lacks-append is_semicolon (32 ∷ []) (ends_text r) (refl, tt) (lacks_ends is_semicolon digit_no_semicolon refl r h) in
    let lead = lacks_lead is_blank digit_no_blank r h in
    record {
      rest = 32 ∷ digits 4 r.lead;
      cut = from_first_lacks is_semicolon (32 ∷ ends_text r) (lead_text r) plain;
      ends = ap (λ t. range_of (trim t)) (up_to_lacks is_semicolon (32 ∷ ends_text r) (lead_text r) plain ∙ append-nil (32 ∷ ends_text r))
          ∙ (ap range_of (ends_trimmed r h) ∙ ends_again r h);
      lead = ap weight_of (ap no_end_blanks (skip_none (digits 4 r.lead) lead) ∙ keeps_end [] (digits 4 r.lead) (omega (arith, length-digits 4 r.lead)) lead)
          ∙ weight_of-digits r.lead (lead_fits r h);
    }

range_again : (r : ImplicitRange) → IsImplicitRange r → IsRange (range_line r) r
range_again r h =
    subst (λ (t : List ℕ). IsRange t r) (sym (range_front r)) (record { word = refl; range = range_text_again r h })

range_text_is : (r : ImplicitRange) → IsImplicitRange r → text_of (range_line r) ≡ range_line r
range_text_is r h =
    let front = (at_ranges ++ 32 ∷ []) ++ (ends_text r ++ 59 ∷ 32 ∷ []) in
    text_again (range_line r) front (digits 4 r.lead)
    (range_front r ∙ (ap (λ l. (at_ranges ++ 32 ∷ []) ++ l) (sym (append_assoc (ends_text r) (59 ∷ 32 ∷ []) (digits 4 r.lead)))
    ∙ sym (append_assoc (at_ranges ++ 32 ∷ []) (ends_text r ++ 59 ∷ 32 ∷ []) (digits 4 r.lead))))
    (lacks_range is_hash no_hash refl refl (list_lacks is_hash (at_ranges ++ 32 ∷ []) refl) r h)
    (ap skip_blanks (range_front r) ∙ sym (range_front r))
    (omega (arith, length-digits 4 r.lead))
    (lacks_lead is_blank digit_no_blank r h)

pub range_says : (r : ImplicitRange) → IsImplicitRange r → IsLine (range_line r) (OfRange r)
range_says r h = subst (λ (t : List ℕ). IsRange t r) (sym (range_text_is r h)) (range_again r h)

pub range_has_no_lf : (r : ImplicitRange) → IsImplicitRange r → Lacks is_lf (range_line r)
range_has_no_lf r h = lacks_range is_lf no_lf refl refl (list_lacks is_lf (at_ranges ++ 32 ∷ []) refl) r h

-- ---- Settings

pub setting_says : (setting : Weighting) → IsLine (setting_line setting) (OfSetting setting)
unfolding setting_line
setting_says weightings.NonIgnorable = record { word = refl; argument = refl }
setting_says weightings.Shifted = record { word = refl; argument = refl }

pub setting_has_no_lf : (setting : Weighting) → Lacks is_lf (setting_line setting)
unfolding setting_line
setting_has_no_lf weightings.NonIgnorable = list_lacks is_lf (setting_line weightings.NonIgnorable) refl
setting_has_no_lf weightings.Shifted = list_lacks is_lf (setting_line weightings.Shifted) refl

-- ---- Versions

lacks_name : (p : ℕ → Bool) → ((b : ℕ) → is_name_byte b ≡ true → p b ≡ false) → (name : List ℕ) → list_all is_name_byte name ≡ true → Lacks p name
lacks_name p each [] h = tt
lacks_name p each (b ∷ bs) h = let k = and_parts _ _ h in (each b k.0, lacks_name p each bs k.1)

name_no_blank : (b : ℕ) → is_name_byte b ≡ true → is_blank b ≡ false
name_no_blank b h = grind (arith, nat_tests)

name_no_hash : (b : ℕ) → is_name_byte b ≡ true → is_hash b ≡ false
name_no_hash b h = grind (arith, nat_tests)

name_no_lf : (b : ℕ) → is_name_byte b ≡ true → is_lf b ≡ false
name_no_lf b h = grind (arith, nat_tests)

version_front : (name : List ℕ) → version_line name ≡ (at_version ++ 32 ∷ []) ++ name
unfolding version_line
version_front name = simp append_assoc

-- a name is not empty, and its bytes are name bytes
record IsName (name : List ℕ) : Type 0 where
  some : 1 ≤ length name
  bytes : list_all is_name_byte name ≡ true

is_name : (name : List ℕ) → is_version_name name ≡ true → IsName name
is_name name h = let k = and_parts _ _ h in record { some = leb-true 1 (length name) (and_parts _ _ k.0).0; bytes = k.1 }

lacks_version : (p : ℕ → Bool) → ((b : ℕ) → is_name_byte b ≡ true → p b ≡ false) → Lacks p (at_version ++ 32 ∷ []) → (name : List ℕ) → IsName name
    → Lacks p (version_line name)
lacks_version p each word name h = subst (Lacks p) (sym (version_front name))
    (Lacks-append p (at_version ++ 32 ∷ []) name word (lacks_name p each name h.bytes))

version_again : (name : List ℕ) → is_version_name name ≡ true → IsVersion (version_line name) name
version_again name h =
    subst (λ (t : List ℕ). IsVersion t name) (sym (version_front name)) (record {
      word = refl;
      argument = skip_none name (lacks_name is_blank name_no_blank name (is_name name h).bytes);
      named = h;
    })

version_text_is : (name : List ℕ) → IsName name → text_of (version_line name) ≡ version_line name
version_text_is name h =
    text_again (version_line name) (at_version ++ 32 ∷ []) name (version_front name)
    (lacks_version is_hash name_no_hash (list_lacks is_hash (at_version ++ 32 ∷ []) refl) name h)
    (ap skip_blanks (version_front name) ∙ sym (version_front name))
    h.some
    (lacks_name is_blank name_no_blank name h.bytes)

pub version_says : (name : List ℕ) → is_version_name name ≡ true → IsLine (version_line name) (OfVersion name)
version_says name h = subst (λ (t : List ℕ). IsVersion t name) (sym (version_text_is name (is_name name h))) (version_again name h)

pub version_has_no_lf : (name : List ℕ) → is_version_name name ≡ true → Lacks is_lf (version_line name)
version_has_no_lf name h = lacks_version is_lf name_no_lf (list_lacks is_lf (at_version ++ 32 ∷ []) refl) name (is_name name h)
