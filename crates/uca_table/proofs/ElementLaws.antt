-- What is read as an element is spelled as that element, and what is spelled so is read.
use Rattle.std.proofs.Common.{◌≡◌, ℕ, zero, suc, ◌<◌, ◌≤◌, Bool, true, false, ◌==◌, List, [], ◌∷◌, ◌++◌, length, take, drop, Option, Some, None, refl, ap, sym, subst, ◌∙◌, inl, inr, arith, append_assoc, length-append}
use Rattle.std.proofs.lemmas.Option.{some_pair_parts}
use Rattle.std.proofs.lemmas.List.{nil_from_length, take-append-drop, take_at, drop_at}
use borrow.Author.Tests.{eqb-true}
use Rattle.uca_weights.specs.declared.Element.{Element}
use Rattle.uca_weights.proofs.Tests.{then_some, map_some}
use Rattle.uca_lines.specs.Numbers.{weight_of, digits}
use Rattle.uca_lines.proofs.DigitLemmas.{weight_takes, weight_of-digits, length-digits}
use Rattle.uca_values.specs.declared.faults.FaultKind.TheVariants as kinds
use Rattle.uca_lines.specs.Fields.{skip_blanks}
use Rattle.uca_lines.specs.Leads.{Leads}
use Rattle.uca_lines.proofs.LeadLemmas.{IsExact, leads_push}
use Rattle.uca_table.specs.Elements.{BeginsElement, AreElements, opens, ElementsCause}
use Rattle.uca_table.specs.CanonicalElements.{mark_byte, element_text}
use Rattle.uca_table.specs.inside.ElementSteps.{after_byte, mark_at, weight_at, dotted_weight_at, element_at}

-- ---- What is read is spelled so

after_byte_takes : (byte : ℕ) (text rest : List ℕ) → after_byte byte text ≡ Some rest → text ≡ byte ∷ rest
unfolding after_byte
after_byte_takes byte [] rest h = cc
after_byte_takes byte (b ∷ bs) rest h = cases (b == byte) refl
  where
    cases : (v : Bool) → (b == byte) ≡ v → b ∷ bs ≡ byte ∷ rest
    cases true e = let same = eqb-true b byte e in let k = rw e at h in cc
    cases false e = let k = rw e at h in cc

mark_takes : (text : List ℕ) (m : Bool) (rest : List ℕ) → mark_at text ≡ Some (m, rest) → text ≡ mark_byte m ∷ rest
unfolding mark_at
mark_takes [] m rest h = cc
mark_takes (b ∷ bs) m rest h = cases (b == 46) refl (b == 42) refl
  where
    dot : b ≡ 46 → ◌≡◌ {A = Option (Bool × List ℕ)} (Some (false, bs)) (Some (m, rest)) → b ∷ bs ≡ mark_byte m ∷ rest
    dot e k = let same = some_pair_parts false m bs rest k in rw (e, same.1, ← same.0) refl

    star : b ≡ 42 → ◌≡◌ {A = Option (Bool × List ℕ)} (Some (true, bs)) (Some (m, rest)) → b ∷ bs ≡ mark_byte m ∷ rest
    star e k = let same = some_pair_parts true m bs rest k in rw (e, same.1, ← same.0) refl

    cases : (v : Bool) → (b == 46) ≡ v → (w : Bool) → (b == 42) ≡ w → b ∷ bs ≡ mark_byte m ∷ rest
    cases true e w k = dot (eqb-true b 46 e) (rw e at h)
    cases false e true k = star (eqb-true b 42 k) (rw (e, k) at h)
    cases false e false k = let n = rw (e, k) at h in cc

weight_at_takes : (text : List ℕ) (w : ℕ) (rest : List ℕ) → weight_at text ≡ Some (w, rest) → (text ≡ digits 4 w ++ rest) × (w < 0x1_0000)
unfolding weight_at
weight_at_takes text w rest h =
    let found = map_some (λ (v : ℕ). (v, drop 4 text)) (weight_of (take 4 text)) (w, rest) h in
    let same : found.0 ≡ w = ap (λ (r : ℕ × List ℕ). r.0) found.2 in
    let tail : drop 4 text ≡ rest = ap (λ (r : ℕ × List ℕ). r.1) found.2 in
    let taken = weight_takes (take 4 text) w (found.1 ∙ ap Some same) in
    (sym (take-append-drop 4 text) ∙ (ap (λ z. z ++ drop 4 text) taken.0 ∙ ap (λ z. digits 4 w ++ z) tail), taken.1)

dotted_weight_takes : (text : List ℕ) (w : ℕ) (rest : List ℕ) → dotted_weight_at text ≡ Some (w, rest) → (text ≡ 46 ∷ (digits 4 w ++ rest)) × (w < 0x1_0000)
unfolding dotted_weight_at
dotted_weight_takes text w rest h =
    let dot = then_some (after_byte 46 text) _ (w, rest) h in
    let weight = weight_at_takes dot.0 w rest dot.2 in
    (after_byte_takes 46 text dot.0 dot.1 ∙ ap (λ z. 46 ∷ z) weight.0, weight.1)

-- ---- What is spelled so is read

weight_at-digits : (w : ℕ) (rest : List ℕ) → w < 0x1_0000 → weight_at (digits 4 w ++ rest) ≡ Some (w, rest)
unfolding weight_at
weight_at-digits w rest h =
    let four = length-digits 4 w in
    rw (take_at (digits 4 w) rest 4 four, drop_at (digits 4 w) rest 4 four, weight_of-digits w h) refl

mark_at-byte : (m : Bool) (rest : List ℕ) → mark_at (mark_byte m ∷ rest) ≡ Some (m, rest)
unfolding mark_at
mark_at-byte true rest = refl
mark_at-byte false rest = refl

-- the text of an element and what follows it, part by part
spelled_parts : (e : Element) (more : List ℕ) → element_text e
    ++ more ≡ 91 ∷ mark_byte e.mark ∷ (digits 4 e.primary ++ (46 ∷ (digits 4 e.secondary ++ (46 ∷ (digits 4 e.tertiary ++ (93 ∷ more))))))
unfolding element_text
spelled_parts e more = simp append_assoc

pub element_again : (text : List ℕ) (e : Element) (more : List ℕ) → BeginsElement text e more → element_at text ≡ Some (e, more)
unfolding element_at dotted_weight_at after_byte
element_again text e more h =
    let first = weight_at-digits e.primary (46 ∷ (digits 4 e.secondary ++ (46 ∷ (digits 4 e.tertiary ++ (93 ∷ more))))) h.fits.primary in
    let second = weight_at-digits e.secondary (46 ∷ (digits 4 e.tertiary ++ (93 ∷ more))) h.fits.secondary in
    let third = weight_at-digits e.tertiary (93 ∷ more) h.fits.tertiary in
    rw (h.parts, spelled_parts e more, mark_at-byte e.mark, first, second, third) refl

-- an element from its parts, in the order in which they are read
spelled_from : (t0 t1 t2 t3 t4 t5 t6 : List ℕ) (m : Bool) (p s t : ℕ) (e : Element) (more : List ℕ)
    → t0 ≡ 91 ∷ t1 → t1 ≡ mark_byte m ∷ t2
    → (t2 ≡ digits 4 p ++ t3) × (p < 0x1_0000)
    → (t3 ≡ 46 ∷ (digits 4 s ++ t4)) × (s < 0x1_0000)
    → (t4 ≡ 46 ∷ (digits 4 t ++ t5)) × (t < 0x1_0000) → t5 ≡ 93 ∷ t6
    → ◌≡◌ {A = Option (Element × List ℕ)} (Some (record { primary = p; secondary = s; tertiary = t; mark = m }, t6)) (Some (e, more))
    → BeginsElement t0 e more
spelled_from t0 t1 t2 t3 t4 t5 t6 m p s t e more h0 h1 h2 h3 h4 h5 h =
    let read : Element = record { primary = p; secondary = s; tertiary = t; mark = m } in
    let same = some_pair_parts read e t6 more h in
    let text_is : t0 ≡ element_text read ++ t6 = rw (h0, h1, h2.0, h3.0, h4.0, h5) (sym (spelled_parts read t6)) in
    let B : Element → Type 0 = λ f. BeginsElement t0 f more in
    subst B same.0 (record { parts = text_is ∙ ap (λ z. element_text read ++ z) same.1; fits = record { primary = h2.1; secondary = h3.1; tertiary = h4.1 } })

pub element_takes : (text : List ℕ) (e : Element) (more : List ℕ) → element_at text ≡ Some (e, more) → BeginsElement text e more
unfolding element_at
element_takes text e more h =
    let a = then_some (after_byte 91 text) _ (e, more) h in
    let b = then_some (mark_at a.0) _ (e, more) a.2 in
    let c = then_some (weight_at b.0.1) _ (e, more) b.2 in
    let d = then_some (dotted_weight_at c.0.1) _ (e, more) c.2 in
    let f = then_some (dotted_weight_at d.0.1) _ (e, more) d.2 in
    let g = then_some (after_byte 93 f.0.1) _ (e, more) f.2 in
    spelled_from text a.0 b.0.1 c.0.1 d.0.1 f.0.1 g.0 b.0.0 c.0.0 d.0.0 f.0.0 e more
    (after_byte_takes 91 text a.0 a.1) (mark_takes a.0 b.0.0 b.0.1 b.1)
    (weight_at_takes b.0.1 c.0.0 c.0.1 c.1)
    (dotted_weight_takes c.0.1 d.0.0 d.0.1 d.1)
    (dotted_weight_takes d.0.1 f.0.0 f.0.1 f.1) (after_byte_takes 93 f.0.1 g.0 g.1) g.2

-- ---- What follows

pub none_begins : (text : List ℕ) → None ≡ element_at text → (e : Element) (more : List ℕ) → BeginsElement text e more → ⊥
none_begins text h e more b = let k = h ∙ element_again text e more b in cc

not_empty : (e : Element) (more : List ℕ) → [] ≡ element_text e ++ more → ⊥
unfolding element_text
not_empty e more h = cc

pub exact_elements : IsExact BeginsElement
exact_elements = record {
  same = λ text x y a b h k. some_pair_parts x y a b (sym (element_again text x a h) ∙ element_again text y b k);
  some = λ x a h. not_empty x a h.parts;
}

-- an element is not empty
pub after_element : (text : List ℕ) (e : Element) (more : List ℕ) → BeginsElement text e more → length more < length text
unfolding element_text
after_element text e more h =
    grown 91 (mark_byte e.mark ∷ (digits 4 e.primary ++ 46 ∷ (digits 4 e.secondary ++ 46 ∷ (digits 4 e.tertiary ++ 93 ∷ [])))) more (ap length h.parts)
  where
    grown : (b : ℕ) (xs ys : List ℕ) → length text ≡ length (b ∷ xs ++ ys) → length ys < length text
    grown b xs ys k = omega (arith, k, length-append xs ys)

-- ---- Why some elements are rejected

-- the rest is not empty, and does not begin as an element does
pub line_cause : (text : List ℕ) (front : List Element) (rest : List ℕ) → Leads BeginsElement text front rest → false ≡ (length rest == 0)
    → opens rest ≡ false → length front ≤ 32 → ElementsCause text kinds.Line
line_cause text front [] h some o few = cc
line_cause text front (b ∷ bs) h some o few = inr (front, b ∷ bs, h, (λ e. cc), o, few)

pub weight_cause : (text : List ℕ) (front : List Element) (rest : List ℕ) → Leads BeginsElement text front rest → opens rest ≡ true
    → None ≡ element_at rest → length front ≤ 32 → ElementsCause text kinds.Weight
weight_cause text front rest h o n few = (front, rest, h, o, none_begins rest n, few)

pub limit_cause : (text : List ℕ) (front : List Element) (rest : List ℕ) (e : Element) (more : List ℕ) → Leads BeginsElement text front rest
    → 32 ≤ length front → BeginsElement rest e more → ElementsCause text kinds.Limit
limit_cause text front rest e more h l b =
    (front ++ e ∷ [], skip_blanks more, leads_push BeginsElement text front rest e more h b, omega (arith, length-append front (e ∷ [])))

-- there is none
pub none_cause : (text : List ℕ) (front : List Element) (rest : List ℕ) → Leads BeginsElement text front rest → (length rest == 0) ≡ true
    → length front ≡ 0 → ElementsCause text kinds.Line
none_cause text [] rest h none e = inl (h ∙ nil_from_length rest (eqb-true (length rest) 0 none))
none_cause text (x ∷ xs) rest h none e = absurd (omega (arith, e))

-- ---- All elements

-- a number that is not 0
pub some_of_test : (n : ℕ) → (n == 0) ≡ false → 1 ≤ n
some_of_test zero h = cc
some_of_test (suc n) h = omega arith

-- nothing is left of the text
pub all_elements : (text : List ℕ) (elements : List Element) (rest : List ℕ) → Leads BeginsElement text elements rest → length elements ≤ 32
    → (length rest == 0) ≡ true → 1 ≤ length elements → AreElements text elements
all_elements text elements rest h few none some = record {
  texts = subst (λ (r : List ℕ). Leads BeginsElement text elements r) (nil_from_length rest (eqb-true (length rest) 0 none)) h;
  some = some;
  few = few;
}
