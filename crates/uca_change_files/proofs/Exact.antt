-- Lines say one list of changes at most, and a line with a cause is part of no such lines.
use Rattle.std.proofs.Common.{◌≡◌, ◌⊎◌, inl, inr, ℕ, Bool, true, false, List, [], ◌∷◌, ◌++◌, refl, sym, ap, subst, ◌∙◌, arith}
use Rattle.std.proofs.lemmas.List.{same_from_push}
use Rattle.uca_weights.proofs.Lists.{not_nil, by_last}
use Rattle.uca_values.specs.declared.CodePointRange.{CodePointRange}
use Rattle.uca_values.specs.declared.faults.FaultKind.{FaultKind}
use Rattle.uca_lines.specs.FileMeanings.{IsExact, IsExactByLine}
use Rattle.uca_lines.proofs.ByLine.{exact_by_line}
use Rattle.uca_weights.proofs.Lists.{each_push}
use Rattle.std.specs.Char.{IsScalar}
use Rattle.std.specs.List.{AllByRecursion}
use Rattle.uca_change_files.specs.Changes.{ChangeContent, Item, OfText, OfRange, IsChangeList, MayFollow, put_last}
use Rattle.uca_change_files.specs.ChangeTexts.{Said, Says, Cause, AreScalars, HasScalars, header, change_lines, item_line, said_lines, nothing}
use Rattle.uca_change_files.specs.Steps.{Takes}
use Rattle.uca_change_files.proofs.Orders.{IsLess, text_less, range_less}
use Rattle.uca_change_files.proofs.LineLaws.{item_more, item_same}

-- ---- The last item

-- a list of changes has a last item
record HasLast (content : ChangeContent) : Type 0 where
  less : ChangeContent
  item : Item
  is : content ≡ put_last item less
  parts : IsLess less item
  scalars : AreScalars less.texts
  item_scalars : HasScalars item

-- without ranges it is empty, or a text is the last
by_text : (content : ChangeContent) → IsChangeList content → AreScalars content.texts → content.ranges ≡ [] → (content ≡ nothing) ⊎ HasLast content
by_text content h scalars no_ranges = cases (by_last content.texts)
  where
    cases : (content.texts ≡ []) ⊎ ((front : List (List ℕ)) × (last : List ℕ) × (content.texts ≡ front ++ last ∷ [])) → (content ≡ nothing) ⊎ HasLast content
    cases (inl no_texts) = inl (λ i. record { texts = no_texts i; ranges = no_ranges i })
    cases (inr some) =
        let less : ChangeContent = record { texts = some.0; ranges = [] } in
        let is : content ≡ put_last (OfText some.1) less = λ i. record { texts = some.2 i; ranges = no_ranges i } in
        let each = (each_push (AllByRecursion IsScalar) some.0 some.1).0 (subst AreScalars some.2 scalars) in
        inr (record {
          less = less;
          item = OfText some.1;
          is = is;
          parts = text_less less some.1 refl (subst IsChangeList is h);
          scalars = each.0;
          item_scalars = each.1;
        })

-- with ranges a range is the last
has_last : (content : ChangeContent) → IsChangeList content → AreScalars content.texts → (content ≡ nothing) ⊎ HasLast content
has_last content h scalars = cases (by_last content.ranges)
  where
    cases : (content.ranges ≡ []) ⊎ ((front : List CodePointRange) × (last : CodePointRange) × (content.ranges ≡ front ++ last ∷ []))
        → (content ≡ nothing) ⊎ HasLast content
    cases (inl no_ranges) = by_text content h scalars no_ranges
    cases (inr some) =
        let less : ChangeContent = record { texts = content.texts; ranges = some.0 } in
        let is : content ≡ put_last (OfRange some.1) less = λ i. record { texts = content.texts; ranges = some.2 i } in
        inr (record {
          less = less;
          item = OfRange some.1;
          is = is;
          parts = range_less less some.1 (subst IsChangeList is h);
          scalars = scalars;
          item_scalars = tt;
        })

-- ---- The last line

record TakenLast (before : List (List ℕ)) (line : List ℕ) (t : Said) : Type 0 where
  s : Said
  says : Says before s
  takes : Takes s line t

-- the last of some lines is the header, or lists the last item
taken_last : (before : List (List ℕ)) (line : List ℕ) (t : Said) → Says (before ++ line ∷ []) t → TakenLast before line t
taken_last before line t h = by_start t.started refl
  where
    by_content : t.started ≡ true → before ++ line ∷ [] ≡ change_lines t.content → (t.content ≡ nothing) ⊎ HasLast t.content → TakenLast before line t
    by_content started whole (inl none) =
        let same = same_from_push before [] line header (whole ∙ ap change_lines none) in
        record {
          s = record { started = false; content = nothing };
          says = record {
            text = same.0;
            list = record { texts = tt; ranges = tt; texts_rise = tt; ranges_rise = tt; few = omega arith };
            scalars = tt;
            none = λ e. refl;
          };
          takes = inl (refl, same.1, λ i. record { started = started i; content = none i });
        }
    by_content started whole (inr last) =
        let parts = last.parts in
        let same = same_from_push before (change_lines last.less) line (item_line last.item)
        (whole ∙ ap change_lines last.is ∙ item_more last.less last.item parts.due) in
        record {
          s = record { started = true; content = last.less };
          says = record { text = same.0; list = parts.list; scalars = last.scalars; none = λ e. absurd (cc) };
          takes = inr (
            refl,
            started,
            (
              last.item,
              record { text = same.1; fits = parts.fits; scalars = last.item_scalars },
              record { fits = parts.fits; due = parts.due; few = parts.few; adds = last.is },
            ),
          );
        }

    by_start : (b : Bool) → t.started ≡ b → TakenLast before line t
    by_start false e = absurd (not_nil before line [] (sym (h.text ∙ ap (λ b. said_lines b t.content) e)))
    by_start true e = by_content e (h.text ∙ ap (λ b. said_lines b t.content) e) (has_last t.content h.list h.scalars)

-- ---- The laws

-- no lines say nothing
nothing_said : (s : Said) → Says [] s → s ≡ record { started = false; content = nothing }
nothing_said s h = by_start s.started refl
  where
    by_start : (b : Bool) → s.started ≡ b → s ≡ record { started = false; content = nothing }
    by_start false e = let none = h.none e in λ i. record { started = e i; content = none i }
    by_start true e = absurd (let whole : [] ≡ change_lines s.content = h.text ∙ ap (λ b. said_lines b s.content) e in cc)

-- a line is taken in one way
taken_once : (s : Said) (line : List ℕ) (t u : Said) → Takes s line t → Takes s line u → t ≡ u
taken_once s line t u (inl h) (inl k) = h.2 ∙ sym k.2
taken_once s line t u (inl h) (inr k) = absurd (let e : false ≡ true = sym h.0 ∙ k.0 in cc)
taken_once s line t u (inr h) (inl k) = absurd (let e : true ≡ false = sym h.0 ∙ k.0 in cc)
taken_once s line t u (inr h) (inr k) =
    let item : h.2.0 ≡ k.2.0 = item_same line h.2.0 k.2.0 h.2.1 k.2.1 in
    let content : t.content ≡ u.content = h.2.2.adds ∙ ap (λ i. put_last i s.content) item ∙ sym k.2.2.adds in
    let started : t.started ≡ u.started = h.1 ∙ sym k.1 in
    λ i. record { started = started i; content = content i }

-- a line with a cause is not taken
barred : (s : Said) (line : List ℕ) (kind : FaultKind) (t : Said) → Cause s line kind → Takes s line t → ⊥
barred s line kind t (inl c) (inl h) = c.2 h.1
barred s line kind t (inl c) (inr h) = let e : false ≡ true = sym c.1 ∙ h.0 in cc
barred s line kind t (inr (inl c)) (inl h) = let e : true ≡ false = sym c.1 ∙ h.0 in cc
barred s line kind t (inr (inl c)) (inr h) = c.2 h.2.0 h.2.1
barred s line kind t (inr (inr (inl c))) (inl h) = let e : true ≡ false = sym c.1 ∙ h.0 in cc
barred s line kind t (inr (inr (inl c))) (inr h) =
    let same : h.2.0 ≡ c.2.0 = item_same line h.2.0 c.2.0 h.2.1 c.2.1 in
    c.2.2 (subst (λ (i : Item). MayFollow s.content i) same h.2.2.due)
barred s line kind t (inr (inr (inr c))) (inl h) = let e : true ≡ false = sym c.1 ∙ h.0 in cc
barred s line kind t (inr (inr (inr c))) (inr h) = omega (arith, c.2.3, h.2.2.few)

by_line : IsExactByLine Says Takes Cause
by_line = record {
  start = λ s t h k. nothing_said s h ∙ sym (nothing_said t k);
  last = λ before line t h. (let l = taken_last before line t h in (l.s, l.says, l.takes));
  one = taken_once;
  barred = barred;
}

pub exact : IsExact Says Cause
exact = exact_by_line Says Takes Cause by_line
