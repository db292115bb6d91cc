-- Lines say one book at most, and a line with a cause is part of no such lines.
use Rattle.std.proofs.Common.{◌≡◌, ◌⊎◌, inl, inr, ℕ, Bool, true, false, List, [], ◌∷◌, ◌++◌, refl, sym, ap, subst, ◌∙◌, arith}
use Rattle.std.proofs.lemmas.List.{same_from_push}
use Rattle.uca_weights.proofs.Lists.{not_nil, by_last}
use Rattle.uca_values.specs.declared.faults.FaultKind.{FaultKind}
use Rattle.uca_lines.specs.FileMeanings.{IsExact, IsExactByLine}
use Rattle.uca_lines.proofs.ByLine.{exact_by_line}
use Rattle.uca_books.specs.Books.{BookContent, Start, Letter, Variable, IsBook, MayFollow, IsFull, put_last}
use Rattle.uca_books.specs.BookTexts.{Said, Says, Cause, header, book_lines, line_of, said_lines, nothing}
use Rattle.uca_books.specs.inside.Steps.{Takes}
use Rattle.uca_books.proofs.Orders.{IsLess, letter_less, variable_less}
use Rattle.uca_books.proofs.LineLaws.{line_more, line_names, start_same}

-- ---- The last start

-- a book has a last start
record HasLast (book : BookContent) : Type 0 where
  less : BookContent
  start : Start
  is : book ≡ put_last start less
  parts : IsLess less start

-- without starts of level 4 it is empty, or has a last one of level 1
by_letter : (book : BookContent) → IsBook book → book.variables ≡ [] → (book ≡ nothing) ⊎ HasLast book
by_letter book h no_variables = cases (by_last book.letters)
  where
    cases : (book.letters ≡ []) ⊎ ((front : List ℕ) × (last : ℕ) × (book.letters ≡ front ++ last ∷ [])) → (book ≡ nothing) ⊎ HasLast book
    cases (inl no_letters) = inl (λ i. record { letters = no_letters i; variables = no_variables i })
    cases (inr some) =
        let less : BookContent = record { letters = some.0; variables = [] } in
        let is : book ≡ put_last (Letter some.1) less = λ i. record { letters = some.2 i; variables = no_variables i } in
        inr (record { less = less; start = Letter some.1; is = is; parts = letter_less less some.1 refl (subst IsBook is h) })

-- with such starts one of them is the last
has_last : (book : BookContent) → IsBook book → (book ≡ nothing) ⊎ HasLast book
has_last book h = cases (by_last book.variables)
  where
    cases : (book.variables ≡ []) ⊎ ((front : List ℕ) × (last : ℕ) × (book.variables ≡ front ++ last ∷ [])) → (book ≡ nothing) ⊎ HasLast book
    cases (inl no_variables) = by_letter book h no_variables
    cases (inr some) =
        let less : BookContent = record { letters = book.letters; variables = some.0 } in
        let is : book ≡ put_last (Variable some.1) less = λ i. record { letters = book.letters; variables = some.2 i } in
        inr (record { less = less; start = Variable some.1; is = is; parts = variable_less less some.1 (subst IsBook is h) })

-- ---- The last line

record TakenLast (before : List (List ℕ)) (line : List ℕ) (t : Said) : Type 0 where
  s : Said
  says : Says before s
  takes : Takes s line t

-- the book of one cell a level
pub nothing_book : IsBook nothing
nothing_book = record {
  letters = record { rise = tt; fit = tt; few = omega arith };
  variables = record { rise = tt; fit = tt; few = omega arith };
}

-- the last of some lines is the header, or lists the last start
taken_last : (before : List (List ℕ)) (line : List ℕ) (t : Said) → Says (before ++ line ∷ []) t → TakenLast before line t
taken_last before line t h = by_start t.started refl
  where
    by_content : t.started ≡ true → before ++ line ∷ [] ≡ book_lines t.content → (t.content ≡ nothing) ⊎ HasLast t.content → TakenLast before line t
    by_content started whole (inl none) =
        let same = same_from_push before [] line header (whole ∙ ap book_lines none) in
        record {
          s = record { started = false; content = nothing };
          says = record { text = same.0; book = nothing_book; none = λ e. refl };
          takes = inl (refl, same.1, λ i. record { started = started i; content = none i });
        }
    by_content started whole (inr last) =
        let parts = last.parts in
        let same = same_from_push before (book_lines last.less) line (line_of last.start)
        (whole ∙ ap book_lines last.is ∙ line_more last.less last.start parts.due) in
        record {
          s = record { started = true; content = last.less };
          says = record { text = same.0; book = parts.book; none = λ e. absurd (cc) };
          takes = inr (
            refl,
            started,
            (
              last.start,
              record { text = same.1; fits = parts.fits },
              record { fits = parts.fits; due = parts.due; room = parts.room; adds = last.is },
            ),
          );
        }

    by_start : (b : Bool) → t.started ≡ b → TakenLast before line t
    by_start false e = absurd (not_nil before line [] (sym (h.text ∙ ap (λ b. said_lines b t.content) e)))
    by_start true e = by_content e (h.text ∙ ap (λ b. said_lines b t.content) e) (has_last t.content h.book)

-- ---- The laws

-- no lines say nothing
nothing_said : (s : Said) → Says [] s → s ≡ record { started = false; content = nothing }
nothing_said s h = by_start s.started refl
  where
    by_start : (b : Bool) → s.started ≡ b → s ≡ record { started = false; content = nothing }
    by_start false e = let none = h.none e in λ i. record { started = e i; content = none i }
    by_start true e = absurd (let whole : [] ≡ book_lines s.content = h.text ∙ ap (λ b. said_lines b s.content) e in cc)

-- a line is taken in one way
taken_once : (s : Said) (line : List ℕ) (t u : Said) → Takes s line t → Takes s line u → t ≡ u
taken_once s line t u (inl h) (inl k) = h.2 ∙ sym k.2
taken_once s line t u (inl h) (inr k) = absurd (let e : false ≡ true = sym h.0 ∙ k.0 in cc)
taken_once s line t u (inr h) (inl k) = absurd (let e : true ≡ false = sym h.0 ∙ k.0 in cc)
taken_once s line t u (inr h) (inr k) =
    let start : h.2.0 ≡ k.2.0 = start_same line h.2.0 k.2.0 h.2.1 k.2.1 in
    let content : t.content ≡ u.content = h.2.2.adds ∙ ap (λ i. put_last i s.content) start ∙ sym k.2.2.adds in
    let started : t.started ≡ u.started = h.1 ∙ sym k.1 in
    λ i. record { started = started i; content = content i }

-- a line with a cause is not taken
barred : (s : Said) (line : List ℕ) (kind : FaultKind) (t : Said) → Cause s line kind → Takes s line t → ⊥
barred s line kind t (inl c) (inl h) = c.2 h.1
barred s line kind t (inl c) (inr h) = let e : false ≡ true = sym c.1 ∙ h.0 in cc
barred s line kind t (inr (inl c)) (inl h) = let e : true ≡ false = sym c.1 ∙ h.0 in cc
barred s line kind t (inr (inl c)) (inr h) = c.2 (line_names line h.2.0 h.2.1)
barred s line kind t (inr (inr (inl c))) (inl h) = let e : true ≡ false = sym c.1 ∙ h.0 in cc
barred s line kind t (inr (inr (inl c))) (inr h) = c.3 h.2.0 h.2.1
barred s line kind t (inr (inr (inr (inl c)))) (inl h) = let e : true ≡ false = sym c.1 ∙ h.0 in cc
barred s line kind t (inr (inr (inr (inl c)))) (inr h) =
    let same : h.2.0 ≡ c.2.0 = start_same line h.2.0 c.2.0 h.2.1 c.2.1 in
    c.2.2 (subst (λ (i : Start). MayFollow s.content i) same h.2.2.due)
barred s line kind t (inr (inr (inr (inr c)))) (inl h) = let e : true ≡ false = sym c.1 ∙ h.0 in cc
barred s line kind t (inr (inr (inr (inr c)))) (inr h) =
    let same : c.2.0 ≡ h.2.0 = start_same line c.2.0 h.2.0 c.2.1 h.2.1 in
    h.2.2.room (subst (λ (i : Start). IsFull s.content i) same c.2.3)

by_line : IsExactByLine Says Takes Cause
by_line = record {
  start = λ s t h k. nothing_said s h ∙ sym (nothing_said t k);
  last = λ before line t h. (let l = taken_last before line t h in (l.s, l.says, l.takes));
  one = taken_once;
  barred = barred;
}

pub exact : IsExact Says Cause
exact = exact_by_line Says Takes Cause by_line
