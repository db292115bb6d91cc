-- What the lines of a book say, and which line may follow.
use Rattle.std.proofs.Common.{◌≡◌, ◌⊎◌, inl, inr, ℕ, ◌<◌, Bool, true, false, get_or, List, [], ◌∷◌, ◌++◌, map, Some, None, Result, Ok, Err, refl, sym, ap, subst, ◌∙◌, arith, append_assoc, append-nil}
use Rattle.std.specs.Prelude.{OnOk, IfErr}
use Rattle.std.proofs.lemmas.List.{map-append}
use Rattle.std.proofs.lemmas.Option.{same_Some}
use Rattle.uca_values.specs.declared.faults.FaultKind.{FaultKind}
use Rattle.uca_values.specs.declared.faults.FaultKind.TheVariants as kinds
use Rattle.uca_lines.specs.FileStops.{is_read_kind}
use Rattle.uca_lines.specs.Numbers.{digits, weight_of}
use Rattle.uca_lines.proofs.DigitLemmas.{weight_takes, weight_of-digits}
use Rattle.uca_books.specs.Books.{BookContent, Start, Letter, Variable, IsStart, IsBook, MayFollow, put_last, Adds, Refuses}
use Rattle.uca_books.specs.BookTexts.{Said, Says, Cause, IsLine, NamesLevel, header, start_line, line_of, book_lines, said_lines, nothing}
use Rattle.uca_books.specs.inside.Steps.{AddsSpelled, RefusesSpelled, Takes}
use Rattle.uca_books.proofs.Orders.{book_more}

-- a read that failed is not the error of a line
not_read : (said : Said) (line : List ℕ) (kind : FaultKind) → Cause said line kind → is_read_kind kind ≡ false
not_read said line kind (inl h) = rw h.0 refl
not_read said line kind (inr (inl h)) = rw h.0 refl
not_read said line kind (inr (inr (inl h))) = rw h.0 refl
not_read said line kind (inr (inr (inr (inl h)))) = rw h.0 refl
not_read said line kind (inr (inr (inr (inr h)))) = rw h.0 refl

-- nor is an error one
pub never_read : {X : Type 0} (said : Said) (line : List ℕ) (r : Result X FaultKind)
    → IfErr r (λ kind. (kind ≡ kinds.Memory) ⊎ Cause said line kind) → IfErr r (λ kind. is_read_kind kind ≡ false)
never_read said line (Ok x) h = tt
never_read said line (Err kind) (inl memory) = rw memory refl
never_read said line (Err kind) (inr cause) = not_read said line kind cause

-- ---- One line more

-- one start more is one line more
pub line_more : (book : BookContent) (start : Start) → MayFollow book start → book_lines (put_last start book) ≡ book_lines book ++ line_of start ∷ []
line_more book (Letter w) due =
    ap (λ ls. header ∷ ls) (rw (due.0, map-append (start_line 49) book.letters (w ∷ [])) (append-nil (map (start_line 49) book.letters ++ start_line 49 w ∷ [])
    ∙ ap (λ ls. ls ++ start_line 49 w ∷ []) (sym (append-nil (map (start_line 49) book.letters)))))
line_more book (Variable w) due =
    ap (λ ls. header ∷ ls) (rw (map-append (start_line 52) book.variables (w ∷ []))
    (sym (append_assoc (map (start_line 49) book.letters) (map (start_line 52) book.variables) (start_line 52 w ∷ []))))

-- lines and one more say what is there with one start more
pub says_more : (lines : List (List ℕ)) (old : Said) (line : List ℕ) (new : Said) → Says lines old → Takes old line new → Says (lines ++ line ∷ []) new
says_more lines old line new says (inl takes) =
    let P : Said → Type 0 = Says (lines ++ line ∷ []) in
    let none : lines ≡ [] = says.text ∙ ap (λ b. said_lines b old.content) takes.0 in
    let empty : old.content ≡ nothing = says.none takes.0 in
    let here : Says (lines ++ line ∷ []) (record { started = true; content = old.content }) = record {
      text = rw (none, takes.1, empty) refl;
      book = says.book;
      none = λ e. absurd (cc);
    } in
    subst P (sym takes.2) here
says_more lines old line new says (inr takes) =
    let start = takes.2.0 in
    let is = takes.2.1 in
    let adds = takes.2.2 in
    record {
      text = rw (takes.1, adds.adds, says.text, takes.0, is.text) (sym (line_more old.content start adds.due));
      book = subst IsBook (sym adds.adds) (book_more old.content start says.book adds.fits adds.due adds.room);
      none = λ e. absurd (let f : true ≡ false = sym takes.1 ∙ e in cc);
    }

-- ---- Weights that are spelled

-- starts have numbers of 16 bits
pub small_letter : (w : ℕ) → IsStart (Letter w) → w < 0x1_0000
small_letter w h = omega (arith, h.1)

pub small_variable : (w : ℕ) → IsStart (Variable w) → w < 0x1_0000
small_variable w h = omega (arith, h.1)

-- digits spell one of these
pub digits_same : (text : List ℕ) (v w : ℕ) → v < 0x1_0000 → w < 0x1_0000 → text ≡ digits 4 v → text ≡ digits 4 w → v ≡ w
digits_same text v w hv hw e f = same_Some v w (sym (ap weight_of e ∙ weight_of-digits v hv) ∙ (ap weight_of f ∙ weight_of-digits w hw))

-- the start that is spelled is added
pub spelled_added : {X : Type 0} (start : ℕ → Start) (text : List ℕ) (w : ℕ) (old new : BookContent) (r : Result X FaultKind) → Some w ≡ weight_of text
    → OnOk r (Adds old (start w) new) → OnOk r (AddsSpelled start text old new)
spelled_added start text w old new (Err kind) read h = tt
spelled_added start text w old new (Ok x) read h = (w, (weight_takes text w (sym read)).0, h)

-- or why it is not
pub spelled_refused : {X : Type 0} (start : ℕ → Start) → ((v : ℕ) → IsStart (start v) → v < 0x1_0000) → (text : List ℕ) (w : ℕ) (book : BookContent)
    (r : Result X FaultKind) → Some w ≡ weight_of text → IfErr r (λ kind. (kind ≡ kinds.Memory) ⊎ Refuses book (start w) kind)
    → IfErr r (λ kind. (kind ≡ kinds.Memory) ⊎ RefusesSpelled start text book kind)
spelled_refused start small text w book (Ok x) read h = tt
spelled_refused start small text w book (Err kind) read (inl memory) = inl memory
spelled_refused start small text w book (Err kind) read (inr (inl h)) =
    let taken = weight_takes text w (sym read) in
    inr (inl (h.0, λ v e fits. h.1 (subst (λ (x : ℕ). IsStart (start x)) (digits_same text v w (small v fits) taken.1 e taken.0) fits)))
spelled_refused start small text w book (Err kind) read (inr (inr (inl h))) =
    inr (inr (inl (h.0, (w, (weight_takes text w (sym read)).0, h.1, h.2))))
spelled_refused start small text w book (Err kind) read (inr (inr (inr h))) =
    inr (inr (inr (h.0, (w, (weight_takes text w (sym read)).0, h.1, h.2, h.3))))

-- no start is spelled
pub none_spelled : (start : ℕ → Start) → ((v : ℕ) → IsStart (start v) → v < 0x1_0000) → (text : List ℕ) → None ≡ weight_of text
    → (v : ℕ) → text ≡ digits 4 v → ¬ (IsStart (start v))
none_spelled start small text read v e fits = let both : None ≡ Some v = read ∙ ap weight_of e ∙ weight_of-digits v (small v fits) in cc

-- ---- A line

-- what follows the level and the space of a line is the digits of a start
pub record NamedBy (start : ℕ → Start) (line rest : List ℕ) : Type 0 where
  pub names : NamesLevel line
  pub here : (w : ℕ) → rest ≡ digits 4 w → IsStart (start w) → IsLine line (start w)
  pub only : (s : Start) → IsLine line s → (w : ℕ) × (s ≡ start w) × (rest ≡ digits 4 w)

pub named_letter : (line rest : List ℕ) → line ≡ 49 ∷ 32 ∷ rest → NamedBy Letter line rest
unfolding start_line
named_letter line rest e = record {
  names = (rest, inl e);
  here = λ w is fits. record { text = e ∙ ap (λ t. 49 ∷ 32 ∷ t) is; fits = fits };
  only = only;
}
  where
    only : (s : Start) → IsLine line s → (w : ℕ) × (s ≡ Letter w) × (rest ≡ digits 4 w)
    only (Letter w) h = (w, refl, (let both : 49 ∷ 32 ∷ rest ≡ 49 ∷ 32 ∷ digits 4 w = sym e ∙ h.text in cc))
    only (Variable w) h = absurd (
        let both : 49 ∷ 32 ∷ rest ≡ 52 ∷ 32 ∷ digits 4 w = sym e ∙ h.text in
        let first : ◌≡◌ {A = ℕ} 49 52 = ap (λ (t : List ℕ). get_or t 0 0) both in omega arith
        )

pub named_variable : (line rest : List ℕ) → line ≡ 52 ∷ 32 ∷ rest → NamedBy Variable line rest
unfolding start_line
named_variable line rest e = record {
  names = (rest, inr e);
  here = λ w is fits. record { text = e ∙ ap (λ t. 52 ∷ 32 ∷ t) is; fits = fits };
  only = only;
}
  where
    only : (s : Start) → IsLine line s → (w : ℕ) × (s ≡ Variable w) × (rest ≡ digits 4 w)
    only (Variable w) h = (w, refl, (let both : 52 ∷ 32 ∷ rest ≡ 52 ∷ 32 ∷ digits 4 w = sym e ∙ h.text in cc))
    only (Letter w) h = absurd (
        let both : 52 ∷ 32 ∷ rest ≡ 49 ∷ 32 ∷ digits 4 w = sym e ∙ h.text in
        let first : ◌≡◌ {A = ℕ} 52 49 = ap (λ (t : List ℕ). get_or t 0 0) both in omega arith
        )

-- a line that lists a start names its level
pub line_names : (line : List ℕ) (start : Start) → IsLine line start → NamesLevel line
unfolding start_line
line_names line (Letter w) h = (digits 4 w, inl h.text)
line_names line (Variable w) h = (digits 4 w, inr h.text)

-- a line that begins with neither level names none
pub no_level : (line : List ℕ) → ((rest : List ℕ) → ¬ (line ≡ 49 ∷ 32 ∷ rest)) → ((rest : List ℕ) → ¬ (line ≡ 52 ∷ 32 ∷ rest)) → ¬ (NamesLevel line)
no_level line letter variable (rest, inl e) = letter rest e
no_level line letter variable (rest, inr e) = variable rest e

-- a line lists one start at most
pub start_same : (line : List ℕ) (a b : Start) → IsLine line a → IsLine line b → a ≡ b
unfolding start_line
start_same line (Letter v) b h k =
    let o = (named_letter line (digits 4 v) h.text).only b k in
    let small = small_letter o.0 (subst IsStart o.1 k.fits) in
    ap Letter (digits_same (digits 4 v) v o.0 (small_letter v h.fits) small refl o.2) ∙ sym o.1
start_same line (Variable v) b h k =
    let o = (named_variable line (digits 4 v) h.text).only b k in
    let small = small_variable o.0 (subst IsStart o.1 k.fits) in
    ap Variable (digits_same (digits 4 v) v o.0 (small_variable v h.fits) small refl o.2) ∙ sym o.1

-- a start that is added is taken with its line
pub line_takes : {X : Type 0} (start : ℕ → Start) (line rest : List ℕ) (started : Bool) (old new : BookContent) (r : Result X FaultKind)
    → NamedBy start line rest → started ≡ true → OnOk r (AddsSpelled start rest old new)
    → OnOk r (Takes (record { started = started; content = old }) line (record { started = started; content = new }))
line_takes start line rest started old new (Err kind) is e h = tt
line_takes start line rest started old new (Ok x) is e h = inr (e, e, (start h.0, is.here h.0 h.1 h.2.fits, h.2))

-- and why it is not
pub line_refused : {X : Type 0} (start : ℕ → Start) (line rest : List ℕ) (started : Bool) (old : BookContent) (r : Result X FaultKind)
    → NamedBy start line rest → started ≡ true → IfErr r (λ kind. (kind ≡ kinds.Memory) ⊎ RefusesSpelled start rest old kind)
    → IfErr r (λ kind. (kind ≡ kinds.Memory) ⊎ Cause (record { started = started; content = old }) line kind)
line_refused start line rest started old (Ok x) is e h = tt
line_refused start line rest started old (Err kind) is e (inl memory) = inl memory
line_refused start line rest started old (Err kind) is e (inr (inl h)) =
    inr (inr (inr (inl (
      h.0,
      e,
      is.names,
      λ s line_is. (
          let o = is.only s line_is in h.1 o.0 o.2 (subst IsStart o.1 line_is.fits)
          ),
    ))))
line_refused start line rest started old (Err kind) is e (inr (inr (inl h))) =
    inr (inr (inr (inr (inl (h.0, e, (start h.1.0, is.here h.1.0 h.1.1 h.1.2, h.1.3))))))
line_refused start line rest started old (Err kind) is e (inr (inr (inr h))) =
    inr (inr (inr (inr (inr (h.0, e, (start h.1.0, is.here h.1.0 h.1.1 h.1.2, h.1.3, h.1.4))))))
