-- What the lines of a file of changes say, and which line may follow.
use Rattle.std.proofs.Common.{◌≡◌, ◌⊎◌, inl, inr, ℕ, ◌<◌, ◌≤◌, Bool, true, false, bytes_eq, get_or, take, drop, take-append-drop, List, [], ◌∷◌, ◌++◌, length, map, codes, Result, Ok, Err, refl, sym, ap, subst, ◌∙◌, arith, append_assoc, append-nil, length-append}
use Rattle.std.specs.Prelude.{OnOk, IfErr}
use Rattle.std.specs.List.{flat_map, AllByRecursion}
use Rattle.std.proofs.lemmas.List.{map-append, take_at}
use Rattle.std.proofs.lemmas.Slice.Eq.{bytes_eq-Decides}
use Rattle.uca_weights.proofs.Lists.{each_push}
use Rattle.uca_values.specs.declared.CodePointRange.{CodePointRange}
use Rattle.uca_values.specs.declared.faults.FaultKind.{FaultKind}
use Rattle.uca_values.specs.declared.faults.FaultKind.TheVariants as kinds
use Rattle.uca_lines.specs.FileStops.{is_read_kind}
use Rattle.uca_table.specs.Canonical.{point_text}
use Rattle.std.specs.Char.{IsScalar}
use Rattle.uca_change_files.specs.Changes.{ChangeContent, Item, OfText, OfRange, IsItem, IsText, IsRange, IsChangeList, MayFollow, put_last}
use Rattle.uca_change_files.specs.ChangeTexts.{Said, Says, Cause, IsLine, HasScalars, header, spaced, text_line, range_line, item_line, change_lines, said_lines, nothing}
use Rattle.uca_change_files.specs.Steps.{AddsOne, Refuses, Takes, ArePoints, AreEnds, SpellsText, SpellsRange}
use Rattle.uca_change_files.proofs.Words.{points_same, ends_same}
use Rattle.uca_change_files.proofs.Orders.{list_more}

-- a read that failed is not the error of a line
pub not_read : (said : Said) (line : List ℕ) (kind : FaultKind) → Cause said line kind → is_read_kind kind ≡ false
not_read said line kind (inl h) = rw h.0 refl
not_read said line kind (inr (inl h)) = rw h.0 refl
not_read said line kind (inr (inr (inl h))) = rw h.0 refl
not_read said line kind (inr (inr (inr h))) = rw h.0 refl

-- nor is an error one
pub never_read : {X : Type 0} (said : Said) (line : List ℕ) (r : Result X FaultKind)
    → IfErr r (λ kind. (kind ≡ kinds.Memory) ⊎ Cause said line kind) → IfErr r (λ kind. is_read_kind kind ≡ false)
never_read said line (Ok x) h = tt
never_read said line (Err kind) (inl memory) = rw memory refl
never_read said line (Err kind) (inr cause) = not_read said line kind cause

-- ---- One line more

-- one item more is one line more
pub item_more : (content : ChangeContent) (item : Item) → MayFollow content item → change_lines (put_last item content) ≡ change_lines content ++ item_line item ∷ []
item_more content (OfText text) due =
    ap (λ ls. header ∷ ls) (rw (due.0, map-append text_line content.texts (text ∷ [])) (append-nil (map text_line content.texts ++ text_line text ∷ [])
    ∙ ap (λ ls. ls ++ text_line text ∷ []) (sym (append-nil (map text_line content.texts)))))
item_more content (OfRange r) due =
    ap (λ ls. header ∷ ls) (rw (map-append range_line content.ranges (r ∷ [])) (sym (append_assoc (map text_line content.texts) (map range_line content.ranges) (range_line r ∷ []))))

-- its code points are no surrogates
scalars_more : (content : ChangeContent) (item : Item) → AllByRecursion (AllByRecursion IsScalar) content.texts → HasScalars item
    → AllByRecursion (AllByRecursion IsScalar) (put_last item content).texts
scalars_more content (OfText text) h k = (each_push (AllByRecursion IsScalar) content.texts text).1 (h, k)
scalars_more content (OfRange r) h k = h

-- lines and one more say what is there with one item more
pub says_more : (lines : List (List ℕ)) (old : Said) (line : List ℕ) (new : Said) → Says lines old → Takes old line new → Says (lines ++ line ∷ []) new
says_more lines old line new says (inl takes) =
    let P : Said → Type 0 = Says (lines ++ line ∷ []) in
    let none : lines ≡ [] = says.text ∙ ap (λ b. said_lines b old.content) takes.0 in
    let empty : old.content ≡ nothing = says.none takes.0 in
    let here : Says (lines ++ line ∷ []) (record { started = true; content = old.content }) = record {
      text = rw (none, takes.1, empty) refl;
      list = says.list;
      scalars = says.scalars;
      none = λ e. absurd (cc);
    } in
    subst P (sym takes.2) here
says_more lines old line new says (inr takes) =
    let P : Said → Type 0 = Says (lines ++ line ∷ []) in
    let item = takes.2.0 in
    let is = takes.2.1 in
    let adds = takes.2.2 in
    record {
      text = rw (takes.1, adds.adds, says.text, takes.0, is.text) (sym (item_more old.content item adds.due));
      list = subst IsChangeList (sym adds.adds) (list_more old.content item says.list adds.fits adds.due adds.few);
      scalars = subst (λ (c : ChangeContent). AllByRecursion (AllByRecursion IsScalar) c.texts) (sym adds.adds) (scalars_more old.content item says.scalars is.scalars);
      none = λ e. absurd (let f : true ≡ false = sym takes.1 ∙ e in cc);
    }

-- ---- Items that are spelled

-- the line of a text
pub text_spelled : (line text : List ℕ) (points : List ℕ) → line ≡ codes "text" ++ text → ArePoints text points → IsText points → IsLine line (OfText points)
unfolding text_line
text_spelled line text points e h fits = record { text = e ∙ ap (λ t. codes "text" ++ t) h.spelled; fits = fits; scalars = h.scalars }

-- the line of a range
pub range_spelled : (line text : List ℕ) (r : CodePointRange) → line ≡ codes "range " ++ text → AreEnds text r → IsRange r → IsLine line (OfRange r)
unfolding range_line
range_spelled line text r e h fits = record { text = e ∙ ap (λ t. codes "range " ++ t) h.spelled; fits = fits; scalars = tt }

-- a list of code points that is spelled, and why it is not added
pub refuses_text : (text points : List ℕ) (content : ChangeContent) (kind : FaultKind) → ArePoints text points → Refuses (λ item. OfText points ≡ item) content kind
    → Refuses (SpellsText text) content kind
refuses_text text points content kind a (inl h) = inl (h.0, go)
  where
    go : (item : Item) → SpellsText text item → ¬ (IsItem item)
    go (OfText other) is fits = h.1 (OfText other) (ap OfText (points_same text points other a is)) fits
    go (OfRange r) is fits = is
refuses_text text points content kind a (inr (inl h)) =
    let P : Item → Type 0 = SpellsText text in inr (inl (h.0, (h.1.0, subst P h.1.1 a, h.1.2, h.1.3)))
refuses_text text points content kind a (inr (inr h)) =
    let P : Item → Type 0 = SpellsText text in inr (inr (h.0, (h.1.0, subst P h.1.1 a, h.1.2, h.1.3, h.1.4)))

-- and a range
pub refuses_range : (text : List ℕ) (r : CodePointRange) (content : ChangeContent) (kind : FaultKind) → AreEnds text r → Refuses (λ item. OfRange r ≡ item) content kind
    → Refuses (SpellsRange text) content kind
refuses_range text r content kind a (inl h) = inl (h.0, go)
  where
    go : (item : Item) → SpellsRange text item → ¬ (IsItem item)
    go (OfText other) is fits = is
    go (OfRange s) is fits = h.1 (OfRange s) (ap OfRange (ends_same text r s a is)) fits
refuses_range text r content kind a (inr (inl h)) =
    let P : Item → Type 0 = SpellsRange text in inr (inl (h.0, (h.1.0, subst P h.1.1 a, h.1.2, h.1.3)))
refuses_range text r content kind a (inr (inr h)) =
    let P : Item → Type 0 = SpellsRange text in inr (inr (h.0, (h.1.0, subst P h.1.1 a, h.1.2, h.1.3, h.1.4)))

-- an error that is returned for the items `Is` is one for `Other`, where each error for `Is` is one for `Other`
pub refuses_here : {X : Type 0} (Is Other : Item → Type 0) (content : ChangeContent) (r : Result X FaultKind)
    → ((kind : FaultKind) → Refuses Is content kind → Refuses Other content kind)
    → IfErr r (λ kind. (kind ≡ kinds.Memory) ⊎ Refuses Is content kind) → IfErr r (λ kind. (kind ≡ kinds.Memory) ⊎ Refuses Other content kind)
refuses_here Is Other content (Ok x) weaker h = tt
refuses_here Is Other content (Err kind) weaker (inl memory) = inl memory
refuses_here Is Other content (Err kind) weaker (inr h) = inr (weaker kind h)

-- ---- A line

-- what a text begins with
pub front_is : (line front : List ℕ) (b : Bool) → length front ≤ length line → b ≡ bytes_eq (take (length front) line) front → b ≡ true
    → line ≡ front ++ drop (length front) line
front_is line front b fits test is =
    let same = (bytes_eq-Decides (take (length front) line) front).0 (sym test ∙ is) in
    sym (take-append-drop (length front) line) ∙ ap (λ t. t ++ drop (length front) line) same

pub front_other : (line front : List ℕ) (b : Bool) → b ≡ bytes_eq (take (length front) line) front → b ≡ false → (rest : List ℕ) → ¬ (line ≡ front ++ rest)
front_other line front b test wrong rest e =
    let same : take (length front) line ≡ front = ap (take (length front)) e ∙ take_at front rest (length front) refl in
    let yes_ = (bytes_eq-Decides (take (length front) line) front).1 same in
    let both : true ≡ false = sym yes_ ∙ sym test ∙ wrong in cc

pub front_longer : (line front : List ℕ) → length line < length front → (rest : List ℕ) → ¬ (line ≡ front ++ rest)
front_longer line front short rest e = omega (arith, ap length e, length-append front rest)

-- of a line that begins so, what the item is
text_rest : (line rest points : List ℕ) → line ≡ codes "text" ++ rest → IsLine line (OfText points) → ArePoints rest points
unfolding text_line
text_rest line rest points e h =
    let both : codes "text" ++ rest ≡ codes "text" ++ flat_map spaced points = sym e ∙ h.text in
    record { spelled = cc; scalars = h.scalars }

range_rest : (line rest : List ℕ) (r : CodePointRange) → line ≡ codes "range " ++ rest → IsLine line (OfRange r) → AreEnds rest r
unfolding range_line
range_rest line rest r e h =
    let both : codes "range " ++ rest ≡ codes "range " ++ (point_text r.first ++ 46 ∷ 46 ∷ point_text r.last) = sym e ∙ h.text in
    record { spelled = cc; first = h.fits.first; last = h.fits.last }

no_range : (line rest : List ℕ) (r : CodePointRange) → line ≡ codes "text" ++ rest → ¬ (IsLine line (OfRange r))
unfolding range_line
no_range line rest r e h =
    let both : codes "text" ++ rest ≡ codes "range " ++ (point_text r.first ++ 46 ∷ 46 ∷ point_text r.last) = sym e ∙ h.text in
    let first : ◌≡◌ {A = ℕ} 116 114 = ap (λ (t : List ℕ). get_or t 0 0) both in omega arith

no_text : (line rest points : List ℕ) → line ≡ codes "range " ++ rest → ¬ (IsLine line (OfText points))
unfolding text_line
no_text line rest points e h =
    let both : codes "range " ++ rest ≡ codes "text" ++ flat_map spaced points = sym e ∙ h.text in
    let first : ◌≡◌ {A = ℕ} 114 116 = ap (λ (t : List ℕ). get_or t 0 0) both in omega arith

-- a line that begins neither way lists nothing
pub no_item : (line : List ℕ) → ((rest : List ℕ) → ¬ (line ≡ codes "text" ++ rest)) → ((rest : List ℕ) → ¬ (line ≡ codes "range " ++ rest)) → (item : Item)
    → ¬ (IsLine line item)
unfolding text_line range_line
no_item line text range (OfText points) h = text (flat_map spaced points) h.text
no_item line text range (OfRange r) h = range (point_text r.first ++ 46 ∷ 46 ∷ point_text r.last) h.text

-- and a line lists one item at most
pub item_same : (line : List ℕ) (a b : Item) → IsLine line a → IsLine line b → a ≡ b
unfolding text_line range_line
item_same line (OfText points) (OfText others) h k =
    let rest = flat_map spaced points in
    ap OfText (points_same rest points others (text_rest line rest points h.text h) (text_rest line rest others h.text k))
item_same line (OfText points) (OfRange r) h k = absurd (no_range line (flat_map spaced points) r h.text k)
item_same line (OfRange r) (OfText points) h k = absurd (no_range line (flat_map spaced points) r k.text h)
item_same line (OfRange r) (OfRange s) h k =
    let rest = point_text r.first ++ 46 ∷ 46 ∷ point_text r.last in
    ap OfRange (ends_same rest r s (range_rest line rest r h.text h) (range_rest line rest s h.text k))

-- the line of a text, or of a range
abbrev pub LineOf : (List ℕ → Item → Type 0) → List ℕ → List ℕ → Type 0
LineOf Spells line rest = (item : Item) → (Spells rest item → IsItem item → IsLine line item) × (IsLine line item → Spells rest item)

pub line_of_text : (line rest : List ℕ) → line ≡ codes "text" ++ rest → LineOf SpellsText line rest
line_of_text line rest e (OfText points) = (λ h fits. text_spelled line rest points e h fits, λ h. text_rest line rest points e h)
line_of_text line rest e (OfRange r) = (λ h fits. absurd h, λ h. no_range line rest r e h)

pub line_of_range : (line rest : List ℕ) → line ≡ codes "range " ++ rest → LineOf SpellsRange line rest
line_of_range line rest e (OfText points) = (λ h fits. absurd h, λ h. no_text line rest points e h)
line_of_range line rest e (OfRange r) = (λ h fits. range_spelled line rest r e h fits, λ h. range_rest line rest r e h)

-- an item that is added is taken with its line
pub line_takes : {X : Type 0} (Spells : List ℕ → Item → Type 0) (line rest : List ℕ) (started : Bool) (old new : ChangeContent) (r : Result X FaultKind)
    → LineOf Spells line rest → started ≡ true → OnOk r (AddsOne (Spells rest) old new)
    → OnOk r (Takes (record { started = started; content = old }) line (record { started = started; content = new }))
line_takes Spells line rest started old new (Err kind) is e h = tt
line_takes Spells line rest started old new (Ok x) is e h = inr (e, e, (h.0, (is h.0).0 h.1 h.2.fits, h.2))

-- and why it is not
pub line_refused : {X : Type 0} (Spells : List ℕ → Item → Type 0) (line rest : List ℕ) (started : Bool) (old : ChangeContent) (r : Result X FaultKind)
    → LineOf Spells line rest → started ≡ true → IfErr r (λ kind. (kind ≡ kinds.Memory) ⊎ Refuses (Spells rest) old kind)
    → IfErr r (λ kind. (kind ≡ kinds.Memory) ⊎ Cause (record { started = started; content = old }) line kind)
line_refused Spells line rest started old (Ok x) is e h = tt
line_refused Spells line rest started old (Err kind) is e (inl memory) = inl memory
line_refused Spells line rest started old (Err kind) is e (inr (inl h)) =
    inr (inr (inl (h.0, e, λ item line_is. h.1 item ((is item).1 line_is) line_is.fits)))
line_refused Spells line rest started old (Err kind) is e (inr (inr (inl h))) =
    inr (inr (inr (inl (h.0, e, (h.1.0, (is h.1.0).0 h.1.1 h.1.2, h.1.3)))))
line_refused Spells line rest started old (Err kind) is e (inr (inr (inr h))) =
    inr (inr (inr (inr (h.0, e, (h.1.0, (is h.1.0).0 h.1.1 h.1.2, h.1.3, h.1.4)))))
