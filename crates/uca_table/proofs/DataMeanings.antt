-- The lines of a data file say one thing, and a line with a cause is part of no data file.
use Rattle.std.proofs.Common.{◌≡◌, ◌⊎◌, inl, inr, ℕ, ◌<◌, ◌≤◌, Bool, true, false, List, [], ◌∷◌, ◌++◌, codes, Result, Ok, Err, refl, sym, ap, ◌∙◌, subst, arith, append_assoc, append-nil, ⊎_elim}
use Rattle.std.specs.List.{AllByRecursion, AllZip}
use Rattle.std.proofs.lemmas.List.{length_push}
use Rattle.std.proofs.lemmas.Bool.{or_left, or_right}
use Rattle.uca_weights.proofs.Lists.{each_around}
use Rattle.uca_lines.specs.Fields.{text_of}
use Rattle.uca_values.specs.declared.faults.FaultKind.{FaultKind}
use Rattle.uca_values.specs.declared.faults.FaultKind.TheVariants as kinds
use Rattle.uca_lines.specs.FileMeanings.{IsExact, IsExactByLine}
use Rattle.uca_lines.proofs.ByLine.{exact_by_line}
use Rattle.uca_values.specs.declared.ClassRange.{ClassRange}
use Rattle.uca_values.specs.declared.CodePointRange.{CodePointRange}
use Rattle.uca_values.specs.Ranges.{is_between, is_within, class_in}
use Rattle.uca_values.specs.Content.{DataContent, Properties, properties_of, HasHanBetween}
use Rattle.uca_values.proofs.Rising.{between_false}
use Rattle.uca_table.specs.declared.data_file.lines.RangeLine.{RangeLine}
use Rattle.uca_table.specs.declared.data_file.lines.RangeLine.TheVariants.{Class, Core, Other}
use Rattle.uca_table.specs.DataLines.{Item, Nothing, Start, OfRange, AreWords, read_words, header, IsText, IsLine}
use Rattle.uca_table.specs.DataSoFar.{Said, Says, Cause, RangeCause, OrderCause, IsRangeDue, IsBarred, Gives, IsUnfinished, count_before, AreInOrder, AreRanges, AreApart, MayStand, ranges_of, summary}
use Rattle.uca_table.specs.inside.DataSteps.{Takes, IsAdded, Adds, with_range}
use Rattle.uca_table.proofs.DataSoFarLemmas.{Apart, AllApart, IsRising, apart_swap, put_last, ranges_more, ranges_nothing, ranges_start, summary_more, within_append}
use Rattle.uca_table.proofs.DataWords.{words_same}

-- ---- A line has one format

header_words : AreWords header (codes "@data" ∷ codes "1" ∷ [])
header_words = (codes " 1", record { some = omega arith; word = refl; rest = refl }, ([], record { some = omega arith; word = refl; rest = refl }, refl))

no_range_in : (text : List ℕ) (words : List (List ℕ)) (r : RangeLine) → AreWords text words → read_words words ≡ Err kinds.Line → IsText text (OfRange r) → ⊥
no_range_in text words r are line form =
    let P : List (List ℕ) → Type 0 = λ ws. read_words ws ≡ Ok r in
    let is : read_words words ≡ Ok r = subst P (words_same text form.0 words form.1 are) form.2 in
    let no : Err kinds.Line ≡ Ok r = sym line ∙ is in
    cc

empty_no_range : (text : List ℕ) (r : RangeLine) → text ≡ [] → IsText text (OfRange r) → ⊥
empty_no_range text r nothing form =
    let P : List ℕ → Type 0 = λ t. IsText t (OfRange r) in
    no_range_in [] [] r refl refl (subst P nothing form)

header_no_range : (text : List ℕ) (r : RangeLine) → text ≡ header → IsText text (OfRange r) → ⊥
header_no_range text r is form =
    let P : List ℕ → Type 0 = λ t. IsText t (OfRange r) in
    no_range_in header (codes "@data" ∷ codes "1" ∷ []) r header_words refl (subst P is form)

empty_no_header : (text : List ℕ) → text ≡ [] → text ≡ header → ⊥
empty_no_header text a b = let no : [] ≡ header = sym a ∙ b in cc

range_same : (text : List ℕ) (r s : RangeLine) → IsText text (OfRange r) → IsText text (OfRange s) → r ≡ s
range_same text r s h k =
    let P : List (List ℕ) → Type 0 = λ ws. read_words ws ≡ Ok r in
    let is : read_words k.0 ≡ Ok r = subst P (words_same text h.0 k.0 h.1 k.1) h.2 in
    let same : Ok r ≡ Ok s = sym is ∙ k.2 in
    cc

-- ---- One line is taken in one way

pub takes_same : (old : Said) (line : List ℕ) (t u : Said) → Takes old line t → Takes old line u → t ≡ u
takes_same old line t u h k = go h.item k.item h.form k.form h.adds k.adds
  where
    go : (i j : Item) → IsText (text_of line) i → IsText (text_of line) j → Adds old i t → Adds old j u → t ≡ u
    go Nothing Nothing a b p q = p ∙ sym q
    go Nothing Start a b p q = absurd (empty_no_header _ a b)
    go Nothing (OfRange r) a b p q = absurd (empty_no_range _ r a b)
    go Start Nothing a b p q = absurd (empty_no_header _ b a)
    go Start Start a b p q = p.1 ∙ sym q.1
    go Start (OfRange r) a b p q = absurd (header_no_range _ r a b)
    go (OfRange r) Nothing a b p q = absurd (empty_no_range _ r b a)
    go (OfRange r) Start a b p q = absurd (header_no_range _ r b a)
    go (OfRange r) (OfRange s) a b p q = p.1.with ∙ ap (with_range old) (range_same _ r s a b) ∙ sym q.1.with

-- ---- A cause bars a line

added_barred : (old : Said) (r : RangeLine) (new : Said) (kind : FaultKind) → IsAdded old r new → RangeCause old (Ok r) kind → ⊥
added_barred old r new kinds.Range added cause = added.free cause
added_barred old r new kinds.Limit added cause = let room = added.room in omega (arith, cause.1)
added_barred old r new kinds.Line added cause = cause
added_barred old r new kinds.Order added cause = cause
added_barred old r new kinds.CodePoint added cause = cause
added_barred old r new kinds.Weight added cause = cause
added_barred old r new kinds.DuplicateKey added cause = cause
added_barred old r new kinds.Read added cause = cause
added_barred old r new kinds.Memory added cause = cause

started_twice : (s : Said) → s.started ≡ true → s.started ≡ false → ⊥
started_twice s a b = let no : true ≡ false = sym a ∙ b in cc

order_barred : (old : Said) (text : List ℕ) (item : Item) (new : Said) → OrderCause old text → IsText text item → Adds old item new → ⊥
order_barred old text Nothing new (inl h) form adds = empty_no_header text form h.1
order_barred old text Start new (inl h) form adds = started_twice old h.0 adds.0
order_barred old text (OfRange r) new (inl h) form adds = header_no_range text r h.1 form
order_barred old text Nothing new (inr h) form adds = h.1 form
order_barred old text Start new (inr h) form adds = h.2 form
order_barred old text (OfRange r) new (inr h) form adds = started_twice old adds.0 h.0

range_barred : (old : Said) (text : List ℕ) (item : Item) (new : Said) (kind : FaultKind) (words : List (List ℕ)) → IsRangeDue old text
    → AreWords text words → RangeCause old (read_words words) kind → IsText text item → Adds old item new → ⊥
range_barred old text Nothing new kind words due are cause form adds = due.some form
range_barred old text Start new kind words due are cause form adds = due.other form
range_barred old text (OfRange r) new kind words due are cause form adds =
    let is : read_words words ≡ Ok r = ap read_words (words_same text words form.0 are form.1) ∙ form.2 in
    let P : Result RangeLine FaultKind → Type 0 = λ read. RangeCause old read kind in
    added_barred old r new kind adds.1 (subst P is cause)

pub barred : (old : Said) (line : List ℕ) (kind : FaultKind) (new : Said) → Cause old line kind → Takes old line new → ⊥
barred old line kind new (inl h) takes = order_barred old (text_of line) takes.item new h.1 takes.form takes.adds
barred old line kind new (inr h) takes = range_barred old (text_of line) takes.item new kind h.1.0 h.0 h.1.1 h.1.2 takes.form takes.adds

-- ---- The last line is taken after the others

zip_last : (before : List (List ℕ)) (line : List ℕ) (items : List Item) → AllZip IsLine (before ++ line ∷ []) items
    → (front : List Item) × (item : Item) × (items ≡ front ++ item ∷ []) × AllZip IsLine before front × IsLine line item
zip_last [] line [] h = absurd h
zip_last [] line (i ∷ []) h = ([], i, refl, tt, h.0)
zip_last [] line (i ∷ j ∷ items) h = absurd h.1
zip_last (b ∷ before) line [] h = absurd h
zip_last (b ∷ before) line (i ∷ items) h =
    let rest = zip_last before line items h.1 in
    (i ∷ rest.0, rest.1, ap (λ is. i ∷ is) rest.2, (h.0, rest.3), rest.4)

-- ---- Order

front_ranges : (items : List Item) (item : Item) → AreRanges (items ++ item ∷ []) → AreRanges items
front_ranges [] item h = tt
front_ranges (Nothing ∷ items) item h = front_ranges items item h
front_ranges (Start ∷ items) item h = absurd h
front_ranges (OfRange r ∷ items) item h = front_ranges items item h

no_start : (items : List Item) → AreRanges (items ++ Start ∷ []) → ⊥
no_start [] h = h
no_start (Nothing ∷ items) h = no_start items h
no_start (Start ∷ items) h = h
no_start (OfRange r ∷ items) h = no_start items h

nothing_order : (items : List Item) (started : Bool) → AreInOrder started (items ++ Nothing ∷ []) → AreInOrder started items
nothing_order [] started h = h
nothing_order (Nothing ∷ items) started h = nothing_order items started h
nothing_order (Start ∷ items) started h = (h.0, front_ranges items Nothing h.1)
nothing_order (OfRange r ∷ items) started h = absurd h

start_order : (items : List Item) (started : Bool) → AreInOrder started (items ++ Start ∷ []) → (started ≡ true) × AreInOrder false items
start_order [] started h = (h.0, refl)
start_order (Nothing ∷ items) started h = start_order items started h
start_order (Start ∷ items) started h = absurd (no_start items h.1)
start_order (OfRange r ∷ items) started h = absurd h

range_order : (items : List Item) (r : RangeLine) (started : Bool) → AreInOrder started (items ++ OfRange r ∷ []) → (started ≡ true) × AreInOrder started items
range_order [] r started h = absurd h
range_order (Nothing ∷ items) r started h = range_order items r started h
range_order (Start ∷ items) r started h = (h.0, (h.0, front_ranges items (OfRange r) h.1))
range_order (OfRange s ∷ items) r started h = absurd h

-- ---- Ranges

-- what is true of a range among others that are apart
record IsOut {X : Type 0} (first last : X → ℕ) (x : X) (others : List X) : Type 0 where
  rising : first x ≤ last x
  apart : AllByRecursion (Apart first last x) others
  rest : AreApart first last others

apart_out : {X : Type 0} (first last : X → ℕ) (front : List X) (x : X) (back : List X) → AreApart first last (front ++ x ∷ back)
    → IsOut first last x (front ++ back)
apart_out first last [] x back h = record { rising = h.0; apart = h.1; rest = h.2 }
apart_out first last (y ∷ front) x back h =
    let out = apart_out first last front x back h.2 in
    let all = (each_around (Apart first last y) front x back).0 h.1 in
    record { rising = out.rising; apart = (apart_swap first last y x all.0, out.apart); rest = (h.0, all.1, out.rest) }

last_out : {X : Type 0} (first last : X → ℕ) (xs : List X) (x : X) → AreApart first last (xs ++ x ∷ []) → IsOut first last x xs
last_out {X = X} first last xs x h =
    let P : List X → Type 0 = IsOut first last x in subst P (append-nil xs) (apart_out first last xs x [] h)

-- the ranges without the last one
record MayEnd (content : DataContent) (r : RangeLine) : Type 0 where
  rest : MayStand content
  rising : IsRising r
  apart : AllApart content r
  room : count_before (summary true content) r < 4096

may_end : (content : DataContent) (r : RangeLine) → MayStand (put_last r content) → MayEnd content r
may_end content (Class r) may =
    let out = last_out (λ (s : ClassRange). s.first) (λ s. s.last) content.classes r may.classes in
    let more = length_push content.classes r in
    record {
      rest = record { classes = out.rest; han = may.han; few_classes = omega (arith, may.few_classes); few_core = may.few_core; few_other = may.few_other };
      rising = out.rising;
      apart = out.apart;
      room = omega (arith, may.few_classes);
    }
may_end content (Core r) may =
    let P : List CodePointRange → Type 0 = AreApart (λ s. s.first) (λ s. s.last) in
    let out = apart_out (λ (s : CodePointRange). s.first) (λ s. s.last) content.core r content.other
    (subst P (append_assoc content.core (r ∷ []) content.other) may.han) in
    let more = length_push content.core r in
    record {
      rest = record { classes = may.classes; han = out.rest; few_classes = may.few_classes; few_core = omega (arith, may.few_core); few_other = may.few_other };
      rising = out.rising;
      apart = out.apart;
      room = omega (arith, may.few_core);
    }
may_end content (Other r) may =
    let P : List CodePointRange → Type 0 = AreApart (λ s. s.first) (λ s. s.last) in
    let out = last_out (λ (s : CodePointRange). s.first) (λ s. s.last) (content.core ++ content.other) r
    (subst P (sym (append_assoc content.core content.other (r ∷ []))) may.han) in
    let more = length_push content.other r in
    record {
      rest = record { classes = may.classes; han = out.rest; few_classes = may.few_classes; few_core = may.few_core; few_other = omega (arith, may.few_other) };
      rising = out.rising;
      apart = out.apart;
      room = omega (arith, may.few_other);
    }

-- ---- A range that is apart from the others is not barred

side : (a b first last point : ℕ) → (b < first) ⊎ (last < a) → a ≤ point → point ≤ b → is_between first last point ≡ false
side a b first last point (inl h) low high = between_false first last point (inl (omega arith))
side a b first last point (inr h) low high = between_false first last point (inr (omega arith))

no_class : (xs : List ClassRange) (r : ClassRange) → AllByRecursion (Apart (λ s. s.first) (λ s. s.last) r) xs → (point : ℕ) → r.first ≤ point
    → point ≤ r.last → class_in xs point ≡ 0
no_class [] r apart point low high = refl
no_class (s ∷ xs) r apart point low high = rw (side r.first r.last s.first s.last point apart.0 low high) (no_class xs r apart.1 point low high)

none_within : (xs : List CodePointRange) (r : CodePointRange) → AllByRecursion (Apart (λ s. s.first) (λ s. s.last) r) xs → (point : ℕ)
    → r.first ≤ point → point ≤ r.last → is_within xs point ≡ false
none_within [] r apart point low high = refl
none_within (s ∷ xs) r apart point low high = rw (side r.first r.last s.first s.last point apart.0 low high) (none_within xs r apart.1 point low high)

no_han_between : (content : DataContent) (r : CodePointRange) → AllByRecursion (Apart (λ s. s.first) (λ s. s.last) r) (content.core ++ content.other)
    → HasHanBetween (properties_of content) r.first r.last → ⊥
no_han_between content r apart has =
    let none = none_within (content.core ++ content.other) r apart has.0 has.1 has.2 in
    let is_core = is_within content.core has.0 in
    let is_other = is_within content.other has.0 in
    let some = within_append content.core content.other has.0 ∙ ⊎_elim (or_left is_core is_other) (or_right is_core is_other) has.3 in
    let no : false ≡ true = sym none ∙ some in
    cc

free_from_apart : (content : DataContent) (r : RangeLine) → IsRising r → AllApart content r → IsBarred (summary true content) r → ⊥
free_from_apart content (Class r) rising apart (inl empty) = omega arith
free_from_apart content (Class r) rising apart (inr has) = has.3 (no_class content.classes r apart has.0 has.1 has.2)
free_from_apart content (Core r) rising apart (inl empty) = omega arith
free_from_apart content (Core r) rising apart (inr has) = no_han_between content r apart has
free_from_apart content (Other r) rising apart (inl empty) = omega arith
free_from_apart content (Other r) rising apart (inr has) = no_han_between content r apart has

-- ---- The last line

-- the lines before the last one say something, after which it is taken
abbrev Before : List (List ℕ) → List ℕ → Said → Type 0
Before before line new = (old : Said) × Says before old × Takes old line new

before_nothing : (before : List (List ℕ)) (line : List ℕ) (new : Said) (front : List Item) → AllZip IsLine before front → IsLine line Nothing
    → AreInOrder new.started (front ++ Nothing ∷ []) → MayStand (ranges_of (front ++ Nothing ∷ []))
    → new ≡ summary new.started (ranges_of (front ++ Nothing ∷ [])) → Before before line new
before_nothing before line new front forms form order ranges sum =
    let same = ranges_nothing front in (
      new,
      record {
        items = front;
        forms = forms;
        order = nothing_order front new.started order;
        ranges = subst MayStand same ranges;
        sum =
            sum ∙ ap (summary new.started) same;
      },
      record { item = Nothing; form = form; adds = refl },
    )

before_start : (before : List (List ℕ)) (line : List ℕ) (new : Said) (front : List Item) → AllZip IsLine before front → IsLine line Start
    → AreInOrder new.started (front ++ Start ∷ []) → MayStand (ranges_of (front ++ Start ∷ []))
    → new ≡ summary new.started (ranges_of (front ++ Start ∷ [])) → Before before line new
before_start before line new front forms form order ranges sum =
    let same = ranges_start front in
    let was = start_order front new.started order in
    let old : Said = summary false (ranges_of front) in (
      old,
      record { items = front; forms = forms; order = was.1; ranges = subst MayStand same ranges; sum = refl },
      record { item = Start; form = form; adds = (refl, sum ∙ ap (summary new.started) same ∙ ap (λ b. summary b (ranges_of front)) was.0) },
    )

before_range : (before : List (List ℕ)) (line : List ℕ) (new : Said) (front : List Item) (r : RangeLine) → AllZip IsLine before front
    → IsLine line (OfRange r) → AreInOrder new.started (front ++ OfRange r ∷ []) → MayStand (ranges_of (front ++ OfRange r ∷ []))
    → new ≡ summary new.started (ranges_of (front ++ OfRange r ∷ [])) → Before before line new
before_range before line new front r forms form order ranges sum =
    let content = ranges_of front in
    let more = ranges_more front r in
    let was = range_order front r new.started order in
    let end = may_end content r (subst MayStand more ranges) in
    let old : Said = summary true content in
    let P : Bool → Type 0 = λ b. AreInOrder b front in (
      old,
      record { items = front; forms = forms; order = subst P was.0 was.1; ranges = end.rest; sum = refl },
      record {
        item = OfRange r;
        form = form;
        adds = (
          refl,
          record {
            free = free_from_apart content r end.rising end.apart;
            room = end.room;
            with = sum ∙ ap (summary new.started) more ∙ ap (λ b. summary b (put_last r content)) was.0 ∙ summary_more content r end.apart;
          },
        );
      },
    )

before_item : (before : List (List ℕ)) (line : List ℕ) (new : Said) (front : List Item) (item : Item) → AllZip IsLine before front → IsLine line item
    → AreInOrder new.started (front ++ item ∷ []) → MayStand (ranges_of (front ++ item ∷ []))
    → new ≡ summary new.started (ranges_of (front ++ item ∷ [])) → Before before line new
before_item before line new front Nothing forms form order ranges sum = before_nothing before line new front forms form order ranges sum
before_item before line new front Start forms form order ranges sum = before_start before line new front forms form order ranges sum
before_item before line new front (OfRange r) forms form order ranges sum = before_range before line new front r forms form order ranges sum

says_last : (before : List (List ℕ)) (line : List ℕ) (new : Said) → Says (before ++ line ∷ []) new → Before before line new
says_last before line new says =
    let cut = zip_last before line says.items says.forms in
    let Order : List Item → Type 0 = AreInOrder new.started in
    let Ranges : List Item → Type 0 = λ items. MayStand (ranges_of items) in
    let Sum : List Item → Type 0 = λ items. new ≡ summary new.started (ranges_of items) in
    before_item before line new cut.0 cut.1 cut.3 cut.4 (subst Order cut.2 says.order) (subst Ranges cut.2 says.ranges) (subst Sum cut.2 says.sum)

-- ---- No line

says_none : (s : Said) → Says [] s → s ≡ summary false (record { classes = []; core = []; other = [] })
says_none s says = go says.items says.forms says.order says.sum
  where
    go : (items : List Item) → AllZip IsLine [] items → AreInOrder s.started items → s ≡ summary s.started (ranges_of items)
        → s ≡ summary false (record { classes = []; core = []; other = [] })
    go [] forms order sum = sum ∙ ap (λ b. summary b (record { classes = []; core = []; other = [] })) order
    go (item ∷ items) forms order sum = absurd forms

exact_lines : IsExactByLine Says Takes Cause
exact_lines = record {
  start = λ s t h k. says_none s h ∙ sym (says_none t k);
  last = says_last;
  one = takes_same;
  barred = barred;
}

pub exact : IsExact Says Cause
exact = exact_by_line Says Takes Cause exact_lines

-- what is said gives one value, and is then not unfinished
pub gives_one : (s : Said) (v w : Properties) → Gives s v → Gives s w → v ≡ w
gives_one s v w h k = sym h.same ∙ k.same

pub gives_finished : (s : Said) (v : Properties) → Gives s v → IsUnfinished s → ⊥
gives_finished s v h unfinished = started_twice s h.started unfinished
