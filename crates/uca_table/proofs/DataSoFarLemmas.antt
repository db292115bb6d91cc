-- The lines of a data file, with one line more.
use Rattle.std.proofs.Common.{◌≡◌, ◌⊎◌, inl, inr, ℕ, zero, suc, ◌<◌, ◌≤◌, Bool, true, false, ltb, max, cond, ◌||◌, List, [], ◌∷◌, ◌++◌, codes, Option, Some, None, Result, Ok, Err, refl, sym, ap, ◌∙◌, subst, arith, append_assoc, append-nil}
use mathlib.Core.Path.{fun_ext}
use Rattle.std.specs.List.{AllByRecursion, AllZip}
use Rattle.std.specs.Str.{bytes_eq}
use Rattle.std.proofs.lemmas.Bool.{and_parts, ltb-true, ltb-false, leb-true, or_left, or_right, or_cases}
use Rattle.uca_lines.specs.declared.fields.RangeSyntax.{RangeSyntax}
use Rattle.uca_lines.specs.declared.fields.RangeSyntax.TheVariants as ends
use Rattle.std.specs.Str.Parse.{digits_value}
use Rattle.std.proofs.lemmas.Slice.Zip.{all_zipped_more}
use Rattle.std.proofs.lemmas.List.{length_push}
use Rattle.uca_weights.proofs.Lists.{each_around}
use Rattle.uca_weights.proofs.Tests.{by_cases, cond_apart}
use Rattle.uca_lines.specs.Numbers.{class_of, is_class}
use Rattle.uca_lines.specs.CodePointRanges.{range_of}
use Rattle.uca_values.specs.declared.faults.FaultKind.{FaultKind}
use Rattle.uca_values.specs.declared.faults.FaultKind.TheVariants as kinds
use Rattle.uca_values.specs.declared.ClassRange.{ClassRange}
use Rattle.uca_values.specs.declared.CodePointRange.{CodePointRange}
use Rattle.uca_values.specs.Ranges.{is_between, is_within, class_in}
use Rattle.uca_values.specs.Content.{DataContent, IsClass, properties_of, HasHanBetween}
use Rattle.uca_values.proofs.Rising.{between_true, between_from}
use Rattle.uca_values.proofs.Gaps.{within_put, same_properties}
use Rattle.uca_table.specs.declared.data_file.lines.RangeLine.{RangeLine}
use Rattle.uca_table.specs.declared.data_file.lines.RangeLine.TheVariants.{Class, Core, Other}
use Rattle.uca_table.specs.DataLines.{Item, Nothing, Start, OfRange, range_read, han_read, class_read, read_words, IsLine}
use Rattle.uca_table.specs.DataSoFar.{Said, Says, Cause, RangeCause, IsBarred, count_before, AreInOrder, AreRanges, AreApart, MayStand, ranges_of, put, summary}
use Rattle.uca_table.specs.inside.DataSteps.{Takes, IsNumbered, IsAdded, Adds, with_range}

-- ---- What the words of a line may say

abbrev pub IsWordFault : FaultKind → Type 0
IsWordFault kinds.Line = Unit {0}
IsWordFault kinds.CodePoint = Unit {0}
IsWordFault kinds.Weight = Unit {0}
IsWordFault _ = ⊥

abbrev pub ReadsWell : Result RangeLine FaultKind → Type 0
ReadsWell (Ok r) = IsNumbered r
ReadsWell (Err kind) = IsWordFault kind

pub class_is : (word : List ℕ) (n : ℕ) → class_of word ≡ Some n → IsClass n
class_is word n h =
    by_cases (is_class word)
    (λ e.
    let value : Some (digits_value 10 word) ≡ Some n = rw e at h in
    let is : digits_value 10 word ≡ n = cc in
    let last = and_parts _ _ e in
    let before = and_parts _ _ last.0 in
    let P : ℕ → Type 0 = IsClass in
    subst P is (leb-true _ _ before.1, leb-true _ _ last.1))
    (λ e. let none : None ≡ Some n = rw e at h in cc)

han_well : (K : CodePointRange → RangeLine) → ((r : CodePointRange) → IsNumbered (K r)) → (r : Result (ℕ × ℕ) RangeSyntax)
    → ReadsWell (han_read K (range_read r))
han_well K named (Ok r) = named _
han_well K named (Err ends.NoDots) = tt
han_well K named (Err ends.CodePoint) = tt

class_well : (r : Result (ℕ × ℕ) RangeSyntax) (word : List ℕ) (o : Option ℕ) → class_of word ≡ o → ReadsWell (class_read (range_read r) o)
class_well (Ok r) word None e = tt
class_well (Ok r) word (Some n) e = class_is word n e
class_well (Err ends.NoDots) word o e = tt
class_well (Err ends.CodePoint) word o e = tt

either_well : (b : Bool) (x y : Result RangeLine FaultKind) → ReadsWell x → ReadsWell y → ReadsWell (cond b x y)
either_well true x y h k = h
either_well false x y h k = k

pub reads_well : (words : List (List ℕ)) → ReadsWell (read_words words)
reads_well [] = tt
reads_well (word ∷ []) = tt
reads_well (word ∷ range ∷ []) =
    either_well (bytes_eq word (codes "core")) _ _ (han_well Core (λ _. tt) (range_of range))
    (either_well (bytes_eq word (codes "other")) _ _ (han_well Other (λ _. tt) (range_of range)) tt)
reads_well (word ∷ range ∷ number ∷ []) =
    either_well (bytes_eq word (codes "ccc")) _ _ (class_well (range_of range) number (class_of number) refl) tt
reads_well (word ∷ range ∷ number ∷ more ∷ words) = tt

no_read_words : (said : Said) (r : Result RangeLine FaultKind) → ReadsWell r → RangeCause said r kinds.Read → ⊥
no_read_words said (Ok r) well cause = cause
no_read_words said (Err kind) well cause = let P : FaultKind → Type 0 = IsWordFault in subst P (sym cause) well

pub no_read : (said : Said) (line : List ℕ) → Cause said line kinds.Read → ⊥
no_read said line (inl h) = let e = h.0 in cc
no_read said line (inr h) = no_read_words said (read_words h.1.0) (reads_well h.1.0) h.1.2

-- ---- Lists with one more element

abbrev pub Apart : {X : Type 0} → (X → ℕ) → (X → ℕ) → X → X → Type 0
Apart first last r s = (last r < first s) ⊎ (last s < first r)

pub apart_swap : {X : Type 0} (first last : X → ℕ) (r s : X) → Apart first last r s → Apart first last s r
apart_swap first last r s (inl h) = inr h
apart_swap first last r s (inr h) = inl h

apart_put : {X : Type 0} (first last : X → ℕ) (front : List X) (x : X) (back : List X) → first x ≤ last x
    → AllByRecursion (Apart first last x) (front ++ back) → AreApart first last (front ++ back) → AreApart first last (front ++ x ∷ back)
apart_put first last [] x back sound all h = (sound, all, h)
apart_put first last (y ∷ front) x back sound all h =
    (h.0, (each_around (Apart first last y) front x back).1 (apart_swap first last x y all.0, h.1), apart_put first last front x back sound all.1 h.2)

apart_more : {X : Type 0} (first last : X → ℕ) (xs : List X) (x : X) → first x ≤ last x → AllByRecursion (Apart first last x) xs
    → AreApart first last xs → AreApart first last (xs ++ x ∷ [])
apart_more {X = X} first last xs x sound all h =
    let P : List X → Type 0 = AllByRecursion (Apart first last x) in
    let Q : List X → Type 0 = AreApart first last in
    apart_put first last xs x [] sound (subst P (sym (append-nil xs)) all) (subst Q (sym (append-nil xs)) h)

-- ---- Overlaps

-- two ranges that are not empty are apart, or have a code point in common
overlap_cases : (a b c d : ℕ) → a ≤ b → c ≤ d → ((b < c) ⊎ (d < a)) ⊎ ((a ≤ max a c) × (max a c ≤ b) × (is_between c d (max a c) ≡ true))
overlap_cases a b c d h k =
    by_cases (ltb b c) (λ e. inl (inl (ltb-true b c e)))
    (λ e. by_cases (ltb d a) (λ f. inl (inr (ltb-true d a f)))
    (λ f. let low = ltb-false b c e in let high = ltb-false d a f in
    inr (omega arith, omega arith, between_from c d (max a c) (omega arith) (omega arith))))

class_zero_rest : (s : ClassRange) (xs : List ClassRange) (point : ℕ) → 1 ≤ s.class → class_in (s ∷ xs) point ≡ 0 → class_in xs point ≡ 0
class_zero_rest s xs point named none =
    by_cases (is_between s.first s.last point)
    (λ e. let is : s.class ≡ 0 = rw e at none in absurd (omega arith))
    (λ e. rw e at none)

or_step : (a x y all : Bool) → all ≡ (x || y) → (a || all) ≡ ((a || x) || y)
or_step true x y all e = refl
or_step false x y all e = e

pub not_both : (r s : ClassRange) (point : ℕ) → (r.last < s.first) ⊎ (s.last < r.first) → (r.first ≤ point) × (point ≤ r.last)
    → (s.first ≤ point) × (point ≤ s.last) → ⊥
not_both r s point (inl h) in_r in_s = omega arith
not_both r s point (inr h) in_r in_s = omega arith

-- a range whose code points have no class is apart from those that have one
apart_from_classes : (xs : List ClassRange) (r : ClassRange) → r.first ≤ r.last → AreApart (λ s. s.first) (λ s. s.last) xs
    → AllByRecursion (λ s. IsClass s.class) xs → ((point : ℕ) → r.first ≤ point → point ≤ r.last → class_in xs point ≡ 0)
    → AllByRecursion (Apart (λ s. s.first) (λ s. s.last) r) xs
apart_from_classes [] r sound apart named none = tt
apart_from_classes (s ∷ xs) r sound apart named none = (
  elim (overlap_cases r.first r.last s.first s.last sound apart.0) [
    | inl h ↦ h
    | inr common ↦
        let zero_ : class_in (s ∷ xs) (max r.first s.first) ≡ 0 = none _ common.0 common.1 in
        let is : s.class ≡ 0 = rw common.2 at zero_ in
        absurd (omega (arith, is, named.0.0))
  ],
  apart_from_classes xs r sound apart.2 named.1 (λ point low high. class_zero_rest s xs point named.0.0 (none point low high)),
)

-- a code point without Han properties is in no range
apart_from_han : (xs : List CodePointRange) (r : CodePointRange) → r.first ≤ r.last → AreApart (λ s. s.first) (λ s. s.last) xs
    → ((point : ℕ) → r.first ≤ point → point ≤ r.last → is_within xs point ≡ true → ⊥) → AllByRecursion (Apart (λ s. s.first) (λ s. s.last) r) xs
apart_from_han [] r sound apart none = tt
apart_from_han (s ∷ xs) r sound apart none = (
  elim (overlap_cases r.first r.last s.first s.last sound apart.0) [
    | inl h ↦ h
    | inr common ↦ absurd (none _ common.0 common.1 (or_left _ _ common.2))
  ],
  apart_from_han xs r sound apart.2 (λ point low high within. none point low high (or_right _ _ within)),
)

pub within_append : (xs ys : List CodePointRange) (point : ℕ) → is_within (xs ++ ys) point ≡ (is_within xs point || is_within ys point)
within_append [] ys point = refl
within_append (r ∷ xs) ys point = or_step (is_between r.first r.last point) _ _ _ (within_append xs ys point)

-- ---- One more range

class_more : (xs : List ClassRange) (r : ClassRange) → AllByRecursion (Apart (λ s. s.first) (λ s. s.last) r) xs → (point : ℕ)
    → class_in (xs ++ r ∷ []) point ≡ cond (is_between r.first r.last point) r.class (class_in xs point)
class_more [] r apart point = refl
class_more (s ∷ xs) r apart point =
    cond_apart (is_between s.first s.last point) (is_between r.first r.last point) s.class r.class (class_in xs point) (class_in (xs ++ r ∷ []) point)
    (λ e f. not_both r s point apart.0 (between_true r.first r.last point f) (between_true s.first s.last point e)) (class_more xs r apart.1 point)

within_more : (xs : List CodePointRange) (r : CodePointRange) (point : ℕ)
    → is_within (xs ++ r ∷ []) point ≡ (is_between r.first r.last point || is_within xs point)
within_more xs r point = within_put xs r [] point ∙ ap (λ rs. is_between r.first r.last point || is_within rs point) (append-nil xs)

-- one more range at the end of its list
abbrev pub put_last : RangeLine → DataContent → DataContent
put_last (Class r) content = record content { classes = content.classes ++ r ∷ [] }
put_last (Core r) content = record content { core = content.core ++ r ∷ [] }
put_last (Other r) content = record content { other = content.other ++ r ∷ [] }

put_comm : (r s : RangeLine) (content : DataContent) → put r (put_last s content) ≡ put_last s (put r content)
put_comm (Class r) (Class s) content = refl
put_comm (Class r) (Core s) content = refl
put_comm (Class r) (Other s) content = refl
put_comm (Core r) (Class s) content = refl
put_comm (Core r) (Core s) content = refl
put_comm (Core r) (Other s) content = refl
put_comm (Other r) (Class s) content = refl
put_comm (Other r) (Core s) content = refl
put_comm (Other r) (Other s) content = refl

pub ranges_more : (items : List Item) (r : RangeLine) → ranges_of (items ++ OfRange r ∷ []) ≡ put_last r (ranges_of items)
ranges_more [] (Class r) = refl
ranges_more [] (Core r) = refl
ranges_more [] (Other r) = refl
ranges_more (Nothing ∷ items) r = ranges_more items r
ranges_more (Start ∷ items) r = ranges_more items r
ranges_more (OfRange s ∷ items) r = ap (put s) (ranges_more items r) ∙ put_comm s r (ranges_of items)

pub ranges_nothing : (items : List Item) → ranges_of (items ++ Nothing ∷ []) ≡ ranges_of items
ranges_nothing [] = refl
ranges_nothing (Nothing ∷ items) = ranges_nothing items
ranges_nothing (Start ∷ items) = ranges_nothing items
ranges_nothing (OfRange s ∷ items) = ap (put s) (ranges_nothing items)

pub ranges_start : (items : List Item) → ranges_of (items ++ Start ∷ []) ≡ ranges_of items
ranges_start [] = refl
ranges_start (Nothing ∷ items) = ranges_start items
ranges_start (Start ∷ items) = ranges_start items
ranges_start (OfRange s ∷ items) = ap (put s) (ranges_start items)

-- ---- What is said with it

pub same_said : (s t : Said) → s.started ≡ t.started → s.properties ≡ t.properties → s.classes ≡ t.classes → s.core ≡ t.core → s.other ≡ t.other → s ≡ t
same_said s t a b c d e = λ i. record { started = a i; properties = b i; classes = c i; core = d i; other = e i }

-- the range is not empty, and apart from those with which it may have no code point in common
abbrev pub AllApart : DataContent → RangeLine → Type 0
AllApart content (Class r) = AllByRecursion (Apart (λ s. s.first) (λ s. s.last) r) content.classes
AllApart content (Core r) = AllByRecursion (Apart (λ s. s.first) (λ s. s.last) r) (content.core ++ content.other)
AllApart content (Other r) = AllByRecursion (Apart (λ s. s.first) (λ s. s.last) r) (content.core ++ content.other)

abbrev pub IsRising : RangeLine → Type 0
IsRising (Class r) = r.first ≤ r.last
IsRising (Core r) = r.first ≤ r.last
IsRising (Other r) = r.first ≤ r.last

pub summary_more : (content : DataContent) (r : RangeLine) → AllApart content r → summary true (put_last r content) ≡ with_range (summary true content) r
summary_more content (Class r) apart =
    same_said _ _ refl (same_properties _ _ _ _ _ _ (fun_ext (class_more content.classes r apart)) refl refl) (length_push content.classes r) refl refl
summary_more content (Core r) apart =
    same_said _ _ refl (same_properties _ _ _ _ _ _ refl (fun_ext (within_more content.core r)) refl) refl (length_push content.core r) refl
summary_more content (Other r) apart =
    same_said _ _ refl (same_properties _ _ _ _ _ _ refl refl (fun_ext (within_more content.other r))) refl refl (length_push content.other r)

-- ---- Order

ranges_in_order : (items : List Item) (item : Item) → AreRanges items → AreRanges (item ∷ []) → AreRanges (items ++ item ∷ [])
ranges_in_order [] item h k = k
ranges_in_order (Nothing ∷ items) item h k = ranges_in_order items item h k
ranges_in_order (Start ∷ items) item h k = absurd h
ranges_in_order (OfRange r ∷ items) item h k = ranges_in_order items item h k

nothing_in_order : (items : List Item) (started : Bool) → AreInOrder started items → AreInOrder started (items ++ Nothing ∷ [])
nothing_in_order [] started h = h
nothing_in_order (Nothing ∷ items) started h = nothing_in_order items started h
nothing_in_order (Start ∷ items) started h = (h.0, ranges_in_order items Nothing h.1 tt)
nothing_in_order (OfRange r ∷ items) started h = absurd h

range_in_order : (items : List Item) (r : RangeLine) → AreInOrder true items → AreInOrder true (items ++ OfRange r ∷ [])
range_in_order [] r h = cc
range_in_order (Nothing ∷ items) r h = range_in_order items r h
range_in_order (Start ∷ items) r h = (h.0, ranges_in_order items (OfRange r) h.1 tt)
range_in_order (OfRange s ∷ items) r h = absurd h

start_in_order : (items : List Item) → AreInOrder false items → AreInOrder true (items ++ Start ∷ [])
start_in_order [] h = (refl, tt)
start_in_order (Nothing ∷ items) h = start_in_order items h
start_in_order (Start ∷ items) h = let e = h.0 in cc
start_in_order (OfRange s ∷ items) h = absurd h

-- ---- One more line

named : (r : RangeLine) (read : Result RangeLine FaultKind) → ReadsWell read → read ≡ Ok r → IsNumbered r
named r read well is = let P : Result RangeLine FaultKind → Type 0 = ReadsWell in subst P is well

classes_named : (lines : List (List ℕ)) (items : List Item) → AllZip IsLine lines items → AllByRecursion (λ r. IsClass r.class) (ranges_of items).classes
classes_named [] [] h = tt
classes_named [] (item ∷ items) h = absurd h
classes_named (line ∷ lines) [] h = absurd h
classes_named (line ∷ lines) (Nothing ∷ items) h = classes_named lines items h.1
classes_named (line ∷ lines) (Start ∷ items) h = classes_named lines items h.1
classes_named (line ∷ lines) (OfRange (Class r) ∷ items) h =
    (named (Class r) _ (reads_well h.0.0) h.0.2, classes_named lines items h.1)
classes_named (line ∷ lines) (OfRange (Core r) ∷ items) h = classes_named lines items h.1
classes_named (line ∷ lines) (OfRange (Other r) ∷ items) h = classes_named lines items h.1

zero_unless : (n : ℕ) → ((n ≡ 0 → ⊥) → ⊥) → n ≡ 0
zero_unless zero h = refl
zero_unless (suc n) h = absurd (h (λ e. omega arith))

le_unless : (a b : ℕ) → (b < a → ⊥) → a ≤ b
le_unless a b h = by_cases (ltb b a) (λ e. absurd (h (ltb-true b a e))) (λ e. ltb-false b a e)

-- a range that is not barred is not empty
rising_from_free : (said : Said) (r : RangeLine) → (IsBarred said r → ⊥) → IsRising r
rising_from_free said (Class r) free = le_unless _ _ (λ empty. free (inl empty))
rising_from_free said (Core r) free = le_unless _ _ (λ empty. free (inl empty))
rising_from_free said (Other r) free = le_unless _ _ (λ empty. free (inl empty))

no_han : (content : DataContent) (r : CodePointRange) → (HasHanBetween (properties_of content) r.first r.last → ⊥) → (point : ℕ) → r.first ≤ point
    → point ≤ r.last → is_within (content.core ++ content.other) point ≡ true → ⊥
no_han content r free point low high within =
    free (point, low, high, or_cases _ _ (sym (within_append content.core content.other point) ∙ within))

-- a range that is not barred is apart from the others
apart_from_free : (content : DataContent) (r : RangeLine) → MayStand content → AllByRecursion (λ s. IsClass s.class) content.classes
    → (IsBarred (summary true content) r → ⊥) → AllApart content r
apart_from_free content (Class r) may named free =
    apart_from_classes content.classes r (rising_from_free (summary true content) (Class r) free) may.classes named
    (λ point low high. zero_unless _ (λ some. free (inr (point, low, high, some))))
apart_from_free content (Core r) may named free =
    apart_from_han (content.core ++ content.other) r (rising_from_free (summary true content) (Core r) free) may.han
    (no_han content r (λ has. free (inr has)))
apart_from_free content (Other r) may named free =
    apart_from_han (content.core ++ content.other) r (rising_from_free (summary true content) (Other r) free) may.han
    (no_han content r (λ has. free (inr has)))

may_stand_more : (content : DataContent) (r : RangeLine) → MayStand content → IsRising r → AllApart content r
    → count_before (summary true content) r < 4096 → MayStand (put_last r content)
may_stand_more content (Class r) may rising apart room = record {
  classes = apart_more (λ (s : ClassRange). s.first) (λ s. s.last) content.classes r rising apart may.classes;
  han = may.han;
  few_classes = omega (arith, length_push content.classes r);
  few_core = may.few_core;
  few_other = may.few_other;
}
may_stand_more content (Core r) may rising apart room = record {
  classes = may.classes;
  han =
      let P : List CodePointRange → Type 0 = AreApart (λ s. s.first) (λ s. s.last) in
      subst P (sym (append_assoc content.core (r ∷ []) content.other))
      (apart_put (λ (s : CodePointRange). s.first) (λ s. s.last) content.core r content.other rising apart may.han);
  few_classes = may.few_classes;
  few_core = omega (arith, length_push content.core r);
  few_other = may.few_other;
}
may_stand_more content (Other r) may rising apart room = record {
  classes = may.classes;
  han =
      let P : List CodePointRange → Type 0 = AreApart (λ s. s.first) (λ s. s.last) in
      subst P (append_assoc content.core content.other (r ∷ []))
      (apart_more (λ (s : CodePointRange). s.first) (λ s. s.last) (content.core ++ content.other) r rising apart may.han);
  few_classes = may.few_classes;
  few_core = may.few_core;
  few_other = omega (arith, length_push content.other r);
}

-- a range, when the header was there before
range_says : (lines : List (List ℕ)) (old : Said) (line : List ℕ) (new : Said) (r : RangeLine) → Says lines old → IsLine line (OfRange r)
    → old.started ≡ true → IsAdded old r new → Says (lines ++ line ∷ []) new
range_says lines old line new r before form started added =
    let content = ranges_of before.items in
    let old_is : old ≡ summary true content = before.sum ∙ ap (λ b. summary b content) started in
    let P : Said → Type 0 = λ s. IsAdded s r new in
    let here : IsAdded (summary true content) r new = subst P old_is added in
    let named = classes_named lines before.items before.forms in
    let apart = apart_from_free content r before.ranges named here.free in
    let rising = rising_from_free (summary true content) r here.free in
    let new_is : new ≡ summary true (put_last r content) = here.with ∙ sym (summary_more content r apart) in
    let more = ranges_more before.items r in
    let new_started : new.started ≡ true = ap (λ (s : Said). s.started) new_is in
    let Order : Bool → Type 0 = λ b. AreInOrder b before.items in
    let Q : Bool → Type 0 = λ b. AreInOrder b (before.items ++ OfRange r ∷ []) in
    record {
      items = before.items ++ OfRange r ∷ [];
      forms = all_zipped_more IsLine lines before.items line (OfRange r) before.forms form;
      order = subst Q (sym new_started) (range_in_order before.items r (subst Order started before.order));
      ranges = subst MayStand (sym more) (may_stand_more content r before.ranges rising apart here.room);
      sum = new_is ∙ ap (λ b. summary b (put_last r content)) (sym new_started) ∙ ap (summary new.started) (sym more);
    }

nothing_says : (lines : List (List ℕ)) (old : Said) (line : List ℕ) → Says lines old → IsLine line Nothing → Says (lines ++ line ∷ []) old
nothing_says lines old line before form =
    let same = ranges_nothing before.items in
    record {
      items = before.items ++ Nothing ∷ [];
      forms = all_zipped_more IsLine lines before.items line Nothing before.forms form;
      order = nothing_in_order before.items old.started before.order;
      ranges = subst MayStand (sym same) before.ranges;
      sum = before.sum ∙ ap (summary old.started) (sym same);
    }

start_says : (lines : List (List ℕ)) (old : Said) (line : List ℕ) → Says lines old → IsLine line Start → old.started ≡ false
    → Says (lines ++ line ∷ []) (record old { started = true })
start_says lines old line before form unstarted =
    let same = ranges_start before.items in
    let P : Bool → Type 0 = λ b. AreInOrder b before.items in
    record {
      items = before.items ++ Start ∷ [];
      forms = all_zipped_more IsLine lines before.items line Start before.forms form;
      order = start_in_order before.items (subst P unstarted before.order);
      ranges = subst MayStand (sym same) before.ranges;
      sum = ap (λ (s : Said). record s { started = true }) before.sum ∙ ap (summary true) (sym same);
    }

says_by : (lines : List (List ℕ)) (old : Said) (line : List ℕ) (new : Said) → Says lines old → (item : Item) → IsLine line item → Adds old item new
    → Says (lines ++ line ∷ []) new
says_by lines old line new before Nothing form adds =
    let P : Said → Type 0 = Says (lines ++ line ∷ []) in subst P (sym adds) (nothing_says lines old line before form)
says_by lines old line new before Start form adds =
    let P : Said → Type 0 = Says (lines ++ line ∷ []) in subst P (sym adds.1) (start_says lines old line before form adds.0)
says_by lines old line new before (OfRange r) form adds = range_says lines old line new r before form adds.0 adds.1

pub says_more : (lines : List (List ℕ)) (old : Said) (line : List ℕ) (new : Said) → Says lines old → Takes old line new → Says (lines ++ line ∷ []) new
says_more lines old line new before takes = says_by lines old line new before takes.item takes.form takes.adds
