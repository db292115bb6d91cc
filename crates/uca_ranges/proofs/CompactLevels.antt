-- Ranges of compact keys by their first levels.
use Rattle.std.proofs.Common.{◌≡◌, ◌↔◌, ℕ, suc, ◌+◌, ◌-◌, ◌<◌, ◌≤◌, List, [], ◌∷◌, ◌++◌, length, refl, ap, sym, subst, ◌∙◌, arith, append_assoc, length-append}
use Rattle.std.specs.List.{AllByRecursion}
use Rattle.std.specs.Ordering.{ordering_reverse}
use Rattle.std.specs.declared.cmp.Ordering.{Ordering}
use Rattle.std.specs.declared.cmp.Ordering.TheVariants.{Less, Equal, Greater}
use Rattle.uca_weights.specs.declared.Depth.{Depth}
use Rattle.uca_weights.specs.declared.Weighting.{Weighting}
use Rattle.uca_weights.specs.declared.Weighting.TheVariants.{NonIgnorable, Shifted}
use Rattle.uca_order.specs.Levels.{lexicographic, level_count}
use Rattle.uca_books.specs.Books.{BookContent, IsBook}
use Rattle.uca_compact.specs.Forms.{Form, AreForms, AreWeights, AreLevels, forms_of}
use Rattle.uca_compact.specs.PlainLevels.{plain_level}
use Rattle.uca_compact.specs.CompactKeys.{end_of, later_levels, compact, compact_key}
use Rattle.uca_compact.proofs.Below.{IsBelow}
use Rattle.uca_compact.proofs.LevelsOrder.{levels_order, order_turned, end_bounds}
use Rattle.uca_compact.proofs.Forms.{forms_fit, forms_count}
use Rattle.uca_ranges.specs.Ranges.{InRange, LevelsBegin, plain_levels, levels_after, with_last, plain_key, compact_levels_low, compact_levels_high}
use Rattle.uca_ranges.specs.Laws.{CompactKeysByLevels}
use Rattle.uca_ranges.proofs.Ranges.{both_hold, neither_holds, iff_then, range_as, range_between, below_low, past_last, below_longer, below_longer_right}
use Rattle.uca_ranges.proofs.CompactLetters.{utf8_part, compact_is}
use Rattle.uca_ranges.proofs.FirstLevels.{HaveRoom, forms_have_room, first_code, forms_after, code_is, HasEnding, first_ending, plain_count, plain_end, plain_bytes}
use Rattle.uca_ranges.proofs.FirstOrder.{IsNear, AreFirst, first_below, equal_levels, order_itself}

-- ---- What other levels make of an end

-- levels do
rest_near : (levels rest : List (List ℕ)) (count : ℕ) → length rest ≡ count → IsNear count (λ n. end_of plain_level n levels rest)
rest_near levels rest count tie all room =
    let bounds = end_bounds plain_level all levels rest (omega (arith, tie)) in
    (omega (arith, bounds.0, tie), omega (arith, bounds.1, tie))

-- the least end
lower_near : (count : ℕ) → IsNear count (λ n. n - count)
lower_near count all room = (omega arith, omega arith)

-- the greatest end
upper_near : (count : ℕ) → IsNear count (λ n. n + count)
upper_near count all room = (omega arith, omega arith)

-- ---- The two ends

-- the last byte after others
pub last_of : (change : ℕ → ℕ) (front : List ℕ) (x : ℕ) → with_last change (front ++ x ∷ []) ≡ front ++ change x ∷ []
last_of change [] x = refl
last_of change (y ∷ []) x = refl
last_of change (y ∷ z ∷ front) x = ap (λ (xs : List ℕ). y ∷ xs) (last_of change (z ∷ front) x)

-- first levels with an end
abbrev pub Ending : Form → List Form → ℕ → List ℕ → List (List ℕ) → Type 0
Ending f forms count a fs = HasEnding count (λ ends more. first_code plain_level (f ∷ forms) count ends more (a ∷ fs))

-- these levels and plain ones
plain_is : (f : Form) (forms : List Form) (count : ℕ) (a : List ℕ) (fs : List (List ℕ)) → length forms ≡ length fs + count → (e : Ending f forms count a fs)
    → compact plain_level (f ∷ forms) ((a ∷ fs) ++ plain_levels (a ∷ fs) count) ≡ e.front ++ (e.base + e.last) ∷ []
plain_is f forms count a fs tie e =
    let plains = plain_levels (a ∷ fs) count in
    let few : length plains ≡ count = plain_count (a ∷ fs) count in
    let long : length (fs ++ plains) ≡ length forms = length-append fs plains ∙ ap (λ (n : ℕ). length fs + n) few ∙ sym tie in
    let more = later_levels plain_level (forms_after forms fs) (a ∷ fs) plains in
    code_is plain_level f forms count a fs plains few long
    ∙ e.is (λ n. end_of plain_level n (a ∷ fs) plains) more
    ∙ ap (λ (n : ℕ). e.front ++ (e.base + n) ∷ more) (plain_end e.last (a ∷ fs) count)
    ∙ ap (λ (xs : List ℕ). e.front ++ (e.base + e.last) ∷ xs) (plain_bytes (forms_after forms fs) (a ∷ fs) count)

-- forms are a first one and others
first_form : (forms : List Form) → 0 < length forms → (f : Form) × (more : List Form) × (forms ≡ f ∷ more)
first_form [] some = absurd (omega arith)
first_form (f ∷ more) some = (f, more, refl)

-- the forms of each weighting have room
all_have_room : (weighting : Weighting) (b : BookContent) → HaveRoom (forms_of weighting b)
all_have_room NonIgnorable b = ((omega arith, omega arith, refl, (omega arith, omega arith, refl, (omega arith, omega arith, refl, tt))))
all_have_room Shifted b =
    ((omega arith, omega arith, refl, (omega arith, omega arith, refl, (omega arith, omega arith, refl, (omega arith, omega arith, refl, tt)))))

-- the key of these levels and plain ones ends in such a byte
pub record EndsInByte (weighting : Weighting) (b : BookContent) (firsts : List (List ℕ)) : Type 0 where
  pub front : List ℕ
  pub end : ℕ
  pub room : levels_after weighting firsts ≤ end
  pub top : end + suc (levels_after weighting firsts) < 256
  pub is : plain_key weighting b firsts ≡ front ++ end ∷ []

pub ends_in_byte : (weighting : Weighting) (b : BookContent) (firsts : List (List ℕ)) → 0 < length firsts → length firsts ≤ level_count weighting
    → EndsInByte weighting b firsts
ends_in_byte weighting b [] some few = absurd (omega arith)
ends_in_byte weighting b (a ∷ fs) some few =
    let count = levels_after weighting (a ∷ fs) in
    let all : length (forms_of weighting b) ≡ level_count weighting = forms_count weighting b in
    let form = first_form (forms_of weighting b) (omega (arith, all, few)) in
    let forms : length (forms_of weighting b) ≡ suc (length form.1) = ap length form.2 in
    let tie : length form.1 ≡ length fs + count = omega (arith, all, forms, few) in
    let e = first_ending plain_level form.0 form.1 count a fs tie (subst HaveRoom form.2 (all_have_room weighting b)) in
    record {
      front = e.front;
      end = e.base + e.last;
      room = omega (arith, e.room);
      top = omega (arith, e.top);
      is = ap (λ (l : List Form). compact plain_level l ((a ∷ fs) ++ plain_levels (a ∷ fs) count)) form.2 ∙ plain_is form.0 form.1 count a fs tie e;
    }

-- ---- Keys in the range

-- the low end, and the byte before the high end
abbrev lower_end : (f : Form) (forms : List Form) (count : ℕ) (a : List ℕ) (fs : List (List ℕ)) → Ending f forms count a fs → List ℕ
lower_end f forms count a fs e = e.front ++ (e.base + e.last - count) ∷ []

abbrev upper_end : (f : Form) (forms : List Form) (count : ℕ) (a : List ℕ) (fs : List (List ℕ)) → Ending f forms count a fs → List ℕ
upper_end f forms count a fs e = e.front ++ (e.base + e.last + suc count) ∷ []

-- the first levels with the least end
lower_is : (f : Form) (forms : List Form) (count : ℕ) (a : List ℕ) (fs : List (List ℕ)) (e : Ending f forms count a fs)
    → first_code plain_level (f ∷ forms) count (λ n. n - count) [] (a ∷ fs) ≡ lower_end f forms count a fs e
lower_is f forms count a fs e =
    let room : count ≤ e.last = e.room in
    let same : e.base + (e.last - count) ≡ e.base + e.last - count = omega arith in
    e.is (λ n. n - count) [] ∙ ap (λ (n : ℕ). e.front ++ n ∷ []) same

-- the high end is after the greatest end
upper_is : (f : Form) (forms : List Form) (count : ℕ) (a : List ℕ) (fs : List (List ℕ)) (e : Ending f forms count a fs)
    → e.front ++ suc (e.base + (e.last + count)) ∷ [] ≡ upper_end f forms count a fs e
upper_is f forms count a fs e =
    let same : suc (e.base + (e.last + count)) ≡ e.base + e.last + suc count = omega arith in
    ap (λ (n : ℕ). e.front ++ n ∷ []) same

-- a key with these first levels
same_found : (f : Form) (forms : List Form) (count : ℕ) (s : ℕ → ℕ) (more ext : List ℕ) (a : List ℕ) (fs levels : List (List ℕ)) → IsNear count s
    → (e : Ending f forms count a fs) → levels ≡ a ∷ fs
    → InRange (lower_end f forms count a fs e) (upper_end f forms count a fs e) (first_code plain_level (f ∷ forms) count s more levels ++ ext)
same_found f forms count s more ext a fs levels near e same =
    let room : count ≤ e.last = e.room in
    let here : (e.last ≤ s e.last + count) × (s e.last ≤ e.last + count) = near e.last room in
    let is : first_code plain_level (f ∷ forms) count s more levels ++ ext ≡ e.front ++ (e.base + s e.last) ∷ (more ++ ext) =
    ap (λ (l : List (List ℕ)). first_code plain_level (f ∷ forms) count s more l ++ ext) same
    ∙ ap (λ (xs : List ℕ). xs ++ ext) (e.is s more)
    ∙ append_assoc e.front ((e.base + s e.last) ∷ more) ext in
    subst (λ (key : List ℕ). InRange (lower_end f forms count a fs e) (upper_end f forms count a fs e) key) (sym is)
    (range_between e.front (e.base + e.last - count) (e.base + e.last + suc count) (e.base + s e.last) (more ++ ext)
    (omega (arith, here.0)) (omega (arith, here.1)))

-- a key, by how its first levels compare to these
code_found : (f : Form) (forms : List Form) (count : ℕ) (s : ℕ → ℕ) (more ext a c : List ℕ) (fs gs : List (List ℕ)) → AreForms (f ∷ forms)
    → AreFirst (f ∷ forms) (a ∷ fs) → AreFirst (f ∷ forms) (c ∷ gs) → length forms ≡ length fs + count → length forms ≡ length gs + count → IsNear count s
    → (e : Ending f forms count a fs) → (o : Ordering) → levels_order (c ∷ gs) (a ∷ fs) ≡ o
    → InRange (lower_end f forms count a fs e) (upper_end f forms count a fs e) (first_code plain_level (f ∷ forms) count s more (c ∷ gs) ++ ext)
    ↔ (c ∷ gs ≡ a ∷ fs)
code_found f forms count s more ext a c fs gs are af cf at ct near e Less is =
    let code = first_code plain_level (f ∷ forms) count s more (c ∷ gs) in
    let low = first_code plain_level (f ∷ forms) count (λ n. n - count) [] (a ∷ fs) in
    let below : IsBelow (code ++ ext) low =
    below_longer code ext low (first_below plain_level f forms count s (λ n. n - count) more [] c a gs fs are cf af ct at near (lower_near count) is) in
    neither_holds
    (below_low (lower_end f forms count a fs e) (upper_end f forms count a fs e) (code ++ ext)
    (subst (λ (xs : List ℕ). IsBelow (code ++ ext) xs) (lower_is f forms count a fs e) below))
    (λ same. let wrong : Less ≡ Equal = sym is ∙ ap (λ (l : List (List ℕ)). levels_order l (a ∷ fs)) same ∙ order_itself (a ∷ fs) in cc)
code_found f forms count s more ext a c fs gs are af cf at ct near e Equal is =
    let same : c ∷ gs ≡ a ∷ fs = equal_levels (c ∷ gs) (a ∷ fs) (omega (arith, at, ct)) is in
    both_hold (same_found f forms count s more ext a fs (c ∷ gs) near e same) same
code_found f forms count s more ext a c fs gs are af cf at ct near e Greater is =
    let code = first_code plain_level (f ∷ forms) count s more (c ∷ gs) in
    let turned : levels_order (a ∷ fs) (c ∷ gs) ≡ Less = order_turned (c ∷ gs) (a ∷ fs) ∙ ap ordering_reverse is in
    let top : first_code plain_level (f ∷ forms) count (λ n. n + count) [] (a ∷ fs) ≡ e.front ++ (e.base + (e.last + count)) ∷ [] = e.is (λ n. n + count) [] in
    let below : IsBelow (e.front ++ (e.base + (e.last + count)) ∷ []) (code ++ ext) =
    below_longer_right (e.front ++ (e.base + (e.last + count)) ∷ []) code ext
    (subst (λ (xs : List ℕ). IsBelow xs code) top
    (first_below plain_level f forms count (λ n. n + count) s [] more a c fs gs are af cf at ct (upper_near count) near turned)) in
    neither_holds
    (λ h. past_last e.front (e.base + (e.last + count)) (code ++ ext) below
    (subst (λ (xs : List ℕ). lexicographic (code ++ ext) xs ≡ Less) (sym (upper_is f forms count a fs e)) h.1))
    (λ same. let wrong : Greater ≡ Equal = sym is ∙ ap (λ (l : List (List ℕ)). levels_order l (a ∷ fs)) same ∙ order_itself (a ∷ fs) in cc)

-- ---- Levels

-- as many levels as others, and the rest
abbrev Cut : (firsts levels : List (List ℕ)) → Type 0
Cut firsts levels = (front : List (List ℕ)) × (rest : List (List ℕ)) × (levels ≡ front ++ rest) × (length front ≡ length firsts) × AllByRecursion AreWeights front

-- levels are so
cut : (firsts levels : List (List ℕ)) → length firsts ≤ length levels → AllByRecursion AreWeights levels → Cut firsts levels
cut [] levels few weights = ([], levels, refl, refl, tt)
cut (a ∷ firsts) [] few weights = absurd (omega arith)
cut (a ∷ firsts) (b ∷ levels) few weights =
    let more = cut firsts levels (omega arith) weights.1 in
    (b ∷ more.0, more.1, ap (λ (ls : List (List ℕ)). b ∷ ls) more.2, ap suc more.3, (weights.0, more.4))

-- forms for them
are_first : (forms : List Form) (levels : List (List ℕ)) → length levels ≤ length forms → AllByRecursion AreWeights levels → AreFirst forms levels
are_first forms [] few weights = tt
are_first [] (a ∷ levels) few weights = absurd (omega arith)
are_first (f ∷ forms) (a ∷ levels) few weights = (weights.0, are_first forms levels (omega arith) weights.1)

-- lists that are as long and begin the same levels
pub same_front : (xs ys rest more : List (List ℕ)) → length xs ≡ length ys → xs ++ rest ≡ ys ++ more → xs ≡ ys
same_front [] [] rest more long h = refl
same_front [] (y ∷ ys) rest more long h = absurd (omega (arith, long))
same_front (x ∷ xs) [] rest more long h = absurd (omega (arith, long))
same_front (x ∷ xs) (y ∷ ys) rest more long h =
    let both : x ∷ (xs ++ rest) ≡ y ∷ (ys ++ more) = h in
    let first : x ≡ y = cc in
    let later : xs ++ rest ≡ ys ++ more = cc in
    let same : xs ≡ ys = same_front xs ys rest more (omega (arith, long)) later in
    cc

-- so they begin with these
begins_if : (firsts front rest : List (List ℕ)) → length front ≡ length firsts → (front ≡ firsts) ↔ LevelsBegin firsts (front ++ rest)
begins_if firsts front rest long = (
  (λ same. (rest, ap (λ (l : List (List ℕ)). l ++ rest) same)),
  (λ h. same_front front firsts rest h.0 long h.1),
)

-- ---- Keys

-- a key that is cut so
key_found : (depth : Depth) (weighting : Weighting) (b : BookContent) (f : Form) (forms : List Form) (a d : List ℕ) (fs gs rest : List (List ℕ)) (points : List ℕ)
    → AreForms (f ∷ forms) → forms_of weighting b ≡ f ∷ forms → length forms ≡ length fs + levels_after weighting (a ∷ fs)
    → length rest ≡ levels_after weighting (a ∷ fs) → length gs ≡ length fs → AllByRecursion AreWeights (a ∷ fs) → AllByRecursion AreWeights (d ∷ gs)
    → InRange (compact_levels_low weighting b (a ∷ fs)) (compact_levels_high weighting b (a ∷ fs))
    (compact_key depth weighting b (record { levels = (d ∷ gs) ++ rest; points = points })) ↔ LevelsBegin (a ∷ fs) ((d ∷ gs) ++ rest)
key_found depth weighting b f forms a d fs gs rest points fits is tie few long fw gw =
    let count = levels_after weighting (a ∷ fs) in
    let ext = utf8_part depth points in
    let e = first_ending plain_level f forms count a fs tie (forms_have_room (f ∷ forms) fits) in
    let ends = λ (n : ℕ). end_of plain_level n (d ∷ gs) rest in
    let more = later_levels plain_level (forms_after forms gs) (d ∷ gs) rest in
    let plains = (a ∷ fs) ++ plain_levels (a ∷ fs) count in
    let whole : length (gs ++ rest) ≡ length forms = length-append gs rest ∙ ap (λ (n : ℕ). length gs + n) few ∙ ap (λ (n : ℕ). n + count) long ∙ sym tie in
    let gt : length forms ≡ length gs + count = omega (arith, tie, long) in
    let low : compact_levels_low weighting b (a ∷ fs) ≡ lower_end f forms count a fs e =
    ap (λ (l : List Form). with_last (λ end. end - count) (compact plain_level l plains)) is
    ∙ ap (with_last (λ end. end - count)) (plain_is f forms count a fs tie e) ∙ last_of (λ end. end - count) e.front (e.base + e.last) in
    let high : compact_levels_high weighting b (a ∷ fs) ≡ upper_end f forms count a fs e =
    ap (λ (l : List Form). with_last (λ end. end + suc count) (compact plain_level l plains)) is
    ∙ ap (with_last (λ end. end + suc count)) (plain_is f forms count a fs tie e) ∙ last_of (λ end. end + suc count) e.front (e.base + e.last) in
    let key : compact_key depth weighting b (record { levels = (d ∷ gs) ++ rest; points = points }) ≡ first_code plain_level (f ∷ forms) count ends more (d ∷ gs) ++ ext =
    compact_is depth weighting b ((d ∷ gs) ++ rest) points
    ∙ ap (λ (l : List Form). compact plain_level l ((d ∷ gs) ++ rest) ++ ext) is
    ∙ ap (λ (xs : List ℕ). xs ++ ext) (code_is plain_level f forms count d gs rest few whole) in
    iff_then (range_as _ _ _ _ _ _ low high key)
    (iff_then (code_found f forms count ends more ext a d fs gs fits (are_first (f ∷ forms) (a ∷ fs) (omega (arith, tie)) fw) (are_first (f ∷ forms) (d ∷ gs) (omega (arith, gt)) gw)
    tie gt (rest_near (d ∷ gs) rest count few) e (levels_order (d ∷ gs) (a ∷ fs)) refl)
    (begins_if (a ∷ fs) (d ∷ gs) rest (ap suc long)))

-- a key
levels_of : (depth : Depth) (weighting : Weighting) (b : BookContent) (firsts levels : List (List ℕ)) (points : List ℕ) → IsBook b → 0 < length firsts
    → length firsts ≤ level_count weighting → AllByRecursion AreWeights firsts → AreLevels (level_count weighting) levels
    → InRange (compact_levels_low weighting b firsts) (compact_levels_high weighting b firsts) (compact_key depth weighting b (record { levels = levels; points = points }))
    ↔ LevelsBegin firsts levels
levels_of depth weighting b [] levels points book some few fw are = absurd (omega arith)
levels_of depth weighting b (a ∷ fs) [] points book some few fw are = absurd (omega (arith, few, are.0))
levels_of depth weighting b (a ∷ fs) (d ∷ ls) points book some few fw are =
    let all : length (forms_of weighting b) ≡ level_count weighting = forms_count weighting b in
    let form = first_form (forms_of weighting b) (omega (arith, all, few)) in
    let forms : length (forms_of weighting b) ≡ suc (length form.1) = ap length form.2 in
    let long : suc (length ls) ≡ level_count weighting = are.0 in
    let parts = cut fs ls (omega (arith, few, long)) are.1.1 in
    let sum : length ls ≡ length parts.0 + length parts.1 = ap length parts.2 ∙ length-append parts.0 parts.1 in
    let back : (d ∷ parts.0) ++ parts.1 ≡ d ∷ ls = ap (λ (l : List (List ℕ)). d ∷ l) (sym parts.2) in
    subst (λ (levels : List (List ℕ)). InRange (compact_levels_low weighting b (a ∷ fs)) (compact_levels_high weighting b (a ∷ fs))
    (compact_key depth weighting b (record { levels = levels; points = points })) ↔ LevelsBegin (a ∷ fs) levels) back
    (key_found depth weighting b form.0 form.1 a d fs parts.0 parts.1 points (subst AreForms form.2 (forms_fit weighting b book)) form.2
    (omega (arith, all, forms, few)) (omega (arith, sum, parts.3, long, few)) parts.3 fw (are.1.0, parts.4))

-- the law
pub compact_by_levels : CompactKeysByLevels
compact_by_levels depth weighting b count firsts k book some few fs parts =
    levels_of depth weighting b firsts k.levels k.points book (omega (arith, fs.0)) (omega (arith, fs.0)) fs.1 parts.levels
