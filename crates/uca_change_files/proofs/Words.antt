-- How code points are spelled as words in a file of changes, and how words after spaces are cut.
use Rattle.std.proofs.Common.{◌≡◌, ℕ, ◌-◌, ◌<◌, Bool, true, false, ◌&&◌, ◌==◌, bytes_eq, List, [], ◌∷◌, ◌++◌, length, take, drop, Option, Some, None, refl, ap, sym, subst, ◌∙◌, append_assoc, append-nil, arith}
use Rattle.std.specs.Prelude.{nat_le}
use Rattle.std.specs.Char.{IsScalar}
use Rattle.std.specs.List.{flat_map, list_all, AllByRecursion}
use Rattle.std.specs.Str.Parse.{digits_value}
use Rattle.std.specs.Option.{option_map}
use Rattle.std.proofs.lemmas.Option.{cond_some, same_Some, some_pair_parts}
use Rattle.std.proofs.lemmas.Slice.Eq.{bytes_eq-Decides}
use Rattle.std.proofs.lemmas.Bool.Decides.{nat_tests}
use Rattle.std.proofs.lemmas.Grind.{flat_map-append}
use borrow.Author.Tests.{eqb-true}
use lib.Utf8.{scalar}
use Rattle.uca_weights.proofs.Lists.{each_push}
use Rattle.uca_weights.proofs.Tests.{map_some}
use Rattle.uca_values.specs.declared.CodePointRange.{CodePointRange}
use Rattle.uca_lines.specs.Lines.{Lacks}
use Rattle.uca_lines.specs.Fields.{up_to, from_first, halves}
use Rattle.uca_lines.proofs.FieldLemmas.{parts_of_cut, length-from_first}
use Rattle.uca_lines.specs.Numbers.{digits, is_hex_digit, is_code_point, code_point_of, point_width}
use Rattle.uca_table.specs.Canonical.{point_text}
use Rattle.uca_table.proofs.CanonicalDigits.{point_is}
use Rattle.uca_table.proofs.CanonicalBytes.{code_point_again, point_all, lacks_digits, up_to_lacks, from_first_lacks, halves_are, digit_no_dot}
use Rattle.uca_change_files.specs.ChangeTexts.{spaced}
use Rattle.uca_change_files.specs.Steps.{IsPoint, ArePoints, AreEnds, space_at}

-- the second of two tests
second : (a b : Bool) → (a && b) ≡ true → b ≡ true
second true b h = h
second false b h = cc

-- what is read is a code point
pub scalar_read : (word : List ℕ) (c : ℕ) → code_point_of word ≡ Some c → IsScalar c
scalar_read word c h =
    let both = cond_some (is_code_point word) (digits_value 16 word) c h in
    let P : ℕ → Type 0 = IsScalar in
    subst P both.1 (second (nat_le 4 (length word) && nat_le (length word) 6 && list_all is_hex_digit word) (scalar (digits_value 16 word)) both.0)

-- what is spelled is read
pub point_again : (word : List ℕ) (c : ℕ) → IsPoint word c → code_point_of word ≡ Some c
point_again word c h = ap code_point_of h.text ∙ code_point_again c h.scalar

-- a word that is not read spells nothing
pub no_point : (word : List ℕ) → None ≡ code_point_of word → (c : ℕ) → ¬ (IsPoint word c)
no_point word h c is = let e = h ∙ point_again word c is in cc

-- the word is the digits of what is read
pub point_spelled : (word six : List ℕ) (first c : ℕ) (b : Bool) → Some c ≡ code_point_of word → first ≡ 6 - point_width c → six ≡ digits 6 c
    → b ≡ bytes_eq word (take (6 - first) (drop first six)) → b ≡ true → IsPoint word c
point_spelled word six first c b read f d test is =
    let same = (bytes_eq-Decides word (take (6 - first) (drop first six))).0 (sym test ∙ is) in
    record { text = same ∙ point_is c first six f d; scalar = scalar_read word c (sym read) }

-- or another text
pub point_other : (word six : List ℕ) (first c : ℕ) (b : Bool) → Some c ≡ code_point_of word → first ≡ 6 - point_width c → six ≡ digits 6 c
    → b ≡ bytes_eq word (take (6 - first) (drop first six)) → b ≡ false → (d : ℕ) → ¬ (IsPoint word d)
point_other word six first c b read f d test wrong e is =
    let same : c ≡ e = same_Some c e (read ∙ point_again word e is) in
    let text : word ≡ take (6 - first) (drop first six) = is.text ∙ ap point_text (sym same) ∙ sym (point_is c first six f d) in
    let yes_ = (bytes_eq-Decides word (take (6 - first) (drop first six))).1 text in
    let both : true ≡ false = sym yes_ ∙ sym test ∙ wrong in cc

-- a word spells one code point
pub point_same : (word : List ℕ) (c d : ℕ) → IsPoint word c → IsPoint word d → c ≡ d
point_same word c d h k = same_Some c d (sym (point_again word c h) ∙ point_again word d k)

-- ---- Code points after spaces

abbrev pub space : ℕ → Bool
space b = b == 32

digit_no_space : (b : ℕ) → is_hex_digit b ≡ true → (b == 32) ≡ false
digit_no_space b h = grind (arith, nat_tests)

lacks_space : (c : ℕ) → IsScalar c → Lacks space (point_text c)
lacks_space c h = lacks_digits space digit_no_space (point_text c) (point_all c h)

-- a space begins what follows a word
rest_begins : (cs : List ℕ) → (up_to space (flat_map spaced cs) ≡ []) × (from_first space (flat_map spaced cs) ≡ flat_map spaced cs)
unfolding spaced
rest_begins [] = (refl, refl)
rest_begins (c ∷ cs) = (refl, refl)

-- the word after a space, and what follows it
next_point : (more : List ℕ) (c : ℕ) (cs : List ℕ) → IsScalar c → 32 ∷ more ≡ flat_map spaced (c ∷ cs)
    → IsPoint (up_to space more) c × (from_first space more ≡ flat_map spaced cs)
unfolding spaced
next_point more c cs h e =
    let whole : more ≡ point_text c ++ flat_map spaced cs = cc in
    let begins = rest_begins cs in
    let word : up_to space more ≡ point_text c = ap (up_to space) whole ∙ up_to_lacks space (point_text c) (flat_map spaced cs) (lacks_space c h)
    ∙ ap (λ r. point_text c ++ r) begins.0 ∙ append-nil (point_text c) in
    (record { text = word; scalar = h }, ap (from_first space) whole ∙ from_first_lacks space (point_text c) (flat_map spaced cs) (lacks_space c h) ∙ begins.1)

-- a text that begins with a space, and one that does not
pub space_read : (text more : List ℕ) → Some more ≡ space_at text → text ≡ 32 ∷ more
space_read [] more h = cc
space_read (b ∷ bs) more h = cases (b == 32) refl
  where
    cases : (t : Bool) → (b == 32) ≡ t → b ∷ bs ≡ 32 ∷ more
    cases true e = let same : Some more ≡ Some bs = rw e at h in let is = eqb-true b 32 e in cc
    cases false e = let none : Some more ≡ None = rw e at h in cc

pub no_space : (text more : List ℕ) → None ≡ space_at text → text ≡ 32 ∷ more → ⊥
no_space text more h e = let one : None ≡ Some more = h ∙ ap space_at e in cc

-- what is read of a text: these code points, with this rest
pub record HasRead (text points rest : List ℕ) : Type 0 where
  pub front : text ≡ flat_map spaced points ++ rest
  pub scalars : AllByRecursion IsScalar points
  pub back : (all : List ℕ) → ArePoints text all → (more : List ℕ) × (all ≡ points ++ more) × ArePoints rest more

pub none_read : (text : List ℕ) → HasRead text [] text
none_read text = record { front = refl; scalars = tt; back = λ all h. (all, refl, h) }

-- one more
pub one_read : (text points more word after : List ℕ) (c : ℕ) → HasRead text points (32 ∷ more) → word ≡ up_to space more → after ≡ from_first space more
    → IsPoint word c → HasRead text (points ++ c ∷ []) after
unfolding spaced
one_read text points more word after c h w a is =
    let parts : more ≡ point_text c ++ after = parts_of_cut space more ∙ rw (← w, ← a, is.text) refl in
    let last : flat_map spaced (points ++ c ∷ []) ++ after ≡ flat_map spaced points ++ 32 ∷ (point_text c ++ after) =
    rw (flat_map-append spaced points (c ∷ [])) (simp (append_assoc, append-nil)) in
    record {
      front = h.front ∙ ap (λ r. flat_map spaced points ++ 32 ∷ r) parts ∙ sym last;
      scalars = (each_push IsScalar points c).1 (h.scalars, is.scalar);
      back = λ all k. let b = h.back all k in next all b.0 b.1 b.2;
    }
  where
    next : (all rest : List ℕ) → all ≡ points ++ rest → ArePoints (32 ∷ more) rest → (m : List ℕ) × (all ≡ (points ++ c ∷ []) ++ m) × ArePoints after m
    next all [] e k = absurd (let none = k.spelled in cc)
    next all (d ∷ ds) e k =
        let n = next_point more d ds k.scalars.0 k.spelled in
        let P : List ℕ → Type 0 = λ t. IsPoint t d in
        let same : d ≡ c = point_same word d c (subst P (sym w) n.0) is in
        (ds, e ∙ ap (λ x. points ++ x ∷ ds) same ∙ sym (append_assoc points (c ∷ []) ds), record { spelled = a ∙ n.1; scalars = k.scalars.1 })

-- a word that spells nothing
pub no_more : (text points more word : List ℕ) → HasRead text points (32 ∷ more) → word ≡ up_to space more → ((c : ℕ) → ¬ (IsPoint word c))
    → (all : List ℕ) → ¬ (ArePoints text all)
no_more text points more word h w none all k = let b = h.back all k in go b.0 b.2
  where
    go : (rest : List ℕ) → ArePoints (32 ∷ more) rest → ⊥
    go [] j = let e = j.spelled in cc
    go (d ∷ ds) j =
        let n = next_point more d ds j.scalars.0 j.spelled in
        let P : List ℕ → Type 0 = λ t. IsPoint t d in none d (subst P (sym w) n.0)

-- the rest gets shorter
pub shorter : (text more after : List ℕ) → text ≡ 32 ∷ more → after ≡ from_first space more → length after < length text
shorter text more after e a = omega (arith, ap length e, ap length a, length-from_first space more)

-- all is read
pub all_read : (text points rest : List ℕ) → HasRead text points rest → rest ≡ [] → ArePoints text points
all_read text points rest h e =
    record { spelled = h.front ∙ ap (λ r. flat_map spaced points ++ r) e ∙ append-nil (flat_map spaced points); scalars = h.scalars }

-- something else is left
pub other_rest : (text points rest : List ℕ) → HasRead text points rest → ¬ (rest ≡ []) → ((more : List ℕ) → ¬ (rest ≡ 32 ∷ more)) → (all : List ℕ)
    → ¬ (ArePoints text all)
unfolding spaced
other_rest text points rest h some other all k = let b = h.back all k in go b.0 b.2
  where
    go : (r : List ℕ) → ArePoints rest r → ⊥
    go [] j = some j.spelled
    go (d ∷ ds) j = other (point_text d ++ flat_map spaced ds) j.spelled

-- a text with a code point is not empty
not_empty : (c : ℕ) (cs : List ℕ) → [] ≡ flat_map spaced (c ∷ cs) → ⊥
unfolding spaced
not_empty c cs h = cc

-- it begins with a space
begins : (c : ℕ) (cs : List ℕ) → flat_map spaced (c ∷ cs) ≡ 32 ∷ (point_text c ++ flat_map spaced cs)
unfolding spaced
begins c cs = refl

-- a text spells one list of code points
pub points_same : (text points all : List ℕ) → ArePoints text points → ArePoints text all → points ≡ all
points_same text [] [] h k = refl
points_same text [] (d ∷ ds) h k = absurd (not_empty d ds (sym h.spelled ∙ k.spelled))
points_same text (c ∷ cs) [] h k = absurd (not_empty c cs (sym k.spelled ∙ h.spelled))
points_same text (c ∷ cs) (d ∷ ds) h k =
    let more = point_text c ++ flat_map spaced cs in
    let n = next_point more c cs h.scalars.0 (sym (begins c cs)) in
    let m = next_point more d ds k.scalars.0 (sym (begins c cs) ∙ sym h.spelled ∙ k.spelled) in
    let same : c ≡ d = point_same (up_to space more) c d n.0 m.0 in
    let rest : cs ≡ ds = points_same (from_first space more) cs ds (record { spelled = n.1; scalars = h.scalars.1 }) (record { spelled = m.1; scalars = k.scalars.1 }) in
    cc

-- ---- Ranges

-- the two sides of the first two dots
halves_parts : (text a b : List ℕ) → halves text ≡ Some (a, b) → text ≡ a ++ 46 ∷ 46 ∷ b
halves_parts [] a b h = cc
halves_parts (x ∷ []) a b h = cc
halves_parts (x ∷ y ∷ zs) a b h = cases (halves_parts (y ∷ zs)) (x == 46) refl (y == 46) refl
  where
    here : x ≡ 46 → y ≡ 46 → ◌≡◌ {A = Option (List ℕ × List ℕ)} (Some ([], zs)) (Some (a, b)) → x ∷ y ∷ zs ≡ a ++ 46 ∷ 46 ∷ b
    here e f k = let parts = some_pair_parts [] a zs b k in rw (e, f, ← parts.0, ← parts.1) refl

    later : ((c d : List ℕ) → halves (y ∷ zs) ≡ Some (c, d) → y ∷ zs ≡ c ++ 46 ∷ 46 ∷ d)
        → option_map {U = List ℕ × List ℕ} (λ (t : List ℕ × List ℕ). (x ∷ t.0, t.1)) (halves (y ∷ zs)) ≡ Some (a, b) → x ∷ y ∷ zs ≡ a ++ 46 ∷ 46 ∷ b
    later parts k =
        let m = map_some (λ (t : List ℕ × List ℕ). (x ∷ t.0, t.1)) (halves (y ∷ zs)) (a, b) k in
        let front : x ∷ m.0.0 ≡ a = ap (λ (t : List ℕ × List ℕ). t.0) m.2 in
        let back : m.0.1 ≡ b = ap (λ (t : List ℕ × List ℕ). t.1) m.2 in
        ap (λ t. x ∷ t) (parts m.0.0 m.0.1 m.1) ∙ ap (λ t. t ++ 46 ∷ 46 ∷ m.0.1) front ∙ ap (λ t. a ++ 46 ∷ 46 ∷ t) back

    cases : ((c d : List ℕ) → halves (y ∷ zs) ≡ Some (c, d) → y ∷ zs ≡ c ++ 46 ∷ 46 ∷ d) → (u : Bool) → (x == 46) ≡ u → (v : Bool) → (y == 46) ≡ v
        → x ∷ y ∷ zs ≡ a ++ 46 ∷ 46 ∷ b
    cases parts true e true f = here (eqb-true x 46 e) (eqb-true y 46 f) (rw (e, f) at h)
    cases parts true e false f = later parts (rw (e, f) at h)
    cases parts false e v f = later parts (rw e at h)

-- a range is halved between its ends
ends_halved : (text : List ℕ) (r : CodePointRange) → AreEnds text r → halves text ≡ Some (point_text r.first, point_text r.last)
ends_halved text r h =
    ap halves h.spelled ∙ halves_are (point_text r.first) (point_text r.last) (lacks_digits (λ b. b == 46) digit_no_dot (point_text r.first) (point_all r.first h.first))

-- no dots, no range
pub no_dots : (text : List ℕ) → halves text ≡ None → (r : CodePointRange) → ¬ (AreEnds text r)
no_dots text none r h = let e = sym none ∙ ends_halved text r h in cc

-- nor where a half is no code point
pub half_spelled : (text a b : List ℕ) → halves text ≡ Some (a, b) → (r : CodePointRange) → AreEnds text r → IsPoint a r.first × IsPoint b r.last
half_spelled text a b e r h =
    let parts = some_pair_parts a (point_text r.first) b (point_text r.last) (sym e ∙ ends_halved text r h) in
    (record { text = parts.0; scalar = h.first }, record { text = parts.1; scalar = h.last })

-- the ends that are read
pub ends_read : (text a b : List ℕ) (first last : ℕ) → halves text ≡ Some (a, b) → IsPoint a first → IsPoint b last
    → AreEnds text (record { first = first; last = last })
ends_read text a b first last e h k =
    record { spelled = halves_parts text a b e ∙ rw (h.text, k.text) refl; first = h.scalar; last = k.scalar }

-- a text spells one range
pub ends_same : (text : List ℕ) (r s : CodePointRange) → AreEnds text r → AreEnds text s → r ≡ s
ends_same text r s h k =
    let halved = ends_halved text r h in
    let one = half_spelled text (point_text r.first) (point_text r.last) halved r h in
    let two = half_spelled text (point_text r.first) (point_text r.last) halved s k in
    let first : r.first ≡ s.first = point_same (point_text r.first) r.first s.first one.0 two.0 in
    let last : r.last ≡ s.last = point_same (point_text r.last) r.last s.last one.1 two.1 in
    λ i. record { first = first i; last = last i }
