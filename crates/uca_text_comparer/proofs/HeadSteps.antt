-- What the heads of code points say.
use Rattle.std.proofs.Common.{◌≡◌, ◌≢◌, ◌+◌, ◌-◌, ◌*◌, ◌/◌, ◌<◌, ◌≤◌, ltb, ltb-true, ltb-false, cond, refl, ℕ, zero, suc, List, [], ◌∷◌, ◌++◌, length, take, drop, drop-cons, get_or, Bool, true, false, not, sym, ap, subst, ◌∙◌, arith}
use Rattle.std.specs.Bool.{MatchBool}
use lib.Utf8.{encode, encodes, next}
use Rattle.std.specs.Str.{chars, IsUtf8, IsCharBoundary}
use Rattle.std.specs.Char.{len_utf8}
use Rattle.std.proofs.lemmas.Str.{IsUtf8-take, IsUtf8-drop, IsCharBoundary-from_take, IsCharBoundary-past_char, encodes-chars, drop_past_char, len_utf8_bounds, chars_past_char, encode_ascii, length-encode, IsCharBoundary-before_ascii, IsCharBoundary-after_ascii}
use Rattle.uca_weights.specs.declared.Weighting.{Weighting}
use Rattle.uca_plain.specs.PointCache.{IsTrueEntry}
use Rattle.uca_plain.specs.declared.plain.KnownPoint.{KnownPoint}
use Rattle.uca_elements.specs.Collations.{Collation}
use Rattle.uca_text_comparer.specs.declared.heads.Head.{Head}
use Rattle.uca_text_comparer.specs.Heads.{primary_of, IsFirstWeight, IsHeaded, IsTrueHead, AreFrom}
use Rattle.uca_text_comparer.proofs.LevelOneSteps.{no_element, entry_first, entry_headed}
use Rattle.uca_text_comparer.specs.inside.LevelOne.{HasNext}

-- ---- Heads and their numbers

module _ (P : ℕ → Head → Type 0) where
  -- it is true of each head
  from_at : (from at : ℕ) (heads : List Head) (d : Head) → AreFrom P from heads → at < length heads → P (from + at) (get_or heads at d)
  from_at from at [] d all within = absurd (omega (arith, within))
  from_at from zero (head ∷ heads) d all within = subst (λ n. P n head) (omega arith) all.0
  from_at from (suc at) (head ∷ heads) d all within =
      let there : suc from + at ≡ from + suc at = omega arith in
      subst (λ n. P n (get_or heads at d)) there (from_at (suc from) at heads d all.1 (omega (arith, within)))

  -- and with one more
  pub heads_on : (from : ℕ) (heads : List Head) (head : Head) → AreFrom P from heads → P (from + length heads) head → AreFrom P from (heads ++ head ∷ [])
  heads_on from [] head all next = (subst (λ n. P n head) (omega arith) next, tt)
  heads_on from (first ∷ heads) head all next =
      let there : from + suc (length heads) ≡ suc from + length heads = omega arith in
      (all.0, heads_on (suc from) heads head all.1 (subst (λ n. P n head) there next))

  -- and of the first ones
  pub first_heads : (from count : ℕ) (heads : List Head) → AreFrom P from heads → AreFrom P from (take count heads)
  first_heads from zero heads all = tt
  first_heads from (suc count) [] all = tt
  first_heads from (suc count) (head ∷ heads) all = (all.0, first_heads (suc from) count heads all.1)

  -- the head of a number
  pub head_there : (heads : List Head) (x : ℕ) (head d : Head) → AreFrom P 0 heads → x < length heads → head ≡ get_or heads x d → P x head
  head_there heads x head d all within is =
      let there : 0 + x ≡ x = omega arith in
      subst (P x) (sym is) (subst (λ n. P n (get_or heads x d)) there (from_at 0 x heads d all within))

-- ---- The head of an entry

not_bound : (b : Bool) (count : ℕ) → MatchBool b (3 < count) (count ≤ 3) → not b ≡ true → count ≤ 3
not_bound true count told not_so = absurd cc
not_bound false count told not_so = told

-- what is true of an entry is true of its head
pub entry_head : (c : Collation) (weighting : Weighting) (known : KnownPoint) (bound : Bool) (head : Head) → IsTrueEntry c known
    → MatchBool bound (3 < known.count) (known.count ≤ 3) → head.plain ≡ not bound
    → (head.weight ≢ 0 → (not bound ≡ true) × (known.count ≢ 0) × (head.weight ≡ primary_of weighting (get_or known.elements 0 no_element)))
    → (head.alone ≡ true → (head.weight ≢ 0) × ((get_or known.elements 1 no_element).primary ≡ 0) × ((get_or known.elements 2 no_element).primary ≡ 0))
    → IsTrueHead c weighting known.point head
entry_head c weighting known bound head entry told plain_is first alone = record {
  plain = λ plain. (entry (not_bound bound known.count told (sym plain_is ∙ plain))).0;
  first = λ some.
      let has = first some in
      let all = entry (not_bound bound known.count told has.0) in
      (all.0, subst (IsFirstWeight weighting head.weight) all.1 (entry_first weighting known.elements known.count head.weight has.1 has.2 some));
  alone = λ only.
      let none = alone only in
      let has = first none.0 in
      let few = not_bound bound known.count told has.0 in (
        none.0,
        subst (IsHeaded weighting head.weight) (entry few).1
            (entry_headed weighting known.elements known.count head.weight few has.1 none.1 none.2 has.2 none.0),
      );
}

-- ---- Positions

-- where two texts begin alike, a code point of one begins where one of the other does
pub boundary_too : (left right : List ℕ) (at : ℕ) → IsUtf8 left → IsUtf8 right → at ≤ length right → take at left ≡ take at right → IsCharBoundary left at
    → IsCharBoundary right at
boundary_too left right at text text_too within same boundary =
    IsCharBoundary-from_take right at text_too within (subst IsUtf8 same (IsUtf8-take left at text boundary))

-- a code point of a text, and where the next one begins
pub record PointAt (text : List ℕ) (at x next : ℕ) : Type 0 where
  pub point : chars (drop at text) ≡ x ∷ chars (drop next text)
  pub boundary : IsCharBoundary text next
  pub on : at < next

pub point_there : (text rest after : List ℕ) (at x : ℕ) → rest ≡ drop at text → IsUtf8 rest → IsUtf8 after → at ≤ length text
    → chars rest ≡ x ∷ chars after → PointAt text at x (at + len_utf8 x)
point_there text rest after at x rest_is utf8 after_utf8 within split =
    let bytes : rest ≡ encode x ++ after = sym (encodes-chars rest utf8) ∙ ap encodes split ∙ ap (λ l. encode x ++ l) (encodes-chars after after_utf8) in
    let there : drop at text ≡ encode x ++ after = sym rest_is ∙ bytes in
    record {
      point = ap chars (sym rest_is) ∙ split ∙ ap (λ l. x ∷ chars l) (sym (drop_past_char text after at x there));
      boundary = IsCharBoundary-past_char text after at x within (subst IsUtf8 rest_is utf8) there;
      on = omega (arith, (len_utf8_bounds x).0);
    }

-- an ASCII byte is a code point
pub ascii_there : (text : List ℕ) (at a : ℕ) → IsUtf8 text → at < length text → get_or text at 0 ≡ a → a < 128 → PointAt text at a (at + 1)
ascii_there text at a utf8 within is low =
    let first : get_or text at 0 < 128 = omega (arith, is, low) in
    let rest = IsUtf8-drop text at utf8 (IsCharBoundary-before_ascii text at within first) in
    let next : suc at ≡ at + 1 = omega arith in
    let split : drop at text ≡ a ∷ drop (at + 1) text = drop-cons text at 0 within ∙ ap (λ b. b ∷ drop (suc at) text) is ∙ ap (λ n. a ∷ drop n text) next in
    record {
      point = chars_past_char (drop at text) (drop (at + 1) text) a rest (split ∙ sym (ap (λ l. l ++ drop (at + 1) text) (encode_ascii a low)));
      boundary = IsCharBoundary-after_ascii text at utf8 within first;
      on = omega arith;
    }

-- ---- Heads of a text

-- the end of a text
pub end_there : (c : Collation) (weighting : Weighting) (xs rest : List ℕ) (head : Head) → head.weight ≡ 0 → xs ≡ [] → HasNext c weighting xs rest head
end_there c weighting xs rest head none ends = record { ends = λ z alone. ends; goes_on = λ some. absurd (some none) }

-- a code point with this head
pub next_there : (c : Collation) (weighting : Weighting) (xs rest : List ℕ) (x : ℕ) (head : Head) → xs ≡ x ∷ rest → IsTrueHead c weighting x head
    → HasNext c weighting xs rest head
next_there c weighting xs rest x head split true_head = record {
  ends = λ none alone. absurd ((true_head.alone alone).0 none);
  goes_on = λ some. (x, split, true_head);
}

-- ---- Heads of bytes

-- how UTF-8 writes a code point of three bytes or more, of two or more, and any
abbrev three_bytes : ℕ → Bool → List ℕ
three_bytes x b = cond b ((224 + x / 4096) ∷ next (x / 64) ∷ next x ∷ []) ((240 + x / 262144) ∷ next (x / 4096) ∷ next (x / 64) ∷ next x ∷ [])

abbrev two_bytes : ℕ → Bool → List ℕ
two_bytes x b = cond b ((192 + x / 64) ∷ next x ∷ []) (three_bytes x (ltb x 65536))

encoded : (x : ℕ) (P : List ℕ → Type 0) → (x < 128 → P (x ∷ [])) → (128 ≤ x → x < 2048 → P ((192 + x / 64) ∷ next x ∷ []))
    → ((y : ℕ) (more : List ℕ) → 224 ≤ y → P (y ∷ more)) → P (encode x)
unfolding encode
encoded x P one two long = by_one (ltb x 128) refl
  where
    by_three : (b : Bool) → P (three_bytes x b)
    by_three true = long (224 + x / 4096) (next (x / 64) ∷ next x ∷ []) (omega arith)
    by_three false = long (240 + x / 262144) (next (x / 4096) ∷ next (x / 64) ∷ next x ∷ []) (omega arith)

    by_two : 128 ≤ x → (b : Bool) → ltb x 2048 ≡ b → P (two_bytes x b)
    by_two some true below = two some (ltb-true x 2048 below)
    by_two some false above = by_three (ltb x 65536)

    by_one : (b : Bool) → ltb x 128 ≡ b → P (cond b (x ∷ []) (two_bytes x (ltb x 2048)))
    by_one true below = one (ltb-true x 128 below)
    by_one false above = by_two (ltb-false x 128 above) (ltb x 2048) refl

-- a text begins with a code point that its first byte begins
pub begins_with : (text : List ℕ) → IsUtf8 text → 0 < length text → (x : ℕ) × (xs : List ℕ) × (more : List ℕ) × (chars text ≡ x ∷ xs) × (encode x ≡ get_or text 0 0 ∷ more)
begins_with text utf8 some = at (chars text) refl
  where
    first : (x : ℕ) (xs bytes : List ℕ) → encode x ≡ bytes → encodes (x ∷ xs) ≡ text → 0 < length bytes → (more : List ℕ) × (encode x ≡ get_or text 0 0 ∷ more)
    first x xs [] is all long = absurd (omega (arith, long))
    first x xs (b ∷ more) is all long = (more, is ∙ ap (λ c. c ∷ more) (sym (ap (λ l. get_or (l ++ encodes xs) 0 0) is) ∙ ap (λ l. get_or l 0 0) all))

    at : (cs : List ℕ) → chars text ≡ cs → (x : ℕ) × (xs : List ℕ) × (more : List ℕ) × (chars text ≡ x ∷ xs) × (encode x ≡ get_or text 0 0 ∷ more)
    at [] is = absurd (omega (arith, some, ap length (sym (encodes-chars text utf8) ∙ ap encodes is)))
    at (x ∷ xs) is =
        let found = first x xs (encode x) refl (sym (ap encodes is) ∙ encodes-chars text utf8) (omega (arith, length-encode x, (len_utf8_bounds x).0)) in
        (x, xs, found.0, is, found.1)

-- a byte of ASCII is its code point
pub single_is : (x byte : ℕ) (more : List ℕ) → encode x ≡ byte ∷ more → byte < 128 → x ≡ byte
single_is x byte more = encoded x (λ bytes. bytes ≡ byte ∷ more → byte < 128 → x ≡ byte)
    (λ low same few. ap (λ l. get_or l 0 0) same)
    (λ some below same few. absurd (omega (arith, few, ap (λ l. get_or l 0 0) same)))
    (λ y rest large same few. absurd (omega (arith, few, large, ap (λ l. get_or l 0 0) same)))

-- a byte of C0 to DF begins 64 of them
pub pair_is : (x byte : ℕ) (more : List ℕ) → encode x ≡ byte ∷ more → 192 ≤ byte → byte < 224 → ((byte - 192) * 64 ≤ x) × (x < (byte - 192) * 64 + 64)
pair_is x byte more = encoded x (λ bytes. bytes ≡ byte ∷ more → 192 ≤ byte → byte < 224 → ((byte - 192) * 64 ≤ x) × (x < (byte - 192) * 64 + 64))
    (λ low same from to. absurd (omega (arith, low, from, ap (λ l. get_or l 0 0) same)))
    (λ some below same from to. (omega (arith, ap (λ l. get_or l 0 0) same), omega (arith, ap (λ l. get_or l 0 0) same)))
    (λ y rest large same from to. absurd (omega (arith, to, large, ap (λ l. get_or l 0 0) same)))
