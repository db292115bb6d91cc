-- A text whose numbers are written by value, or one that stays as it is.
use Rattle.std.proofs.Common.{◌≡◌, ℕ, ◌<◌, ◌^◌, List, ◌∷◌, length, arith, length-append, Bool, true, false, Result, sym, ap, ap₂, subst, ◌∙◌, ◌⊎◌, inl, inr}
use Rattle.std.specs.Result.{OnOk}
use Rattle.std.specs.Bool.{OnTrue, MatchBool}
use Rattle.std.specs.Str.{chars, IsUtf8}
use Rattle.unicode_normalization.specs.Forms.{nfd, Nfd}
use Rattle.unicode_normalization.proofs.LengthLemmas.{length-normalize-chars}
use Rattle.uca_weights.specs.declared.Depth.{Depth}
use Rattle.uca_weights.specs.declared.Depth.TheVariants.{Weights, Identical}
use Rattle.uca_weights.specs.declared.Numbers.{Numbers}
use Rattle.uca_weights.specs.declared.Numbers.TheVariants.{AsText, ByValue}
use Rattle.uca_weights.specs.declared.Settings.{Settings}
use Rattle.uca_weights.specs.declared.Weighting.{Weighting}
use Rattle.uca_text.specs.Texts.{NfdText, nfd_text, classed}
use Rattle.uca_text.specs.Limits.{IsAccepted}
use Rattle.uca_elements.specs.Collations.{Collation, elements_of}
use Rattle.uca_numbers.specs.Texts.{by_value}
use Rattle.uca_order.specs.Levels.{key_bytes}
use Rattle.uca_order.specs.Depths.{key_at, points_bytes, read_points, text_key, written}
use Rattle.uca_order.specs.Lengths.{HasShortRows}
use Rattle.uca_order.proofs.KeyLength.{length-key, length-elements, length-points_bytes, length-with_classes}
use Rattle.uca_plain.proofs.Results.{with_value}
use Rattle.uca_key_writer.specs.Buffers.{KeyState}
use Rattle.uca_key_writer.specs.inside.AsItIs.{key_as_it_is}

-- ---- Which of both it is

pub read_as_it_is : (numbers : Numbers) (none : Bool) (xs : List ℕ) → numbers ≡ ByValue → OnTrue none (by_value xs ≡ xs)
    → MatchBool none (written numbers xs ≡ xs) (numbers ≡ ByValue)
read_as_it_is numbers true xs is same = ap (λ n. written n xs) is ∙ same
read_as_it_is numbers false xs is same = is

-- what was written is what is read
pub written_is : (numbers : Numbers) (xs ys : List ℕ) → numbers ≡ ByValue → ys ≡ by_value xs → ys ≡ written numbers xs
written_is numbers xs ys by is = is ∙ ap (λ n. written n xs) (sym by)

-- the settings stay where the weighting and the depth do
pub same_settings : (before after : KeyState) (numbers : Numbers) → after.weighting ≡ before.weighting → after.depth ≡ before.depth →
    let was : Settings = record { weighting = before.weighting; depth = before.depth; numbers = numbers } in
    let is : Settings = record { weighting = after.weighting; depth = after.depth; numbers = numbers } in
    is ≡ was
same_settings before after numbers weighting depth = λ i. record { weighting = weighting i; depth = depth i; numbers = numbers }

-- settings that were taken apart
pub settings_of_parts : (settings : Settings) (made : KeyState) → made.weighting ≡ settings.weighting → made.depth ≡ settings.depth →
    let is : Settings = record { weighting = made.weighting; depth = made.depth; numbers = settings.numbers } in
    is ≡ settings
settings_of_parts settings made weighting depth = λ i. record { weighting = weighting i; depth = depth i; numbers = settings.numbers }

-- ---- Keys

-- a text that stays as it is
pub key_stays : (c : Collation) (settings : Settings) (xs : List ℕ) → written settings.numbers xs ≡ xs
    → key_as_it_is c settings.weighting settings.depth xs ≡ text_key c settings xs
key_stays c settings xs same =
    ap (λ (l : List ℕ). key_at settings.depth settings.weighting (record { elements = elements_of c (nfd_text c.properties l); points = nfd xs })) (sym same)

-- a text that is written by value, without an identical level
pub key_by_value : (c : Collation) (settings : Settings) (xs ys : List ℕ) → settings.numbers ≡ ByValue → settings.depth ≡ Weights → ys ≡ by_value xs
    → key_as_it_is c settings.weighting settings.depth ys ≡ text_key c settings xs
key_by_value c settings xs ys by weights is =
    ap (λ (d : Depth). key_as_it_is c settings.weighting d ys) weights
    ∙ ap (λ (l : List ℕ). key_bytes settings.weighting (elements_of c (nfd_text c.properties l))) is
    ∙ ap₂ (λ (d : Depth) (n : Numbers). key_at d settings.weighting (read_points c n xs)) (sym weights) (sym by)

-- with one, the code points of the text itself come last
pub key_with_points : (c : Collation) (settings : Settings) (xs ys points : List ℕ) (text : NfdText) → settings.numbers ≡ ByValue → ys ≡ by_value xs
    → text ≡ nfd_text c.properties ys → points ≡ nfd xs
    → key_at settings.depth settings.weighting (record { elements = elements_of c text; points = points }) ≡ text_key c settings xs
key_with_points c settings xs ys points text by is text_is points_are =
    ap₂ (λ (t : NfdText) (l : List ℕ). key_at settings.depth settings.weighting (record { elements = elements_of c t; points = l }))
    (text_is ∙ ap (nfd_text c.properties) is) points_are
    ∙ ap (λ (n : Numbers). key_at settings.depth settings.weighting (read_points c n xs)) (sym by)

-- ---- How long they are

-- a key is as short as what it is
pub as_short : {T E : Type 0} (r : Result T E) (key is : List ℕ) → length is < 2 ^ 40 → OnOk r (key ≡ is) → OnOk r (length key < 2 ^ 40)
as_short r key is short = with_value r (key ≡ is) (length key < 2 ^ 40) (λ same. subst (λ (l : List ℕ). length l < 2 ^ 40) (sym same) short)

-- the key of an accepted text, and other code points
pub with_points_short : (c : Collation) (depth : Depth) (weighting : Weighting) (text : NfdText) (points : List ℕ) → HasShortRows c.rows → IsAccepted text
    → length points < 2 ^ 37 → length (key_at depth weighting (record { elements = elements_of c text; points = points })) < 2 ^ 40
with_points_short c Weights weighting text points short accepted few =
    let t = classed text in
    omega (
      arith,
      length-key weighting (elements_of c text),
      length-elements c t short,
      length-with_classes text.points text.classes,
      accepted.few,
    )
with_points_short c Identical weighting text points short accepted few =
    let t = classed text in
    omega (
      arith,
      length-key weighting (elements_of c text),
      length-elements c t short,
      length-with_classes text.points text.classes,
      length-points_bytes points,
      length-append (key_bytes weighting (elements_of c text)) (0 ∷ 0 ∷ points_bytes points),
      accepted.few,
      few,
    )

-- a text has at most two code points for each byte
pub few_points : (text points : List ℕ) → IsUtf8 text → length text < 2 ^ 36 → points ≡ nfd (chars text) → length points < 2 ^ 37
few_points text points utf8 short are = omega (arith, length-normalize-chars Nfd text utf8, ap length are, short)

-- a text that is written by value has a length that is asked for
pub short_by_value : (numbers : Numbers) (text : List ℕ) → numbers ≡ ByValue → (numbers ≡ AsText) ⊎ (length text < 2 ^ 36) → length text < 2 ^ 36
short_by_value AsText text by (inl as_text) = absurd cc
short_by_value ByValue text by (inl as_text) = absurd cc
short_by_value numbers text by (inr short) = short
