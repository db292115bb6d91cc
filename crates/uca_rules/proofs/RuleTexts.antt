-- The text of symbols, and how long it is.
use Rattle.std.proofs.Common.{◌≡◌, ◌≢◌, inl, inr, false, ℕ, ◌+◌, ◌<◌, ◌≤◌, List, [], ◌∷◌, ◌++◌, length, take, get_or, flat_map, chars, refl, ap, sym, ◌∙◌, length-append, arith}
use Rattle.std.specs.Str.{IsUtf8}
use lib.Utf8.{encode, encodes}
use Rattle.std.proofs.lemmas.Str.{encodes-append, chars_from_encodes}
use Rattle.std.proofs.lemmas.List.{append-nil, take_more, take_all, length-map}
use Rattle.unicode_normalization.specs.Forms.{nfd, Nfd, normalize, decomposed}
use Rattle.unicode_normalization.specs.Decompose.{decompose}
use Rattle.unicode_normalization.proofs.DecomposeLemmas.{length-from_decompose}
use Rattle.unicode_normalization.proofs.OrderLemmas.{length-canonical_order}
use Rattle.std.specs.List.{AllByRecursion}
use Rattle.std.specs.Char.{IsScalar}
use Rattle.uca_values.specs.Content.{Properties}
use Rattle.uca_text.specs.Texts.{NfdText, nfd_text}
use Rattle.uca_text.specs.Limits.{IsAccepted}
use Rattle.uca_text.specs.declared.normalize.TextFault.TheVariants.{TooLong, LongRun}
use Rattle.uca_text.specs.Faults.{IsCause}
use Rattle.uca_relations.specs.Relations.{IsRuleText}
use Rattle.uca_rules.specs.declared.characters.Character.{Character}
use Rattle.uca_rules.specs.declared.faults.RuleFaultKind.{RuleFaultKind}
use Rattle.uca_rules.specs.declared.faults.RuleFaultKind.TheVariants as kinds
use Rattle.uca_rules.specs.Characters.{place_of}
use Rattle.uca_rules.specs.Pieces.{Symbol, Literal, Hyphen, points_of, BeginsText}
use Rattle.uca_rules.specs.inside.Reading.{IsNoRuleText}
use Rattle.uca_rules.specs.inside.Views.{IsTextFault}

points-append : (xs ys : List Symbol) → points_of (xs ++ ys) ≡ points_of xs ++ points_of ys
points-append [] ys = refl
points-append (Literal c ∷ xs) ys = ap (λ zs. c.code ∷ zs) (points-append xs ys)
points-append (Hyphen place ∷ xs) ys = points-append xs ys

-- the code points of one more symbol
pub points_more : (symbols : List Symbol) (i : ℕ) (d : Symbol) → i < length symbols → encodes (points_of (take (i + 1) symbols)) ≡ encodes (points_of (take i symbols)) ++ encodes (points_of (get_or symbols i d ∷ []))
points_more symbols i d within =
    ap (λ zs. encodes (points_of zs)) (take_more symbols i d within) ∙ (ap encodes (points-append (take i symbols) (get_or symbols i d ∷ [])) ∙
    encodes-append (points_of (take i symbols)) (points_of (get_or symbols i d ∷ [])))

pub literal_more : (symbols : List Symbol) (i : ℕ) (d : Symbol) (c : Character) (old new : List ℕ) → i < length symbols → get_or symbols i d ≡ Literal c → new ≡ old ++ encode c.code →
    old ≡ encodes (points_of (take i symbols)) → new ≡ encodes (points_of (take (i + 1) symbols))
literal_more symbols i d c old new within is more so_far =
    rw (points_more symbols i d within, is, more, so_far) (ap (λ zs. encodes (points_of (take i symbols)) ++ zs) (sym (append-nil (encode c.code))))

pub hyphen_more : (symbols : List Symbol) (i : ℕ) (d : Symbol) (place : ℕ) (old : List ℕ) → i < length symbols → get_or symbols i d ≡ Hyphen place →
    old ≡ encodes (points_of (take i symbols)) → old ≡ encodes (points_of (take (i + 1) symbols))
hyphen_more symbols i d place old within is so_far = rw (points_more symbols i d within, is, so_far) (sym (append-nil (encodes (points_of (take i symbols)))))

pub points_all : (symbols : List Symbol) (i : ℕ) (text : List ℕ) → length symbols ≤ i → text ≡ encodes (points_of (take i symbols)) → IsUtf8 text → chars text ≡ points_of symbols
points_all symbols i text all so_far utf8 = sym (chars_from_encodes (points_of symbols) text utf8 (ap (λ zs. encodes (points_of zs)) (sym (take_all i symbols all)) ∙ sym so_far))

-- a text that is not empty is not empty in Normalization Form D
pub some_in_nfd : (points : List ℕ) → points ≢ [] → 1 ≤ length (nfd points)
unfolding normalize decomposed
some_in_nfd [] some = absurd (some refl)
some_in_nfd (c ∷ points) some =
    rw length-canonical_order (omega (arith, length-append (decompose Nfd c) (flat_map (decompose Nfd) points), (length-from_decompose Nfd c (decompose Nfd c) refl).0))

-- a text that is short enough is one of rules
pub short_text : (properties : Properties) (points : List ℕ) (text : NfdText) → text ≡ nfd_text properties points → IsAccepted text → AllByRecursion IsScalar text.points → points ≢ [] →
    length text.points ≤ 16 → IsRuleText text
short_text properties points text is accepted scalars some short = record {
  normal = record { accepted = accepted; scalars = scalars };
  some = λ none. (let same : text.points ≡ nfd points = ap (λ s. s.points) is in omega (arith, some_in_nfd points some, ap length (sym same ∙ none)));
  short = short;
}

-- a text that is rejected for its length or for a run is longer
pub too_long : (properties : Properties) (points : List ℕ) → IsCause (nfd_text properties points) TooLong → 16 < length (nfd points)
too_long properties points cause = omega arith

pub long_run : (properties : Properties) (points : List ℕ) (place : ℕ) → IsCause (nfd_text properties points) (LongRun place) → 16 < length (nfd points)
long_run properties points place cause = let within = cause.1.run.within in omega (arith, length-map (nfd points) properties.class)

-- where there is no text of rules, the text has an error
pub text_fault : (end : ℕ) (text rest : List Character) (symbols : List Symbol) (place : ℕ) (kind : RuleFaultKind) → place ≡ place_of end text → BeginsText false text symbols rest → IsNoRuleText (points_of symbols) kind →
    IsTextFault end false text (record { byte = place; kind = kind })
text_fault end text rest symbols place kind at begins (inl memory) = inl (memory, at)
text_fault end text rest symbols place kind at begins (inr long) = inr (rw long.0 (record { symbols = symbols; rest = rest; begins = begins; long = long.1 }, at))

pub only_long : (points : List ℕ) → IsNoRuleText points kinds.Limit → 16 < length (nfd points)
only_long points (inl memory) = let no : ⊥ = cc in absurd no
only_long points (inr long) = long.1
