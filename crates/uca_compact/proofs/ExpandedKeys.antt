-- The key of compact bytes, by what is read of them.
use Rattle.std.proofs.Common.{◌≡◌, ℕ, suc, ◌<◌, List, [], ◌∷◌, length, get_or, Bool, true, false, Option, Some, None, option_map, Result, Ok, Err, IfOk, refl, ap, sym, ◌∙◌, arith}
use Rattle.std.specs.Bool.{MatchBool}
use Rattle.std.specs.Str.{is_utf8, chars}
use Rattle.uca_weights.specs.declared.Depth.{Depth}
use Rattle.uca_weights.specs.declared.Depth.TheVariants.{Identical}
use Rattle.uca_weights.specs.declared.Weighting.{Weighting}
use Rattle.uca_weights.specs.declared.Weighting.TheVariants.{NonIgnorable}
use Rattle.uca_books.specs.Books.{BookContent, IsBook}
use Rattle.uca_compact.specs.Forms.{AreForms, forms_of}
use Rattle.uca_compact.specs.CompactKeys.{KeyParts, stored_key, compact_key}
use Rattle.uca_compact.specs.StoredParts.{stored_parts, IsCompactOf, IsOfNoKey}
use Rattle.uca_compact.specs.WorkedKeys.{small_book}
use Rattle.uca_compact.specs.inside.Reading.{read_key}
use Rattle.uca_compact.specs.inside.LevelSteps.{IsExpanded}
use Rattle.uca_compact.proofs.Forms.{forms_fit}
use Rattle.uca_compact.proofs.OnlyCells.{AreBytes, nothing, same_some}
use Rattle.uca_compact.proofs.StoredBack.{stored_again, stored_only}
use Rattle.uca_compact.proofs.WholeKeys.{keys_back, keys_only}

-- each byte of a slice is one
pub bytes_are : (bytes : List ℕ) → ((k : ℕ) → k < length bytes → get_or bytes k 0 < 256) → AreBytes bytes
bytes_are [] h = tt
bytes_are (b ∷ bytes) h = (h 0 (omega arith), bytes_are bytes (λ k low. h (suc k) (omega arith)))

-- ---- No key

-- what is read of the compact key of a key
origin_by : (depth : Depth) (weighting : Weighting) (b : BookContent) → AreForms (forms_of weighting b) → (compact key : List ℕ) → AreBytes key → (o : Option KeyParts)
    → stored_parts depth weighting key ≡ o → option_map (compact_key depth weighting b) o ≡ Some compact → (k : KeyParts) × (read_key depth weighting b compact ≡ Some k)
origin_by depth weighting b fs compact key are None is h = nothing h
origin_by depth weighting b fs compact key are (Some k) is h =
    let code : compact_key depth weighting b k ≡ compact = same_some (compact_key depth weighting b k) compact h in
    (k, ap (read_key depth weighting b) (sym code) ∙ keys_back depth weighting b k fs (stored_only depth weighting key are k is).0)

-- if nothing is read of bytes, they are of no key
pub is_of_no_key : (depth : Depth) (weighting : Weighting) (b : BookContent) → AreForms (forms_of weighting b) → (compact : List ℕ)
    → read_key depth weighting b compact ≡ None → IsOfNoKey depth weighting b compact
is_of_no_key depth weighting b fs compact none =
    λ key are is. let found = origin_by depth weighting b fs compact key are (stored_parts depth weighting key) refl is in
    nothing (sym none ∙ found.1)

-- ---- A key

-- these are the compact bytes of the key of what was read
key_by : (depth : Depth) (weighting : Weighting) (b : BookContent) → AreForms (forms_of weighting b) → (compact key : List ℕ) → AreBytes compact → (o : Option KeyParts)
    → read_key depth weighting b compact ≡ o → option_map (stored_key depth) o ≡ Some key → IsCompactOf depth weighting b key compact
key_by depth weighting b fs compact key are None is h = nothing h
key_by depth weighting b fs compact key are (Some k) is h =
    let found = keys_only depth weighting b fs compact are k is in
    let same : stored_key depth k ≡ key = same_some (stored_key depth k) key h in
    ap (λ (xs : List ℕ). option_map (compact_key depth weighting b) (stored_parts depth weighting xs)) (sym same)
    ∙ ap (option_map (compact_key depth weighting b)) (stored_again depth weighting k found.0)
    ∙ ap (λ (xs : List ℕ). Some xs) (sym found.1)

-- nothing was read
none_by : (depth : Depth) (o : Option KeyParts) → option_map (stored_key depth) o ≡ None → o ≡ None
none_by depth None h = refl
none_by depth (Some k) h = nothing (sym h)

-- what an expander promises
pub promised : (depth : Depth) (weighting : Weighting) (b : BookContent) (compact key : List ℕ) (found : Bool) → AreBytes compact
    → IsExpanded depth weighting b compact key found
    → MatchBool found (IsCompactOf depth weighting b key compact) (IsOfNoKey depth weighting b compact)
promised depth weighting b compact key true are h = key_by depth weighting b h.forms compact key are (read_key depth weighting b compact) refl h.read
promised depth weighting b compact key false are h =
    is_of_no_key depth weighting b h.forms compact (none_by depth (read_key depth weighting b compact) h.read)

-- if no allocation failed
pub promised_if_ok : {E : Type 0} (r : Result Bool E) (depth : Depth) (weighting : Weighting) (b : BookContent) (compact key : List ℕ) → AreBytes compact
    → IfOk r (λ found. IsExpanded depth weighting b compact key found)
    → IfOk r (λ found. MatchBool found (IsCompactOf depth weighting b key compact) (IsOfNoKey depth weighting b compact))
promised_if_ok {E} (Ok found) depth weighting b compact key are h = promised depth weighting b compact key found are h
promised_if_ok {E} (Err e) depth weighting b compact key are h = tt

-- ---- Worked readings

small_is_book : IsBook small_book
small_is_book = record {
  letters = record {
    rise = (omega arith, (omega arith, (omega arith, (omega arith, (omega arith, tt)))));
    fit = (omega arith, (omega arith, (omega arith, (omega arith, (omega arith, tt)))));
    few = omega arith;
  };
  variables = record { rise = (omega arith, (omega arith, tt)); fit = (omega arith, (omega arith, tt)); few = omega arith };
}

pub small_forms : (weighting : Weighting) → AreForms (forms_of weighting small_book)
small_forms weighting = forms_fit weighting small_book small_is_book

-- the first of two bytes of a code point
pub half_point_read : read_key Identical NonIgnorable small_book (2 ∷ 0xC3 ∷ []) ≡ None
unfolding is_utf8 chars
half_point_read = refl
