-- Keys of texts are stored keys.
use Rattle.std.proofs.Common.{◌≡◌, ℕ, zero, suc, ◌/◌, ◌<◌, List, [], ◌∷◌, ◌++◌, Bool, true, false, ◌&&◌, Option, Some, None, option_map, Result, Ok, Err, IfOk, if◌then◌else◌, cond, not, filter, map, nat_eq, refl, ap, sym, subst, ◌∙◌, arith}
use Rattle.std.specs.Char.{IsScalar}
use Rattle.std.specs.List.{AllByRecursion}
use Rattle.std.specs.Str.{all_scalars}
use Rattle.std.proofs.lemmas.Bool.Decides.{nat_tests}
use Rattle.uca_weights.specs.declared.Depth.{Depth}
use Rattle.uca_weights.specs.declared.Depth.TheVariants.{Weights, Identical}
use Rattle.uca_weights.specs.declared.Weighting.{Weighting}
use Rattle.uca_order.specs.Levels.{Weights as WeightList, weighted, level_count, level_bytes, levels_bytes, level_list, level_lists_from, key_bytes, weight_at}
use Rattle.uca_order.specs.Depths.{ReadText, key_at, points_bytes}
use Rattle.uca_compact.specs.Forms.{AreWeights, AreLevels}
use Rattle.uca_books.specs.Books.{BookContent}
use Rattle.uca_compact.specs.CompactKeys.{KeyParts, text_parts, compact_key, AreParts}
use Rattle.uca_compact.specs.StoredParts.{stored_parts}
use Rattle.uca_compact.proofs.OnlyCells.{AreBytes, bytes_after, nothing, same_some}
use Rattle.uca_compact.proofs.StoredBack.{stored_again}

-- bytes before others
bytes_before : (xs ys : List ℕ) → AreBytes (xs ++ ys) → AreBytes xs
bytes_before [] ys h = tt
bytes_before (x ∷ xs) ys h = (h.0, bytes_before xs ys h.1)

abbrev is_weight : ℕ → Bool
is_weight w = not (nat_eq w 0)

-- a weight more, by whether it is 0
one_more : (w : ℕ) (ws : List ℕ) (b : Bool) → nat_eq w 0 ≡ b → (AreBytes (level_bytes ws) → AreWeights ws)
    → AreBytes (level_bytes (cond (not b) (w ∷ ws) ws)) → AreWeights (cond (not b) (w ∷ ws) ws)
one_more w ws true is more h = more h
one_more w ws false is more h = let high : w / 256 < 256 = h.0 in ((grind (arith, nat_tests), omega (arith, high)), more h.1.1)

-- what is written in bytes are weights of two
kept_weights : (ws : List ℕ) → AreBytes (level_bytes (filter is_weight ws)) → AreWeights (filter is_weight ws)
kept_weights [] h = tt
kept_weights (w ∷ ws) h = one_more w (filter is_weight ws) (nat_eq w 0) refl (kept_weights ws) h

lists_of_bytes : (from n : ℕ) (ws : List WeightList) → AreBytes (levels_bytes (level_lists_from from n ws)) → AreLevels n (level_lists_from from n ws)
lists_of_bytes from zero ws h = (refl, tt)
lists_of_bytes from (suc zero) ws h = (refl, (kept_weights (map (weight_at from) ws) h, tt))
lists_of_bytes from (suc (suc n)) ws h =
    let first = level_bytes (level_list from ws) in
    let rest = levels_bytes (level_lists_from (suc from) (suc n) ws) in
    let after : AreBytes (0 ∷ 0 ∷ rest) = bytes_after first (0 ∷ 0 ∷ rest) h in
    let more = lists_of_bytes (suc from) (suc n) ws after.1.1 in
    (ap suc more.0, (kept_weights (map (weight_at from) ws) (bytes_before first (0 ∷ 0 ∷ rest) h), more.1))

-- so a text whose key is written in bytes has these parts
pub parts_of_bytes : (depth : Depth) (weighting : Weighting) (t : ReadText) → AreBytes (key_at depth weighting t) → all_scalars t.points ≡ true
    → AreParts depth weighting (text_parts depth weighting t)
parts_of_bytes Weights weighting t are scalars =
    record { levels = lists_of_bytes 1 (level_count weighting) (weighted weighting t.elements) are; points = refl; level = refl }
parts_of_bytes Identical weighting t are scalars =
    record {
      levels = lists_of_bytes 1 (level_count weighting) (weighted weighting t.elements) (bytes_before (key_bytes weighting t.elements) (0 ∷ 0 ∷ points_bytes t.points) are);
      points = scalars;
      level = refl;
    }

-- and they are read from it
pub text_is_read : (depth : Depth) (weighting : Weighting) (t : ReadText) → AreParts depth weighting (text_parts depth weighting t)
    → stored_parts depth weighting (key_at depth weighting t) ≡ Some (text_parts depth weighting t)
text_is_read Weights weighting t parts = stored_again Weights weighting (text_parts Weights weighting t) parts
text_is_read Identical weighting t parts = stored_again Identical weighting (text_parts Identical weighting t) parts

-- ---- Compact keys of texts

scalars_are : (points : List ℕ) → AllByRecursion IsScalar points → all_scalars points ≡ true
scalars_are [] each = refl
scalars_are (c ∷ points) each = ap (λ (b : Bool). b && all_scalars points) each.0 ∙ scalars_are points each.1

-- a key and its compact key, by what is said of the bytes
made_by : (code : KeyParts → List ℕ) (o : Option KeyParts) (k : KeyParts) (found : Bool) (made : List ℕ) → o ≡ Some k
    → option_map code o ≡ (if found then Some made else None) → (found ≡ true) × (made ≡ code k)
made_by code o k true made is h = (refl, sym (same_some (code k) made (sym (ap (option_map code) is) ∙ h)))
made_by code o k false made is h = nothing (sym h ∙ ap (option_map code) is)

-- what is written of the key of a text is its compact key
pub compact_of_text : {E : Type 0} (depth : Depth) (weighting : Weighting) (b : BookContent) (key made : List ℕ) (result : Result Bool E) → AreBytes key
    → IfOk result (λ found. option_map (compact_key depth weighting b) (stored_parts depth weighting key) ≡ (if found then Some made else None))
    → (t : ReadText) → key ≡ key_at depth weighting t → AllByRecursion IsScalar t.points
    → IfOk result (λ found. (found ≡ true) × (made ≡ compact_key depth weighting b (text_parts depth weighting t)))
compact_of_text depth weighting b key made (Err fault) bytes h t is scalars = tt
compact_of_text depth weighting b key made (Ok found) bytes h t is scalars =
    let parts = parts_of_bytes depth weighting t (subst AreBytes is bytes) (scalars_are t.points scalars) in
    made_by (compact_key depth weighting b) (stored_parts depth weighting key) (text_parts depth weighting t) found made
    (ap (stored_parts depth weighting) is ∙ text_is_read depth weighting t parts) h
