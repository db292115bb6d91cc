-- What is read of the key of a text for a range: its letters, and where its first two levels end.
use Rattle.std.proofs.Common.{◌≡◌, ◌∙◌, ℕ, zero, suc, List, [], ◌∷◌, Bool, true, false, Option, Some, None, option_map, if◌then◌else◌, refl, ap, sym, subst, arith}
use Rattle.uca_weights.specs.declared.Depth.{Depth}
use Rattle.uca_weights.specs.declared.Settings.{Settings}
use Rattle.uca_weights.specs.declared.Weighting.{Weighting}
use Rattle.uca_weights.specs.declared.Weighting.TheVariants.{NonIgnorable, Shifted}
use Rattle.uca_order.specs.Levels.{weighted, level_list}
use Rattle.uca_order.specs.Depths.{ReadText}
use Rattle.uca_books.specs.Books.{BookContent}
use Rattle.uca_compact.specs.CompactKeys.{KeyParts, text_parts}
use Rattle.uca_compact.specs.StoredParts.{StoredLevel, stored_level, points_after, after_level, level_before, parts_from, stored_parts}
use Rattle.uca_compact.proofs.OnlyCells.{AreBytes, nothing, same_some}
use Rattle.uca_compact.proofs.TextKeys.{parts_of_bytes}
use Rattle.uca_compact.proofs.TextOrder.{keys_keep_order}
use Rattle.uca_ranges.specs.Ranges.{FindsLevels, LevelsBegin, levels_low, levels_high, FindsCompactLevels, compact_levels_low, compact_levels_high}
use Rattle.uca_c.specs.RangeCalls.{letters_in, accents_in}
use Rattle.uca_c.specs.inside.TextKeys.{IsKeyOf}
use Rattle.uca_c.proofs.CompactTexts.{parts_are_read}

abbrev first : List (List ℕ) → List ℕ
first [] = []
first (a ∷ more) = a

-- a level that is read before others is the first
first_of : (level : List ℕ) (o : Option KeyParts) (k : KeyParts) → level_before level o ≡ Some k → level ≡ first k.levels
first_of level None k h = nothing h
first_of level (Some j) k h = ap (λ (it : KeyParts). first it.levels) (same_some (record { levels = level ∷ j.levels; points = j.points }) k h)

first_level : (depth : Depth) (later : ℕ) (o : Option StoredLevel) (k : KeyParts) → parts_from depth later o ≡ Some k → option_map (λ l. l.weights) o ≡ Some (first k.levels)
first_level depth later None k h = nothing h
first_level depth zero (Some l) k h =
    ap Some (first_of l.weights (option_map (λ points. record { levels = []; points = points }) (points_after depth l.rest)) k h)
first_level depth (suc later) (Some l) k h =
    ap Some (first_of l.weights (after_level l.rest (λ bytes. parts_from depth later (stored_level bytes))) k h)

letters_by : (depth : Depth) (weighting : Weighting) (t : ReadText) (key : List ℕ) → stored_parts depth weighting key ≡ Some (text_parts depth weighting t)
    → option_map (λ l. l.weights) (stored_level key) ≡ Some (letters_in weighting t)
letters_by depth NonIgnorable t key h = first_level depth 2 (stored_level key) (text_parts depth NonIgnorable t) h
letters_by depth Shifted t key h = first_level depth 3 (stored_level key) (text_parts depth Shifted t) h

-- so its letters are read
pub letters_are_read : (s : Settings) (t : ReadText) (key : List ℕ) → AreBytes key → IsKeyOf s t key
    → option_map (λ l. l.weights) (stored_level key) ≡ Some (letters_in s.weighting t)
letters_are_read s t key are is = letters_by s.depth s.weighting t key (parts_are_read s t key are is)

-- whether they are found, and which are
told : (o : Option (List ℕ)) (x y : List ℕ) (found : Bool) → o ≡ Some x → o ≡ (if found then Some y else None) → (found ≡ true) × (y ≡ x)
told o x y true is h = (refl, sym (same_some x y (sym is ∙ h)))
told o x y false is h = nothing (sym h ∙ is)

pub letters_told : (s : Settings) (t : ReadText) (key letters : List ℕ) (found : Bool) → AreBytes key → IsKeyOf s t key
    → option_map (λ l. l.weights) (stored_level key) ≡ (if found then Some letters else None) → (found ≡ true) × (letters ≡ letters_in s.weighting t)
letters_told s t key letters found are is h =
    told (option_map (λ l. l.weights) (stored_level key)) (letters_in s.weighting t) letters found (letters_are_read s t key are is) h

-- its first two levels
two_begin : (depth : Depth) (weighting : Weighting) (t : ReadText) → LevelsBegin (letters_in weighting t ∷ accents_in weighting t ∷ []) (text_parts depth weighting t).levels
two_begin depth NonIgnorable t = (level_list 3 (weighted NonIgnorable t.elements) ∷ [], refl)
two_begin depth Shifted t = (level_list 3 (weighted Shifted t.elements) ∷ level_list 4 (weighted Shifted t.elements) ∷ [], refl)

pub two_are_found : (s : Settings) (t : ReadText) (key : List ℕ) (found : Bool) (low high : List ℕ) → AreBytes key → IsKeyOf s t key → FindsLevels 2 key found low high
    → (found ≡ true) × (low ≡ levels_low (letters_in s.weighting t ∷ accents_in s.weighting t ∷ []))
    × (high ≡ levels_high (letters_in s.weighting t ∷ accents_in s.weighting t ∷ []))
two_are_found s t key found low high are is finds =
    finds.0 s.depth s.weighting (text_parts s.depth s.weighting t) (letters_in s.weighting t ∷ accents_in s.weighting t ∷ [])
    (parts_of_bytes s.depth s.weighting t (subst AreBytes is.is are) is.scalars) (is.is ∙ sym (keys_keep_order.key s.depth s.weighting t))
    (two_begin s.depth s.weighting t) refl (omega arith)

-- and the ends of compact keys by these
pub two_compact_are_found : (s : Settings) (b : BookContent) (t : ReadText) (key : List ℕ) (found : Bool) (low high : List ℕ) → AreBytes key → IsKeyOf s t key
    → FindsCompactLevels s b 2 key found low high
    → (found ≡ true) × (low ≡ compact_levels_low s.weighting b (letters_in s.weighting t ∷ accents_in s.weighting t ∷ []))
    × (high ≡ compact_levels_high s.weighting b (letters_in s.weighting t ∷ accents_in s.weighting t ∷ []))
two_compact_are_found s b t key found low high are is finds =
    finds (text_parts s.depth s.weighting t) (letters_in s.weighting t ∷ accents_in s.weighting t ∷ [])
    (parts_of_bytes s.depth s.weighting t (subst AreBytes is.is are) is.scalars) (is.is ∙ sym (keys_keep_order.key s.depth s.weighting t))
    (two_begin s.depth s.weighting t) refl (omega arith)
