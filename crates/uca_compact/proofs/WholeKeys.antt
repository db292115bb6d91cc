-- Compact keys are read back, and no other bytes are. So keys with one compact key are one.
use Rattle.std.proofs.Common.{◌≡◌, ℕ, zero, suc, ◌+◌, ◌-◌, ◌<◌, List, [], ◌∷◌, ◌++◌, Bool, true, false, cond, Option, Some, None, length, refl, ap, sym, subst, ◌∙◌, arith, append-nil, chars, IsUtf8, encode_utf8_all}
use Rattle.std.specs.Str.{is_utf8}
use Rattle.std.proofs.lemmas.Str.{IsUtf8-from_is_utf8, is_utf8-from_IsUtf8, chars_from_encodes, encodes-chars, scalars-chars}
use Rattle.uca_weights.specs.declared.Depth.{Depth}
use Rattle.uca_weights.specs.declared.Depth.TheVariants.{Weights, Identical}
use Rattle.uca_weights.specs.declared.Weighting.{Weighting}
use Rattle.uca_order.specs.Levels.{level_count}
use Rattle.uca_books.specs.Books.{BookContent}
use Rattle.uca_compact.specs.Forms.{AreForms, AreWeights, AreLevels, forms_of}
use Rattle.uca_compact.specs.PlainLevels.{copies, letter_count, plain_level}
use Rattle.uca_compact.specs.CompactKeys.{compact, KeyParts, AreParts, compact_key}
use Rattle.uca_compact.specs.inside.Reading.{ReadLevels, read_levels, parts_then, with_rest, read_key}
use Rattle.uca_compact.specs.Laws.{EachCompactKeyIsOfOneKey, NoCompactKeyBeginsAnother}
use Rattle.uca_compact.proofs.LevelsBack.{levels_read, levels_back}
use Rattle.uca_compact.proofs.Forms.{forms_fit, forms_count}
use Rattle.uca_compact.proofs.OnlyCells.{AreBytes, nothing, same_some}
use Rattle.uca_compact.proofs.OnlyKeys.{PlainWeights, levels_only}

-- ---- Plain levels

-- they have weights
copies_weights : (w n : ℕ) → 0 < w → w < 65536 → AreWeights (copies w n)
copies_weights w zero above under = tt
copies_weights w (suc n) above under = ((above, under), copies_weights w n above under)

pub plain_weights : PlainWeights plain_level
plain_weights [] = tt
plain_weights (a ∷ []) = copies_weights 0x20 (letter_count a) (omega arith) (omega arith)
plain_weights (a ∷ b ∷ []) = copies_weights 2 (length b) (omega arith) (omega arith)
plain_weights (a ∷ b ∷ c ∷ more) = copies_weights 0xFFFF (length c + (length a - letter_count a)) (omega arith) (omega arith)

-- ---- What was written is read

-- as many levels as forms
levels_fit : (weighting : Weighting) (b : BookContent) (levels : List (List ℕ)) → AreLevels (level_count weighting) levels → AreLevels (length (forms_of weighting b)) levels
levels_fit weighting b levels h = (h.0 ∙ sym (forms_count weighting b), h.1)

-- the levels before anything
pub levels_again : (weighting : Weighting) (b : BookContent) (levels : List (List ℕ)) (rest : List ℕ) → AreForms (forms_of weighting b) → AreLevels (level_count weighting) levels
    → read_levels plain_level (forms_of weighting b) (compact plain_level (forms_of weighting b) levels ++ rest) ≡ levels_read levels rest
levels_again weighting b levels rest fs ls = levels_back plain_level (forms_of weighting b) levels rest fs (levels_fit weighting b levels ls)

-- code points are read again
points_again : (levels : List (List ℕ)) (points : List ℕ) (h : IsUtf8 (encode_utf8_all points))
    → parts_then Identical levels (encode_utf8_all points) ≡ Some (record { levels = levels; points = points })
points_again levels points h =
    let test = is_utf8-from_IsUtf8 (encode_utf8_all points) h in
    let same : points ≡ chars (encode_utf8_all points) = chars_from_encodes points (encode_utf8_all points) h refl in
    ap (λ (t : Bool). cond t (Some (record { levels = levels; points = chars (encode_utf8_all points) })) None) test
    ∙ ap (λ (ps : List ℕ). Some (record { levels = levels; points = ps })) (sym same)

-- The parts of a key are read again from its compact key.
pub keys_back : (depth : Depth) (weighting : Weighting) (b : BookContent) (k : KeyParts) → AreForms (forms_of weighting b) → AreParts depth weighting k
    → read_key depth weighting b (compact_key depth weighting b k) ≡ Some k
keys_back Weights weighting b k fs parts =
    let code = compact plain_level (forms_of weighting b) k.levels in
    ap (λ (bytes : List ℕ). read_key Weights weighting b bytes) (sym (append-nil code))
    ∙ ap (with_rest Weights) (levels_again weighting b k.levels [] fs parts.levels)
    ∙ ap (λ (ps : List ℕ). Some (record { levels = k.levels; points = ps })) parts.level
keys_back Identical weighting b k fs parts =
    ap (with_rest Identical) (levels_again weighting b k.levels (encode_utf8_all k.points) fs parts.levels)
    ∙ points_again k.levels k.points (k.points, (parts.points, refl))

-- ---- What is read was written

-- a key of these bytes
abbrev pub IsKeyOf : Depth → Weighting → BookContent → List ℕ → KeyParts → Type 0
IsKeyOf depth weighting b bytes k = AreParts depth weighting k × (bytes ≡ compact_key depth weighting b k)

-- by what follows the levels
weights_by : (weighting : Weighting) (b : BookContent) (bytes : List ℕ) (levels : List (List ℕ)) (rest : List ℕ) (k : KeyParts)
    → AreLevels (level_count weighting) levels → bytes ≡ compact plain_level (forms_of weighting b) levels ++ rest
    → parts_then Weights levels rest ≡ Some k → IsKeyOf Weights weighting b bytes k
weights_by weighting b bytes levels (a ∷ rest) k ls is h = nothing h
weights_by weighting b bytes levels [] k ls is h =
    subst (IsKeyOf Weights weighting b bytes) (same_some (record { levels = levels; points = [] }) k h)
    (record { levels = ls; points = refl; level = refl }, is ∙ append-nil (compact plain_level (forms_of weighting b) levels))

identical_by : (weighting : Weighting) (b : BookContent) (bytes : List ℕ) (levels : List (List ℕ)) (rest : List ℕ) (k : KeyParts) (t : Bool)
    → AreLevels (level_count weighting) levels → bytes ≡ compact plain_level (forms_of weighting b) levels ++ rest → is_utf8 rest ≡ t
    → cond t (Some (record { levels = levels; points = chars rest })) None ≡ Some k → IsKeyOf Identical weighting b bytes k
identical_by weighting b bytes levels rest k false ls is test h = nothing h
identical_by weighting b bytes levels rest k true ls is test h =
    let utf8 = IsUtf8-from_is_utf8 rest test in
    subst (IsKeyOf Identical weighting b bytes) (same_some (record { levels = levels; points = chars rest }) k h) (
      record { levels = ls; points = scalars-chars rest utf8; level = refl },
      is ∙ ap (λ (xs : List ℕ). compact plain_level (forms_of weighting b) levels ++ xs) (sym (encodes-chars rest utf8)),
    )

rest_by : (depth : Depth) (weighting : Weighting) (b : BookContent) (bytes : List ℕ) (levels : List (List ℕ)) (rest : List ℕ) (k : KeyParts)
    → AreLevels (level_count weighting) levels → bytes ≡ compact plain_level (forms_of weighting b) levels ++ rest
    → parts_then depth levels rest ≡ Some k → IsKeyOf depth weighting b bytes k
rest_by Weights weighting b bytes levels rest k ls is h = weights_by weighting b bytes levels rest k ls is h
rest_by Identical weighting b bytes levels rest k ls is h = identical_by weighting b bytes levels rest k (is_utf8 rest) ls is refl h

-- by the levels that are read
read_by : (depth : Depth) (weighting : Weighting) (b : BookContent) → AreForms (forms_of weighting b) → (bytes : List ℕ) (k : KeyParts) (o : Option ReadLevels) → AreBytes bytes
    → read_levels plain_level (forms_of weighting b) bytes ≡ o → with_rest depth o ≡ Some k → IsKeyOf depth weighting b bytes k
read_by depth weighting b fs bytes k None are is h = nothing h
read_by depth weighting b fs bytes k (Some l) are is h =
    let found = levels_only plain_level plain_weights (forms_of weighting b) fs bytes are l is in
    rest_by depth weighting b bytes l.levels l.rest k (found.0.0 ∙ forms_count weighting b, found.0.1) found.1 h

-- Nothing is read from other bytes.
pub keys_only : (depth : Depth) (weighting : Weighting) (b : BookContent) → AreForms (forms_of weighting b) → (bytes : List ℕ) → AreBytes bytes
    → (k : KeyParts) → read_key depth weighting b bytes ≡ Some k → IsKeyOf depth weighting b bytes k
keys_only depth weighting b fs bytes are k h = read_by depth weighting b fs bytes k (read_levels plain_level (forms_of weighting b) bytes) are refl h

-- ---- Keys with one compact key are one

pub one_key : EachCompactKeyIsOfOneKey
one_key depth weighting b left right book ls rs h =
    let fs = forms_fit weighting b book in
    same_some left right
    (sym (keys_back depth weighting b left fs ls) ∙ ap (read_key depth weighting b) h ∙ keys_back depth weighting b right fs rs)

-- ---- No compact key begins another

pub none_begins : NoCompactKeyBeginsAnother
none_begins weighting b left right more book ls rs h =
    let fs = forms_fit weighting b book in
    let one : levels_read left.levels more ≡ levels_read right.levels [] =
    sym (levels_again weighting b left.levels more fs ls.levels)
    ∙ ap (read_levels plain_level (forms_of weighting b)) (h ∙ sym (append-nil (compact plain_level (forms_of weighting b) right.levels)))
    ∙ levels_again weighting b right.levels [] fs rs.levels in
    let same = same_some (record { levels = left.levels; rest = more }) (record { levels = right.levels; rest = [] }) one in
    (ap (λ (k : ReadLevels). k.levels) same, ap (λ (k : ReadLevels). k.rest) same)
