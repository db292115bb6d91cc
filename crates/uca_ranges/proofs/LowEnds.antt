-- Two low ends are the same exactly if the levels are.
use Rattle.std.proofs.Common.{◌≡◌, inl, inr, ℕ, ◌-◌, ◌/◌, ◌%◌, ◌<◌, ◌≤◌, List, [], ◌∷◌, ◌++◌, length, refl, ap, sym, ◌∙◌, arith, length-append}
use Rattle.std.specs.List.{AllByRecursion}
use Rattle.uca_weights.specs.declared.Depth.TheVariants.{Weights}
use Rattle.uca_weights.specs.declared.Weighting.{Weighting}
use Rattle.uca_order.specs.Levels.{level_count, level_bytes, levels_bytes}
use Rattle.uca_books.specs.Books.{BookContent, IsBook}
use Rattle.uca_compact.specs.Forms.{AreWeights}
use Rattle.uca_compact.specs.CompactKeys.{KeyParts}
use Rattle.uca_compact.proofs.WholeKeys.{one_key}
use Rattle.uca_ranges.specs.Ranges.{plain_levels, levels_after, with_last, plain_key, compact_levels_low}
use Rattle.uca_ranges.specs.Laws.{StoredLowEndsTellLevels, CompactLowEndsTellLevels}
use Rattle.uca_ranges.proofs.StoredRanges.{IsTail}
use Rattle.uca_ranges.proofs.CompactLevels.{last_of, EndsInByte, ends_in_byte, same_front}
use Rattle.uca_ranges.proofs.CompactFinds.{plain_parts, parts_of}

-- ---- Stored keys

-- bytes of a weight are no end of a level
no_tail : (w : ℕ) (tail more : List ℕ) → 0 < w → IsTail tail → tail ≡ w / 256 ∷ w % 256 ∷ more → ⊥
no_tail w tail more above (inl none) same = let e : [] ≡ w / 256 ∷ w % 256 ∷ more = sym none ∙ same in cc
no_tail w tail more above (inr some) same =
    let e : 0 ∷ 0 ∷ some.0 ≡ w / 256 ∷ w % 256 ∷ more = sym some.1 ∙ same in
    let high : 0 ≡ w / 256 = cc in
    let low : 0 ≡ w % 256 = cc in
    omega arith

-- weights are read back from their bytes, before the end of a level
level_told : (a b tail more : List ℕ) → AreWeights a → AreWeights b → IsTail tail → IsTail more → level_bytes a ++ tail ≡ level_bytes b ++ more
    → (a ≡ b) × (tail ≡ more)
level_told [] [] tail more aw bw te me same = (refl, same)
level_told [] (w ∷ b) tail more aw bw te me same = absurd (no_tail w tail (level_bytes b ++ more) bw.0.0 te same)
level_told (v ∷ a) [] tail more aw bw te me same = absurd (no_tail v more (level_bytes a ++ tail) aw.0.0 me (sym same))
level_told (v ∷ a) (w ∷ b) tail more aw bw te me same =
    let both : v / 256 ∷ v % 256 ∷ (level_bytes a ++ tail) ≡ w / 256 ∷ w % 256 ∷ (level_bytes b ++ more) = same in
    let high : v / 256 ≡ w / 256 = cc in
    let low : v % 256 ≡ w % 256 = cc in
    let rest : level_bytes a ++ tail ≡ level_bytes b ++ more = cc in
    let first : v ≡ w = omega arith in
    let later = level_told a b tail more aw.1 bw.1 te me rest in
    let weights : a ≡ b = later.0 in
    (cc, later.1)

-- so are levels
levels_told : (left right : List (List ℕ)) → length left ≡ length right → AllByRecursion AreWeights left → AllByRecursion AreWeights right
    → levels_bytes left ≡ levels_bytes right → left ≡ right
levels_told [] [] long ls rs same = refl
levels_told [] (b ∷ right) long ls rs same = absurd (omega (arith, long))
levels_told (a ∷ left) [] long ls rs same = absurd (omega (arith, long))
levels_told (a ∷ []) (b ∷ []) long ls rs same =
    let both = level_told a b [] [] ls.0 rs.0 (inl refl) (inl refl) (ap (λ (xs : List ℕ). xs ++ []) same) in
    ap (λ (xs : List ℕ). xs ∷ []) both.0
levels_told (a ∷ []) (b ∷ d ∷ right) long ls rs same = absurd (omega (arith, long))
levels_told (a ∷ c ∷ left) (b ∷ []) long ls rs same = absurd (omega (arith, long))
levels_told (a ∷ c ∷ left) (b ∷ d ∷ right) long ls rs same =
    let both = level_told a b (0 ∷ 0 ∷ levels_bytes (c ∷ left)) (0 ∷ 0 ∷ levels_bytes (d ∷ right)) ls.0 rs.0
    (inr (levels_bytes (c ∷ left), refl)) (inr (levels_bytes (d ∷ right), refl)) same in
    let first : a ≡ b = both.0 in
    let zeros : 0 ∷ 0 ∷ levels_bytes (c ∷ left) ≡ 0 ∷ 0 ∷ levels_bytes (d ∷ right) = both.1 in
    let bytes : levels_bytes (c ∷ left) ≡ levels_bytes (d ∷ right) = cc in
    let later : c ∷ left ≡ d ∷ right = levels_told (c ∷ left) (d ∷ right) (omega (arith, long)) ls.1 rs.1 bytes in
    cc

pub stored_told : StoredLowEndsTellLevels
stored_told count left right ls rs = (levels_told left right (ls.0 ∙ sym rs.0) ls.1 rs.1, ap levels_bytes)

-- ---- Compact keys

-- bytes that are the same, with their last ones
last_told : (xs ys : List ℕ) (x y : ℕ) → xs ++ x ∷ [] ≡ ys ++ y ∷ [] → (xs ≡ ys) × (x ≡ y)
last_told [] [] x y same = let both : x ∷ [] ≡ y ∷ [] = same in (refl, cc)
last_told [] (b ∷ ys) x y same = absurd (omega (arith, ap length same, length-append (b ∷ ys) (y ∷ [])))
last_told (a ∷ xs) [] x y same = absurd (omega (arith, ap length same, length-append (a ∷ xs) (x ∷ [])))
last_told (a ∷ xs) (b ∷ ys) x y same =
    let both : a ∷ (xs ++ x ∷ []) ≡ b ∷ (ys ++ y ∷ []) = same in
    let first : a ≡ b = cc in
    let rest : xs ++ x ∷ [] ≡ ys ++ y ∷ [] = cc in
    let later = last_told xs ys x y rest in
    let front : xs ≡ ys = later.0 in
    (cc, later.1)

-- the low end is the key with plain levels, and a lesser last byte
low_is : (weighting : Weighting) (b : BookContent) (firsts : List (List ℕ)) (e : EndsInByte weighting b firsts)
    → compact_levels_low weighting b firsts ≡ e.front ++ (e.end - levels_after weighting firsts) ∷ []
low_is weighting b firsts e =
    ap (with_last (λ end. end - levels_after weighting firsts)) e.is ∙ last_of (λ end. end - levels_after weighting firsts) e.front e.end

-- so the keys with plain levels are the same
plain_told : (weighting : Weighting) (b : BookContent) (left right : List (List ℕ)) → length left ≡ length right
    → EndsInByte weighting b left → EndsInByte weighting b right → compact_levels_low weighting b left ≡ compact_levels_low weighting b right
    → plain_key weighting b left ≡ plain_key weighting b right
plain_told weighting b left right long d e same =
    let both = last_told d.front e.front (d.end - levels_after weighting left) (e.end - levels_after weighting right)
    (sym (low_is weighting b left d) ∙ same ∙ low_is weighting b right e) in
    let dr : levels_after weighting left ≤ d.end = d.room in
    let er : levels_after weighting right ≤ e.end = e.room in
    let later : levels_after weighting left ≡ levels_after weighting right = ap (λ (n : ℕ). level_count weighting - n) long in
    let end : d.end ≡ e.end = omega (arith, both.1, later, dr, er) in
    d.is ∙ ap (λ (xs : List ℕ). xs ++ d.end ∷ []) both.0 ∙ ap (λ (n : ℕ). e.front ++ n ∷ []) end ∙ sym e.is

-- and so are the levels
compact_same : (weighting : Weighting) (b : BookContent) (left right : List (List ℕ)) → IsBook b → 0 < length left → length left ≤ level_count weighting
    → length left ≡ length right → AllByRecursion AreWeights left → AllByRecursion AreWeights right
    → compact_levels_low weighting b left ≡ compact_levels_low weighting b right → left ≡ right
compact_same weighting b left right book some few long ls rs same =
    let more : 0 < length right = omega (arith, some, long) in
    let also : length right ≤ level_count weighting = omega (arith, few, long) in
    let keys = plain_told weighting b left right long (ends_in_byte weighting b left some few) (ends_in_byte weighting b right more also) same in
    let parts = one_key Weights weighting b (plain_parts weighting left) (plain_parts weighting right) book
    (parts_of Weights weighting left ls few) (parts_of Weights weighting right rs also) keys in
    same_front left right (plain_levels left (levels_after weighting left)) (plain_levels right (levels_after weighting right)) long
    (ap (λ (k : KeyParts). k.levels) parts)

pub compact_told : CompactLowEndsTellLevels
compact_told weighting b count left right book some few ls rs = (
  compact_same weighting b left right book (omega (arith, ls.0, some)) (omega (arith, ls.0, few)) (ls.0 ∙ sym rs.0) ls.1 rs.1,
  ap (compact_levels_low weighting b),
)
