-- No key of an open collator has more bytes than its bound.
use Rattle.std.proofs.Common.{◌≡◌, ℕ, Option, Some, None, option_map, length, refl, ap, sym, subst, arith}
use Rattle.uca_weights.specs.declared.Depth.{Depth}
use Rattle.uca_weights.specs.declared.Depth.TheVariants.{Weights, Identical}
use Rattle.uca_weights.specs.declared.Weighting.{Weighting}
use Rattle.uca_order.specs.Depths.{ReadText, key_at}
use Rattle.uca_order.specs.Keyings.{Keying, key_of_bytes, read_of}
use Rattle.uca_books.specs.Books.{BookContent}
use Rattle.uca_compact.specs.CompactKeys.{stored_key, text_parts}
use Rattle.uca_compact.specs.Programs.{CompacterState}
use Rattle.uca_compact.proofs.Lengths.{compact_is_short}
use Rattle.uca_owned.specs.Bounds.{BoundsKeys, key_bound}
use Rattle.uca_owned.specs.Owned.{OwnedState, keying_in}
use Rattle.uca_compact.specs.CompactTexts.{parts_of}
use Rattle.uca_c.specs.OpenCollators.{OpenState, keying_at, key_by}
use Rattle.uca_c.specs.TextCalls.{bound_by}

-- the parts of the key of a text are its key
same_key : (depth : Depth) (weighting : Weighting) (t : ReadText) → stored_key depth (text_parts depth weighting t) ≡ key_at depth weighting t
same_key Weights weighting t = refl
same_key Identical weighting t = refl

bounded : (k : Keying) (book : Option BookContent) (count : ℕ) → BoundsKeys (key_of_bytes k) count (key_bound count)
    → BoundsKeys (key_by k book) count (bound_by book count)
bounded k None count bounds text fits utf8 = bounds text fits utf8
bounded k (Some b) count bounds text fits utf8 =
    let same : length (stored_key k.settings.depth (parts_of k text)) ≡ length (key_of_bytes k text) =
    ap length (same_key k.settings.depth k.settings.weighting (read_of k text)) in
    omega (arith, bounds text fits utf8, same, compact_is_short k.settings.depth k.settings.weighting b (parts_of k text))

-- so it is where the parts of a collator are seen
pub seen_bound : (c : OwnedState) (o p : Option CompacterState) (s : OpenState) (count whole bound : ℕ) → o ≡ p
    → record { collator = c; book = option_map (λ m. m.book) o } ≡ s → whole ≡ key_bound count → BoundsKeys (key_of_bytes (keying_in c)) count whole
    → bound ≡ bound_by (option_map (λ m. m.book) p) count → BoundsKeys (key_by (keying_at s) s.book) count bound
seen_bound c o p s count whole bound found seen is bounds same =
    let by : (book : Option BookContent) → BoundsKeys (key_by (keying_in c) book) count (bound_by book count) =
    λ book. bounded (keying_in c) book count (subst (BoundsKeys (key_of_bytes (keying_in c)) count) is bounds) in
    subst (λ (s : OpenState). BoundsKeys (key_by (keying_at s) s.book) count bound) seen
    (subst (λ (it : Option CompacterState). BoundsKeys (key_by (keying_in c) (option_map (λ m. m.book) it)) count bound) (sym found)
    (subst (BoundsKeys (key_by (keying_in c) (option_map (λ m. m.book) p)) count) (sym same) (by (option_map (λ m. m.book) p))))
