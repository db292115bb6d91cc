-- The key of a text as it is shown, by what is made of its key.
use Rattle.std.proofs.Common.{◌≡◌, ◌∙◌, ◌+◌, ◌*◌, ◌^◌, ◌<◌, ◌≤◌, Option, Some, None, length, refl, ap, subst, sym, arith}
use Rattle.std.specs.Prelude.{option_map}
use Rattle.uca_weights.specs.declared.Depth.{Depth}
use Rattle.uca_weights.specs.declared.Settings.{Settings}
use Rattle.uca_weights.specs.declared.Weighting.{Weighting}
use Rattle.uca_order.specs.Depths.{ReadText, key_at}
use Rattle.uca_books.specs.Books.{BookContent}
use Rattle.uca_compact.specs.CompactKeys.{compact_key, stored_key, text_parts}
use Rattle.uca_compact.specs.Laws.{CompactKeysKeepOrder}
use Rattle.uca_compact.proofs.Lengths.{compact_is_short}
use Rattle.uca_compact.proofs.TextOrder.{keys_keep_order}
use Rattle.uca_compact.specs.Programs.{CompacterState}
use Rattle.uca_key_runs.specs.inside.KeyForms.{CompactState, IsFor, book_of, compacter_of, shown_at}

-- a key that is shown is short where the whole key is
pub shown_is_short : (book : Option BookContent) (depth : Depth) (weighting : Weighting) (t : ReadText) → length (key_at depth weighting t) < 2 ^ 40
    → length (shown_at book depth weighting t) < 2 ^ 41
shown_is_short None depth weighting t short = omega (arith, short)
shown_is_short (Some b) depth weighting t short =
    let law : CompactKeysKeepOrder = keys_keep_order in
    let parts = text_parts depth weighting t in
    let most : length (compact_key depth weighting b parts) ≤ 2 * length (stored_key depth parts) + 1 = compact_is_short depth weighting b parts in
    let same : length (stored_key depth parts) ≡ length (key_at depth weighting t) = ap length (law.key depth weighting t) in
    omega (arith, most, same, short)

-- the book is that of the compacter
book_by : (compact : Option CompactState) → book_of compact ≡ option_map (λ (by : CompacterState). by.book) (compacter_of compact)
book_by None = refl
book_by (Some c) = refl

pub same_book : (one other : Option CompactState) → compacter_of one ≡ compacter_of other → book_of one ≡ book_of other
same_book one other same = book_by one ∙ ap (option_map (λ (by : CompacterState). by.book)) same ∙ sym (book_by other)

-- what was for some settings is for the same ones
pub still_for : (before now : Option CompacterState) (old new : Settings) → before ≡ now → old ≡ new → IsFor before old → IsFor now new
still_for before now old new same alike is = subst (IsFor now) alike (subst (λ (by : Option CompacterState). IsFor by old) same is)
