-- The key of a text by an open collator with a book.
use Rattle.std.proofs.Common.{◌≡◌, ◌∙◌, ℕ, List, Option, Some, option_map, ap, sym, subst, inl, inr}
use Rattle.std.specs.Prelude.{◌⊎◌}
use Rattle.std.specs.Str.{IsUtf8}
use Rattle.uca_weights.specs.declared.Settings.{Settings}
use Rattle.uca_text.specs.declared.normalize.TextFault.TheVariants.{Memory}
use Rattle.uca_order.specs.Keyings.{Keying, key_of_bytes, read_of}
use Rattle.uca_compact.specs.CompactKeys.{compact_key, text_parts}
use Rattle.uca_compact.specs.Programs.{CompacterState}
use Rattle.uca_owned.specs.Causes.{IsAcceptedBy}
use Rattle.uca_owned.specs.Owned.{OwnedState, keying_in}
use Rattle.uca_owned.specs.declared.faults.KeyFault.TheVariants.{Text}
use Rattle.uca_c.specs.declared.statuses.TheConstants.{OK, SMALL, MEMORY}
use Rattle.uca_c.specs.OpenCollators.{OpenState, key_by, keying_at}
use Rattle.uca_c.specs.Statuses.{IsKeyStatus}
use Rattle.uca_c.specs.inside.TextKeys.{IsKeyOf}
use Rattle.uca_c.proofs.CompactTexts.{bytes_key}

-- the key of a text is one under the settings of what makes compact keys, if these are the collator's
pub is_key : (c : OwnedState) (m : CompacterState) (text key : List ℕ) → m.settings ≡ c.settings → IsUtf8 text → key ≡ key_of_bytes (keying_in c) text
    → IsKeyOf m.settings (read_of (keying_in c) text) key
is_key c m text key same utf8 is = subst (λ (s : Settings). IsKeyOf s (read_of (keying_in c) text) key) (sym same) (bytes_key (keying_in c) text key utf8 is)

-- and its compact key is that of the collator
pub compact_by : (c : OwnedState) (m : CompacterState) (text : List ℕ) → m.settings ≡ c.settings
    → compact_key m.settings.depth m.settings.weighting m.book (text_parts m.settings.depth m.settings.weighting (read_of (keying_in c) text))
    ≡ key_by (keying_in c) (Some m.book) text
compact_by c m text same =
    ap (λ (s : Settings). compact_key s.depth s.weighting m.book (text_parts s.depth s.weighting (read_of (keying_in c) text))) same

-- the key by the parts of an open collator is the one by the collator
pub seen_key : (c : OwnedState) (o p : Option CompacterState) (s : OpenState) (text key : List ℕ) → o ≡ p → record { collator = c; book = option_map (λ m. m.book) o } ≡ s
    → key ≡ key_by (keying_in c) (option_map (λ m. m.book) p) text → key ≡ key_by (keying_at s) s.book text
seen_key c o p s text key found seen is =
    is ∙ ap (λ (it : Option CompacterState). key_by (keying_in c) (option_map (λ m. m.book) it) text) (sym found)
    ∙ ap (λ (s : OpenState). key_by (keying_at s) s.book text) seen

-- the status of an accepted text
pub key_status_by : (k : Keying) (text : List ℕ) (status : ℕ) → IsAcceptedBy k text
    → (status ≡ OK) ⊎ (status ≡ SMALL) ⊎ (status ≡ MEMORY) → IsKeyStatus k text status
key_status_by k text status accepted (inl ok) = inl (accepted, inl ok)
key_status_by k text status accepted (inr (inl small)) = inl (accepted, inr small)
key_status_by k text status accepted (inr (inr memory)) = inr (record { fault = Text Memory; cause = (accepted.utf8, tt); same = memory })
