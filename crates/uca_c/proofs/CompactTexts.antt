-- The compact key of a text, and that there is one.
use Rattle.std.proofs.Common.{◌≡◌, ◌∙◌, ℕ, List, Bool, true, false, Option, Some, None, option_map, if◌then◌else◌, chars, refl, ap, sym, subst}
use Rattle.std.specs.Str.{IsUtf8}
use Rattle.std.proofs.lemmas.Str.{scalars-chars}
use Rattle.uca_weights.specs.declared.Settings.{Settings}
use Rattle.uca_scalars.proofs.NfdScalars.{normal_scalars}
use Rattle.uca_order.specs.Depths.{ReadText}
use Rattle.uca_order.specs.Keyings.{Keying, key_of_bytes, read_of}
use Rattle.uca_books.specs.Books.{BookContent}
use Rattle.uca_compact.specs.CompactKeys.{KeyParts, text_parts, compact_key}
use Rattle.uca_compact.specs.StoredParts.{stored_parts}
use Rattle.uca_compact.proofs.OnlyCells.{AreBytes, nothing, same_some}
use Rattle.uca_compact.proofs.TextKeys.{parts_of_bytes, text_is_read}
use Rattle.uca_c.specs.inside.TextKeys.{IsKeyOf}

-- its parts are read
pub parts_are_read : (s : Settings) (t : ReadText) (key : List ℕ) → AreBytes key → IsKeyOf s t key
    → stored_parts s.depth s.weighting key ≡ Some (text_parts s.depth s.weighting t)
parts_are_read s t key are is =
    ap (stored_parts s.depth s.weighting) is.is ∙ text_is_read s.depth s.weighting t (parts_of_bytes s.depth s.weighting t (subst AreBytes is.is are) is.scalars)

-- what is found then
found_by : (code : KeyParts → List ℕ) (o : Option KeyParts) (k : KeyParts) (made : List ℕ) (found : Bool) → o ≡ Some k
    → option_map code o ≡ (if found then Some made else None) → (found ≡ true) × (made ≡ code k)
found_by code o k made true read h = (refl, sym (same_some (code k) made (ap (option_map code) (sym read) ∙ h)))
found_by code o k made false read h = nothing (sym (ap (option_map code) (sym read) ∙ h))

pub found_text : (s : Settings) (b : BookContent) (t : ReadText) (key made : List ℕ) (found : Bool) → AreBytes key → IsKeyOf s t key
    → option_map (compact_key s.depth s.weighting b) (stored_parts s.depth s.weighting key) ≡ (if found then Some made else None)
    → (found ≡ true) × (made ≡ compact_key s.depth s.weighting b (text_parts s.depth s.weighting t))
found_text s b t key made found are is h =
    found_by (compact_key s.depth s.weighting b) (stored_parts s.depth s.weighting key) (text_parts s.depth s.weighting t) made found (parts_are_read s t key are is) h

-- the key of bytes that are UTF-8 is such a key
pub bytes_key : (k : Keying) (bytes key : List ℕ) → IsUtf8 bytes → key ≡ key_of_bytes k bytes → IsKeyOf k.settings (read_of k bytes) key
bytes_key k bytes key utf8 is = record { scalars = normal_scalars (chars bytes) (scalars-chars bytes utf8); is = is }
