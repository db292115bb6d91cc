-- Bytes whose first bytes are those of a text, so many of them. Where a code point of the text begins among these, the bytes are cut.
use Rattle.std.proofs.Common.{◌≡◌, ◌≤◌, ◌-◌, ℕ, List, length, length-drop, take, take_all, drop, take-take, take-append-drop, ap, sym, subst, ◌∙◌, arith}
use Rattle.std.specs.Str.{IsUtf8, IsCharBoundary}
use Rattle.std.proofs.lemmas.Str.{IsUtf8-append, IsUtf8-take, IsUtf8-drop, IsCharBoundary-from_take}

-- what comes before the cut is UTF-8
front_is : (text bytes : List ℕ) (shared cut : ℕ) → IsUtf8 text → take shared text ≡ take shared bytes → cut ≤ shared → IsCharBoundary text cut
    → IsUtf8 (take cut bytes)
front_is text bytes shared cut utf8 same within boundary =
    subst IsUtf8 (sym (take-take cut shared text within) ∙ ap (take cut) same ∙ take-take cut shared bytes within) (IsUtf8-take text cut utf8 boundary)

-- what comes after it, as a slice has it
abbrev pub rest_of : List ℕ → ℕ → List ℕ
rest_of bytes cut = take (length bytes - cut) (drop cut bytes)

is_rest : (bytes : List ℕ) (cut : ℕ) → rest_of bytes cut ≡ drop cut bytes
is_rest bytes cut = take_all (length bytes - cut) (drop cut bytes) (omega (arith, length-drop cut bytes))

-- all is UTF-8, if this is
pub whole_is : (text bytes : List ℕ) (shared cut : ℕ) → IsUtf8 text → take shared text ≡ take shared bytes → cut ≤ shared → IsCharBoundary text cut
    → IsUtf8 (rest_of bytes cut) → IsUtf8 bytes
whole_is text bytes shared cut utf8 same within boundary rest =
    subst IsUtf8 (take-append-drop cut bytes)
    (IsUtf8-append (take cut bytes) (drop cut bytes) (front_is text bytes shared cut utf8 same within boundary) (subst IsUtf8 (is_rest bytes cut) rest))

-- and only then
pub rest_is : (text bytes : List ℕ) (shared cut : ℕ) → IsUtf8 text → take shared text ≡ take shared bytes → shared ≤ length bytes → cut ≤ shared
    → IsCharBoundary text cut → IsUtf8 bytes → IsUtf8 (rest_of bytes cut)
rest_is text bytes shared cut utf8 same fits within boundary whole =
    subst IsUtf8 (sym (is_rest bytes cut))
    (IsUtf8-drop bytes cut whole (IsCharBoundary-from_take bytes cut whole (omega (arith, fits, within)) (front_is text bytes shared cut utf8 same within boundary)))
