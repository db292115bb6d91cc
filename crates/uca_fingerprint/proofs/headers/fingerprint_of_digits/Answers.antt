-- Digits are decoded to the bytes that they spell, and so other bytes spell another text.
use Rattle.std.proofs.Common.{◌≡◌, ◌∙◌, ℕ, List, Ok, length, ap, sym, subst}
use Rattle.std.proofs.lemmas.Slice.Eq.{slice_eq-Decides}
use Rattle.std.proofs.lemmas.Bool.Decides.{Decides-eqb}
use Rattle.hex.specs.Hex.{IsBytes, encode_lower, decode_sized}
use Rattle.hex.proofs.HexLemmas.{decode_sized-encode_lower}
use Rattle.uca_fingerprint.proofs.headers.fingerprint_of_digits.Goals as goal

-- the text of some bytes is decoded to them
decoded : (sum text : List ℕ) → length sum ≡ 32 → IsBytes sum → encode_lower sum ≡ text → decode_sized text 32 ≡ Ok sum
decoded sum text len bytes same = subst (λ t. decode_sized t 32 ≡ Ok sum) same (decode_sized-encode_lower sum 32 len bytes)

pub returns-else-eq : goal.returns-else-eq
returns-else-eq c sum len bytes same =
    let spelled : Ok c.in-Ok.sum ≡ Ok sum = c.in-Ok.ensures ∙ decoded sum c.args.text.now len bytes same in
    let is : c.in-Ok.sum ≡ sum = cc in
    let digits : c.as_slice.result.now ≡ c.as_bytes.result.now =
    c.as_slice.ensures ∙ c.digits.ensures ∙ ap encode_lower is ∙ same ∙ sym c.as_bytes.ensures.value in
    let equal = (slice_eq-Decides Decides-eqb _ _ _ c.eq.ensures).1 digits in
    let other = c.if-eq.false in cc

pub returns-in-Err : goal.returns-in-Err
returns-in-Err c sum len bytes same =
    let both = c.in-Err.ensures ∙ decoded sum c.args.text.now len bytes same in cc
